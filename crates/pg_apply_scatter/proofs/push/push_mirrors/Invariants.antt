use Rattle.std.proofs.Common.{◌≡◌, ℕ, ◌<◌, ◌≤◌}
use Rattle.pg_mirrors.specs.Mirrors.{Pushes}
use Rattle.pg_apply_scatter.specs.Pushing.{table_at}
use Rattle.pg_apply_scatter.proofs.push.push_mirrors.Given as goal

-- the tables so far are pushed
abbrev pub invariant-loop-w : goal.invariant-loop-w
invariant-loop-w l = record {
  pushed : (k : ℕ) → k < l.w → Pushes (table_at l.initial.mirrors k) (table_at l.mirrors k) l.applied;
  rest : (k : ℕ) → l.w ≤ k → table_at l.mirrors k ≡ table_at l.initial.mirrors k;
}
