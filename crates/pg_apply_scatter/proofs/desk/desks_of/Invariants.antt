use Rattle.std.proofs.Common.{◌≡◌, ℕ, None}
use Rattle.pg_apply_scatter.specs.Desks.{AreDesks, signal_at}
use Rattle.pg_apply_scatter.proofs.desk.desks_of.Given as goal

-- the desks of the vertices so far, without a signal
abbrev pub invariant-loop-v : goal.invariant-loop-v
invariant-loop-v g l = record {
  desks : AreDesks l.mirrors l.carries l.v l.desks.items;
  none : (i : ℕ) → signal_at l.desks.items i ≡ None;
}
