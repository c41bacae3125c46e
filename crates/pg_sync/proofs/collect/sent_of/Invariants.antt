use Rattle.std.proofs.Common.{◌≡◌, ℕ, ◌≤◌, Ok, map, take, get_or}
use Rattle.pg_sync.specs.declared.worker.Scattering.{Scattering}
use Rattle.pg_sync.proofs.collect.sent_of.Given as goal

-- the lists so far are taken
abbrev pub invariant-loop-w : goal.invariant-loop-w
invariant-loop-w g l = record {
  sent : map Ok l.lists.items ≡ map (λ worker. worker.sent) (take l.w l.initial.workers);
  stores : map (λ worker. worker.store) l.workers ≡ map (λ worker. worker.store) l.initial.workers;
  rest : (k : ℕ) (d : Scattering g.row.A.Denot) → l.w ≤ k → get_or l.workers k d ≡ get_or l.initial.workers k d;
}
