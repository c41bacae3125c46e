use Rattle.std.proofs.Common.{◌≡◌, ℕ, ◌≤◌, Some, map, take, get_or}
use Rattle.pg_sync.specs.Phases.{Seat}
use Rattle.pg_sync.proofs.collect.sums_of.Given as goal

-- the sums so far are taken
abbrev pub invariant-loop-w : goal.invariant-loop-w
invariant-loop-w g l = record {
  sums : map Some l.parts.items ≡ map (λ seat. seat.1) (take l.w l.initial.seats);
  counters : map (λ seat. seat.0) l.seats ≡ map (λ seat. seat.0) l.initial.seats;
  rest : (k : ℕ) (d : Seat g.row.A.Denot) → l.w ≤ k → get_or l.seats k d ≡ get_or l.initial.seats k d;
}
