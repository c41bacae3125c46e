use Rattle.std.proofs.Common.{◌≡◌, ◌≤◌, ℕ, take, get_or}
use Rattle.pg_sync.specs.Phases.{Seat}
use Rattle.pg_sync.specs.Counting.{counters_of}
use Rattle.pg_sync.proofs.seats.give_back.Given as goal

-- the counters so far are back
abbrev pub invariant-loop-w : goal.invariant-loop-w
invariant-loop-w g l = record {
  back : take l.w l.steps ≡ take l.w (counters_of l.initial.seats);
  rest : (k : ℕ) (d : Seat g.row.A.Denot) → l.w ≤ k → get_or l.seats k d ≡ get_or l.initial.seats k d;
}
