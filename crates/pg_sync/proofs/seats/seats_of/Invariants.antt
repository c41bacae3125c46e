use Rattle.std.proofs.Common.{◌≡◌, ◌≤◌, ℕ, Option, take, get_or, length}
use Rattle.std.specs.Vec.{vec_len, vec_capacity}
use Rattle.pg_sync.specs.Counting.{counters_of}
use Rattle.pg_sync.proofs.seats.seats_of.Given as goal

-- the counters so far are lent, and there is room for the rest
abbrev pub invariant-loop-w : goal.invariant-loop-w
invariant-loop-w g l = record {
  lent : counters_of l.seats.items ≡ take l.w l.initial.steps;
  count : vec_len l.seats ≡ l.w;
  room : length l.initial.steps ≤ vec_capacity l.seats;
  rest : (k : ℕ) (d : Option ℕ) → l.w ≤ k → get_or l.steps k d ≡ get_or l.initial.steps k d;
}
