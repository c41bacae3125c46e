use Rattle.std.specs.Prelude.{◌≡◌, ◌≤◌, ℕ, map}
use Rattle.std.specs.List.{range_with_len}
use Rattle.pg_meals.specs.Setting.{cell_at}
use Rattle.pg_meals.specs.Opening.{seat_on}
use Rattle.pg_meals.proofs.opening.seats_of.Given as goal

-- the seats so far, and the cells of the other vertices
abbrev pub invariant-loop-v : goal.invariant-loop-v
invariant-loop-v g l = record {
  done : l.seats.items ≡ map (seat_on l.state l.fn.cells.items) (range_with_len 0 l.v);
  rest : (u : ℕ) → l.v ≤ u → cell_at l.cells.items u ≡ cell_at l.fn.cells.items u;
}
