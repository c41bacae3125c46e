use Rattle.std.proofs.Common.{ℕ, ◌≡◌, ◌≤◌, length}
use Rattle.std.specs.Prelude.{map}
use Rattle.std.specs.List.{range_with_len}
use Rattle.std.specs.Vec.{vec_capacity}
use Rattle.pg_law.specs.Values.{two}
use Rattle.pg_meals.specs.Entries.{seat_at}
use Rattle.pg_meals.proofs.closing.put_cells.Given as goal

-- the cells so far, those that stand yet, and room
abbrev pub invariant-loop-v : goal.invariant-loop-v
invariant-loop-v g l = record {
  done : l.cells.items ≡ map (λ v. (seat_at (two 0 0) l.fn.seats.items v).cell) (range_with_len 0 l.v);
  count : length l.cells.items ≡ l.v;
  len : length l.seats.items ≡ length l.fn.seats.items;
  rest : (u : ℕ) → l.v ≤ u → (seat_at (two 0 0) l.seats.items u).cell ≡ (seat_at (two 0 0) l.fn.seats.items u).cell;
  room : vec_capacity l.cells ≡ vec_capacity l.fn.cells;
}
