use Rattle.std.proofs.Common.{ℕ, ◌≡◌, ◌<◌, length, cond}
use Rattle.pg_delta.specs.Cell.{cleared}
use Rattle.pg_meals.specs.Setting.{cell_at}
use Rattle.pg_meals.specs.Closing.{waits_below}
use Rattle.pg_meals.proofs.closing.clear_waiting.Given as goal

-- each cell is cleared for which a delta waits on the forks so far
abbrev pub invariant-loop-e : goal.invariant-loop-e
invariant-loop-e g l = record {
  len : length l.cells.items ≡ length l.graph.ids;
  cleared : (v : ℕ) → v < length l.graph.ids
      → cell_at l.cells.items v ≡ cond (waits_below l.graph l.forks v l.e) cleared (cell_at l.fn.cells.items v);
}
