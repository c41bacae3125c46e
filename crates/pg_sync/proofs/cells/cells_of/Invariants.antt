use Rattle.std.proofs.Common.{◌≡◌, length}
use Rattle.std.specs.Prelude.{All}
use Rattle.pg_delta.specs.Cell.{cleared}
use Rattle.pg_sync.proofs.cells.cells_of.Given as goal

-- the cells so far are of nothing
abbrev pub invariant-loop-vertex : goal.invariant-loop-vertex
invariant-loop-vertex g l = record {
  count : length l.cells.items ≡ l.vertex;
  cleared : All (λ cell. cell ≡ cleared) l.cells.items;
}
