use Rattle.std.proofs.Common.{◌≡◌, length}
use Rattle.pg_serial.specs.Neighbours.{beside, AreNeighbours}
use Rattle.pg_serial.proofs.neighbours.Neighbours.of.Given as goal

-- the rows so far
abbrev pub invariant-loop-v : goal.invariant-loop-v
invariant-loop-v l = record {
  rows : AreNeighbours l.graph (beside l.starts.items l.ends.items);
  count : length l.starts.items ≡ l.v;
}
