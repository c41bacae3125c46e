use Rattle.std.proofs.Common.{◌≡◌, take}
use Rattle.std.specs.Prelude.{map}
use Rattle.pg_serial.specs.Neighbours.{end_sum}
use Rattle.pg_serial.proofs.neighbours.end_sums.Given as goal

-- the sums of the edges so far
abbrev pub invariant-loop-edge : goal.invariant-loop-edge
invariant-loop-edge l = l.sums.items ≡ map end_sum (take l.edge-index l.graph.edges)
