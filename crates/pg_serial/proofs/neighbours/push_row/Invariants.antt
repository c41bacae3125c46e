use Rattle.std.proofs.Common.{◌≡◌, ◌++◌, take}
use Rattle.std.specs.Prelude.{map}
use Rattle.pg_graph.specs.Multigraph.{edges_at}
use Rattle.pg_serial.specs.Sending.{other_end}
use Rattle.pg_serial.proofs.neighbours.push_row.Given as goal

-- the other ends of the edges so far
abbrev pub invariant-loop-e : goal.invariant-loop-e
invariant-loop-e l = l.ends.items ≡ l.initial.ends.items ++ map (other_end l.graph l.v) (take l.e-index (edges_at l.graph l.v))
