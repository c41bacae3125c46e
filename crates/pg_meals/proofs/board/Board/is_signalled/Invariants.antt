use Rattle.std.proofs.Common.{ℕ, ◌≡◌, ◌<◌, slice_index_or, false}
use Rattle.pg_graph.specs.Multigraph.{edges_at}
use Rattle.pg_meals.specs.Least.{rides_to}
use Rattle.pg_meals.proofs.board.Board.is_signalled.Given as goal

-- the forks so far have no message for the vertex
abbrev pub invariant-loop-edge : goal.invariant-loop-edge
invariant-loop-edge g l = (i : ℕ) → i < l.edge-index → rides_to l.graph l.self l.vertex (slice_index_or (edges_at l.graph l.vertex) i 0) ≡ false
