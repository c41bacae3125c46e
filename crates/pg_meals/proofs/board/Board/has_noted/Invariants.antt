use Rattle.std.proofs.Common.{ℕ, ◌≡◌, ◌<◌, slice_index_or, true}
use Rattle.pg_graph.specs.Multigraph.{edges_at}
use Rattle.pg_meals.specs.Readied.{sees_over}
use Rattle.pg_meals.proofs.board.Board.has_noted.Given as goal

-- the forks so far are seen
abbrev pub invariant-loop-edge : goal.invariant-loop-edge
invariant-loop-edge g l = (i : ℕ) → i < l.edge-index → sees_over l.gathers l.scatters l.graph l.self.forks.items l.actor l.vertex (slice_index_or (edges_at l.graph l.vertex) i 0) ≡ true
