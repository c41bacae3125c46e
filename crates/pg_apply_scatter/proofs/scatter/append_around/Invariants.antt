use Rattle.std.proofs.Common.{◌≡◌, ◌++◌}
use Rattle.pg_graph.specs.Multigraph.{Multigraph}
use Rattle.pg_edge_store.specs.Store.{IsOver, places_around}
use Rattle.pg_apply_scatter.proofs.scatter.append_around.Given as goal

-- what was appended and what is still to come are the places around the vertex
abbrev pub invariant-loop-place : goal.invariant-loop-place
invariant-loop-place l = (g : Multigraph) → IsOver g l.store
    → l.places.items ++ l.place-iterator ≡ l.initial.places.items ++ places_around g l.store.numbers l.fn.v l.fn.dir
