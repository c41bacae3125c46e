use Rattle.pg_apply_scatter.specs.Places.{ArePlaces}
use Rattle.pg_apply_scatter.proofs.scatter.places_of.Given as goal

-- the places of the vertices so far
abbrev pub invariant-loop-v : goal.invariant-loop-v
invariant-loop-v g l = ArePlaces l.graph l.store.numbers (g.P.VertexProgram.meaning l.program).scatter_edges l.carries l.v l.places.items
