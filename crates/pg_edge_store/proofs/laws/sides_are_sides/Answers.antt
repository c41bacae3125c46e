use Rattle.pg_edge_store.proofs.Replicas.{side_agrees}
use Rattle.pg_edge_store.proofs.laws.sides_are_sides.Goals as goal

pub returns : goal.returns
returns c = λ g s r i over h inside. side_agrees g s over r h i inside
