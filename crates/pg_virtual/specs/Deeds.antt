-- The deeds of an actor over a graph.
use Rattle.pg_graph.specs.Multigraph.{Multigraph}
use Rattle.pg_meals.specs.Steps.{IsWithin}
use Rattle.pg_virtual.specs.declared.hand.Deed.{Deed}
use Rattle.pg_virtual.specs.declared.hand.Deed.TheVariants.{Acts, Prepares}

-- the vertex or edge of the deed is one of the graph
abbrev pub IsFor : Multigraph → Deed → Type 0
IsFor g (Acts act) = IsWithin g act
IsFor g Prepares = Unit {0}
