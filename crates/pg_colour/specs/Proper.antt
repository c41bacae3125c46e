-- Proper colourings.
use Rattle.std.specs.Prelude.{◌≢◌, ℕ, ◌<◌, List, length}
use Rattle.pg_graph.specs.declared.edge.Side.TheVariants.{Source, Target}
use Rattle.pg_graph.specs.Multigraph.{Multigraph, end_at}
use Rattle.pg_law.specs.declared.values.Datum.{Datum}
use Rattle.pg_law.specs.Configuration.{datum_in}

abbrev pub colour_in : List Datum → ℕ → ℕ
colour_in values v = (datum_in values v).first

-- the ends of every edge differ
abbrev pub IsProper : Multigraph → List Datum → Type 0
IsProper g values = (e : ℕ) → e < length g.edges
    → colour_in values (end_at g Source e) ≢ colour_in values (end_at g Target e)
