-- The rank equation of a vertex.
use Rattle.std.specs.Prelude.{◌≡◌, ℕ, ◌+◌, ◌*◌, ◌/◌, ◌%◌, ◌^◌, ◌<◌, ◌==◌, List, length, filter}
use Rattle.std.specs.Prelude.{sum_by}
use Rattle.pg_graph.specs.declared.edge.Side.TheVariants.{Source, Target}
use Rattle.pg_graph.specs.Multigraph.{Multigraph, edge_numbers, end_at, info}
use Rattle.pg_law.specs.declared.values.Datum.{Datum}
use Rattle.pg_law.specs.Configuration.{datum_in}

abbrev pub rank_in : List Datum → ℕ → ℕ
rank_in values v = (datum_in values v).first

-- the edges that lead to v
abbrev pub edges_into : Multigraph → ℕ → List ℕ
edges_into g v = filter (λ e. end_at g Target e == v) (edge_numbers g)

-- what an edge brings: the rank of its source by the number of edges out of that
abbrev pub brought_over : Multigraph → List Datum → ℕ → ℕ
brought_over g values e = let u = end_at g Source e in rank_in values u / (info g u).out_degree

-- what all edges to v bring, modulo 2^64
abbrev pub brought_to : Multigraph → List Datum → ℕ → ℕ
brought_to g values v = sum_by (brought_over g values) (edges_into g v) % 2 ^ 64

-- 15 hundredths of a billion, and 85 hundredths of what is brought
abbrev pub MeetsEquation : Multigraph → List Datum → ℕ → Type 0
MeetsEquation g values v = rank_in values v ≡ 150000000 + 85 * brought_to g values v / 100

abbrev pub MeetEquations : Multigraph → List Datum → Type 0
MeetEquations g values = (v : ℕ) → v < length g.ids → MeetsEquation g values v
