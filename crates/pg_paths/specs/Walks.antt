-- Walks and their weights.
use Rattle.std.specs.Prelude.{◌≡◌, ℕ, ◌<◌, ◌≤◌, ◌⊎◌, List, [], ◌∷◌, length, slice_index, sum_by}
use Rattle.pg_graph.specs.declared.edge.Side.TheVariants.{Source, Target}
use Rattle.pg_graph.specs.Multigraph.{Multigraph, end_at, edge_at}
use Rattle.pg_law.specs.declared.values.Datum.{Datum}
use Rattle.pg_law.specs.Words.{greatest}
use Rattle.pg_law.specs.Configuration.{datum_in}

-- a list of edges from u to v, each of which starts where the one before ended
unfoldable pub IsWalk : Multigraph → List ℕ → ℕ → ℕ → Type 0
IsWalk g [] u v = u ≡ v
IsWalk g (e ∷ walk) u v = (e < length g.edges) × (end_at g Source e ≡ u)
    × IsWalk g walk (end_at g Target e) v

-- the plain sum of its weights
abbrev pub weight_of : Multigraph → List ℕ → ℕ
weight_of g walk = sum_by (λ e. (edge_at g e).weight) walk

-- a walk from the vertex of the source's id to v has this weight
abbrev pub IsWeightTo : Multigraph → ℕ → ℕ → ℕ → Type 0
IsWeightTo g source v weight = (u : ℕ) × (u < length g.ids) × (slice_index g.ids u ≡ source)
    × (walk : List ℕ) × IsWalk g walk u v × (weight_of g walk ≡ weight)

-- some walk leads there, and none does
abbrev pub IsReachable : Multigraph → ℕ → ℕ → Type 0
IsReachable g source v = (weight : ℕ) × IsWeightTo g source v weight

abbrev pub IsOutOfReach : Multigraph → ℕ → ℕ → Type 0
IsOutOfReach g source v = IsReachable g source v → ⊥

-- the least weight of a walk to v, and the greatest word where there is no walk
pub record IsLeastWeight (g : Multigraph) (source v weight : ℕ) : Type 0 where
  pub attained : IsWeightTo g source v weight ⊎ ((weight ≡ greatest) × IsOutOfReach g source v)
  pub least : (other : ℕ) → IsWeightTo g source v other → weight ≤ other

-- each vertex has the least weight of a walk to it
abbrev pub HasLeastWeights : Multigraph → ℕ → List Datum → Type 0
HasLeastWeights g source values = (v : ℕ) → v < length g.ids
    → IsLeastWeight g source v (datum_in values v).first
