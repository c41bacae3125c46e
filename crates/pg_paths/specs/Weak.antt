-- Weak components: what edges join, taken in either direction.
use Rattle.std.specs.Prelude.{◌≡◌, ℕ, ◌<◌, ◌≤◌, List, [], ◌∷◌, length, slice_index}
use Rattle.pg_graph.specs.declared.edge.Side.{Side}
use Rattle.pg_graph.specs.Multigraph.{Multigraph, end_at, opposite}
use Rattle.pg_law.specs.declared.values.Datum.{Datum}
use Rattle.pg_law.specs.Configuration.{datum_in}

-- a list of edges, each of which starts, at one of its ends, where the one before ended
unfoldable pub Joins : Multigraph → List ℕ → ℕ → ℕ → Type 0
Joins g [] u v = u ≡ v
Joins g (e ∷ edges) u v = (e < length g.edges) × (side : Side) × (end_at g side e ≡ u)
    × Joins g edges (end_at g (opposite side) e) v

-- both are in one weak component
abbrev pub AreJoined : Multigraph → ℕ → ℕ → Type 0
AreJoined g u v = (edges : List ℕ) × Joins g edges u v

-- the number is the id of a vertex in the weak component of v
abbrev pub IsIdNear : Multigraph → ℕ → ℕ → Type 0
IsIdNear g v id = (u : ℕ) × (u < length g.ids) × (slice_index g.ids u ≡ id) × AreJoined g u v

-- it is the least of them
pub record IsLeastId (g : Multigraph) (v id : ℕ) : Type 0 where
  pub member : IsIdNear g v id
  pub least : (other : ℕ) → IsIdNear g v other → id ≤ other

-- each vertex has the least id of its weak component
abbrev pub HasLeastIds : Multigraph → List Datum → Type 0
HasLeastIds g values = (v : ℕ) → v < length g.ids → IsLeastId g v (datum_in values v).first
