-- Tight edges, and trees of shortest walks from a source.
use Rattle.std.specs.Prelude.{◌≡◌, ◌≢◌, ℕ, ◌+◌, ◌<◌, ◌≤◌, List, [], ◌∷◌, length, slice_index}
use Rattle.pg_graph.specs.declared.edge.Side.TheVariants.{Source, Target}
use Rattle.pg_graph.specs.Multigraph.{Multigraph, end_at, edge_at}
use Rattle.pg_law.specs.declared.values.Datum.{Datum}
use Rattle.pg_law.specs.Values.{two}
use Rattle.pg_law.specs.Words.{greatest}
use Rattle.pg_law.specs.Configuration.{datum_in}
use Rattle.pg_paths.specs.Pairs.{unreached}
use Rattle.pg_paths.specs.Walks.{IsReachable, IsOutOfReach, IsLeastWeight}

-- the edge ends a least walk: the least weight of its source is below the greatest word, and with
-- the edge's own it makes the least weight of its target
pub record IsTight (g : Multigraph) (source e : ℕ) : Type 0 where
  pub before : ℕ
  pub below : before < greatest
  pub least : IsLeastWeight g source (end_at g Source e) before
  pub joined : IsLeastWeight g source (end_at g Target e) (before + (edge_at g e).weight)

-- the number is the id of a vertex with a tight edge to v
abbrev pub IsIdBefore : Multigraph → ℕ → ℕ → ℕ → Type 0
IsIdBefore g source v id = (e : ℕ) × (e < length g.edges) × (end_at g Target e ≡ v)
    × (slice_index g.ids (end_at g Source e) ≡ id) × IsTight g source e

-- it is the least of them
pub record IsLeastIdBefore (g : Multigraph) (source v id : ℕ) : Type 0 where
  pub member : IsIdBefore g source v id
  pub least : (other : ℕ) → IsIdBefore g source v other → id ≤ other

-- the first word is the least weight, and the second the least id of a vertex with a tight edge to
-- v; the source has 0 and its own id, and a vertex that no walk reaches has the greatest word twice
pub record IsBranch (g : Multigraph) (source v : ℕ) (datum : Datum) : Type 0 where
  pub weight : IsLeastWeight g source v datum.first
  pub root : slice_index g.ids v ≡ source → datum ≡ two 0 source
  pub before : slice_index g.ids v ≢ source → IsReachable g source v
      → IsLeastIdBefore g source v datum.second
  pub apart : IsOutOfReach g source v → datum ≡ unreached

abbrev pub HasTree : Multigraph → ℕ → List Datum → Type 0
HasTree g source values = (v : ℕ) → v < length g.ids → IsBranch g source v (datum_in values v)

-- a list of vertices that leads from v to u: the second word of each is the id of the next
unfoldable pub Follows : Multigraph → List Datum → List ℕ → ℕ → ℕ → Type 0
Follows g values [] v u = v ≡ u
Follows g values (w ∷ way) v u = (w < length g.ids)
    × (slice_index g.ids w ≡ (datum_in values v).second) × Follows g values way w u

-- second words lead from v to the source
abbrev pub LeadsBack : Multigraph → ℕ → List Datum → ℕ → Type 0
LeadsBack g source values v = (u : ℕ) × (u < length g.ids) × (slice_index g.ids u ≡ source)
    × (way : List ℕ) × Follows g values way v u

abbrev pub AllLeadBack : Multigraph → ℕ → List Datum → Type 0
AllLeadBack g source values = (v : ℕ) → v < length g.ids → IsReachable g source v
    → LeadsBack g source values v

-- no weight is 0
abbrev pub HasNoZeroWeight : Multigraph → Type 0
HasNoZeroWeight g = (e : ℕ) → e < length g.edges → 0 < (edge_at g e).weight
