-- The places of a store at which the vertices with a carry scatter.
use Rattle.std.specs.Prelude.{◌≡◌, ℕ, ◌<◌, ◌==◌, Bool, true, is_some, Option, List, length, All}
use Rattle.std.specs.List.{list_any}
use Rattle.pg_graph.specs.Multigraph.{Multigraph}
use Rattle.pg_graph.specs.declared.edge.Dir.{Dir}
use Rattle.pg_law.specs.Carries.{carry_at}
use Rattle.pg_edge_store.specs.Store.{places_around}

-- whether a place stands in a list
abbrev pub is_listed : List ℕ → ℕ → Bool
is_listed places i = list_any (λ j. j == i) places

-- all are places of the store, and those around each vertex with a carry are among them, where the
-- vertex is below a number
pub record ArePlaces {Carry : Type 0} (g : Multigraph) (numbers : List ℕ) (dir : Dir)
    (carries : List (Option Carry)) (below : ℕ) (places : List ℕ) : Type 0 where
  pub within : All (λ i. i < length numbers) places
  pub listed : (v : ℕ) → v < below → is_some (carry_at carries v) ≡ true
      → All (λ i. is_listed places i ≡ true) (places_around g numbers v dir)
