-- A state that is shared out among the workers of a cut.
use Rattle.std.specs.Prelude.{◌≡◌, ℕ, ◌<◌, List, length, map, slice_index}
use Rattle.pg_graph.specs.Multigraph.{Multigraph}
use Rattle.pg_law.specs.declared.values.Datum.{Datum}
use Rattle.pg_cut.specs.Cut.{Division}
use Rattle.pg_edge_store.specs.Store.{Store, IsStoreOf}
use Rattle.pg_mirrors.specs.Mirrors.{Mirrors, mirrors_of}
use Rattle.pg_apply_scatter.specs.Pushing.{table_at}
use Rattle.pg_sync.specs.declared.worker.Scattering.{Scattering}
use Rattle.pg_sync.specs.Held.{store_at}

-- the store of a worker, with these words
pub record IsMade (g : Multigraph) (cut : Division) (words : List ℕ) (w : ℕ)
    (store : Store) : Type 0 where
  pub edges : IsStoreOf g cut w store
  pub words_are : store.words ≡ map (slice_index words) store.numbers

-- so many workers have their edges, with these words
pub record HaveEdges {Acc : Type 0} (g : Multigraph) (cut : Division) (words : List ℕ) (n : ℕ)
    (workers : List (Scattering Acc)) : Type 0 where
  pub count : length workers ≡ n
  pub stores : (w : ℕ) → w < n → IsStoreOf g cut w (store_at workers w)
  pub words_are : (w : ℕ) → w < n
      → (store_at workers w).words ≡ map (slice_index words) (store_at workers w).numbers

-- so many workers have their replicas, with these data
pub record HaveReplicas (cut : Division) (values : List Datum) (n : ℕ)
    (tables : List Mirrors) : Type 0 where
  pub count : length tables ≡ n
  pub each : (w : ℕ) → w < n → table_at tables w ≡ mirrors_of cut w values
