-- A state that the workers and the masters have among them.
use Rattle.std.specs.Prelude.{◌≡◌, ℕ, ◌<◌, Option, Err, List, [], length, slice_index_or, alloc_error}
use Rattle.pg_graph.specs.Multigraph.{Multigraph}
use Rattle.pg_law.specs.declared.values.Datum.{Datum}
use Rattle.pg_law.specs.Program.{Program}
use Rattle.pg_law.specs.Configuration.{Configuration, IsFit}
use Rattle.pg_cut.specs.Cut.{Division}
use Rattle.pg_edge_store.specs.Store.{Store, store}
use Rattle.pg_mirrors.specs.Mirrors.{Mirrors}
use Rattle.pg_gather.specs.Shares.{IsShareOf}
use Rattle.pg_apply_scatter.specs.Pushing.{table_at}
use Rattle.pg_delta.specs.declared.cell.CacheCell.{CacheCell}
use Rattle.pg_sync.specs.declared.worker.Scattering.{Scattering}
use Rattle.pg_sync.specs.Cells.{AreCaches}

-- the store of a worker
abbrev pub no_worker : {Acc : Type 0} → Scattering Acc
no_worker = record {
  store = store [] [] [] [] [];
  sent = Err alloc_error;
}

abbrev pub store_at : {Acc : Type 0} → List (Scattering Acc) → ℕ → Store
store_at workers w = (slice_index_or workers w no_worker).store

-- each worker has its share, and the masters have the data and the messages
pub record IsHeld {Acc Carry : Type 0} (p : Program Acc Carry) (g : Multigraph) (cut : Division)
    (s : Configuration) (workers : List (Scattering Acc)) (mirrors : List Mirrors)
    (data_kept : List Datum) (waiting : List (Option ℕ)) : Type 0 where
  pub fit : IsFit p g s
  pub stores : length workers ≡ cut.workers
  pub tables : length mirrors ≡ cut.workers
  pub shares : (w : ℕ) → w < cut.workers
      → IsShareOf g cut w s (store_at workers w) (table_at mirrors w)
  pub values : data_kept ≡ s.values
  pub messages : waiting ≡ s.messages

-- the workers have their shares of a state
abbrev pub IsShared : {Acc Carry : Type 0} → Program Acc Carry → Multigraph → Division
    → Configuration → List (Scattering Acc) → List Mirrors → Type 0
IsShared p g cut s workers mirrors = IsHeld p g cut s workers mirrors s.values s.messages

-- they have some state, or their shares of some state
pub record IsHolding {Acc Carry : Type 0} (p : Program Acc Carry) (g : Multigraph) (cut : Division)
    (workers : List (Scattering Acc)) (mirrors : List Mirrors)
    (data_kept : List Datum) (waiting : List (Option ℕ)) : Type 0 where
  pub state : Configuration
  pub held : IsHeld p g cut state workers mirrors data_kept waiting

pub record IsSharing {Acc Carry : Type 0} (p : Program Acc Carry) (g : Multigraph) (cut : Division)
    (workers : List (Scattering Acc)) (mirrors : List Mirrors) : Type 0 where
  pub state : Configuration
  pub shared : IsShared p g cut state workers mirrors

module _ {Acc Carry : Type 0} (p : Program Acc Carry) (g : Multigraph) (cut : Division) where
  -- they have a state, and the cells keep gathers of it
  pub record IsKept (s : Configuration) (workers : List (Scattering Acc)) (mirrors : List Mirrors)
      (data_kept : List Datum) (waiting : List (Option ℕ))
      (cells : List (CacheCell Acc)) : Type 0 where
    pub held : IsHeld p g cut s workers mirrors data_kept waiting
    pub caches : AreCaches p g s cells

  -- they do so of some state
  pub record IsKeeping (workers : List (Scattering Acc)) (mirrors : List Mirrors)
      (data_kept : List Datum) (waiting : List (Option ℕ))
      (cells : List (CacheCell Acc)) : Type 0 where
    pub state : Configuration
    pub kept : IsKept state workers mirrors data_kept waiting cells
