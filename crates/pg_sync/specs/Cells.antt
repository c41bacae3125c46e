-- The kept gathers of the masters: none, or a cell for each vertex.
use Rattle.std.specs.Prelude.{◌≡◌, ◌≢◌, ℕ, ◌<◌, Bool, Option, Some, None, IsTrue, is_some, List, length, slice_index}
use Rattle.pg_graph.specs.Multigraph.{Multigraph}
use Rattle.pg_law.specs.Program.{Program}
use Rattle.pg_law.specs.Configuration.{Configuration}
use Rattle.pg_delta.specs.declared.cell.CacheCell.{CacheCell}
use Rattle.pg_delta.specs.Cell.{filled, settled, posted}
use Rattle.pg_apply_scatter.specs.Delivering.{cell_in}
use Rattle.pg_apply_scatter.specs.Halves.{entry_of}
use Rattle.pg_apply_scatter.specs.Caches.{AreKept}
use Rattle.pg_sync.specs.Kept.{kept_now, delta_of}

-- the accumulator of a cell, or this one where it has none
abbrev pub acc_or : {A : Type 0} → A → Option A → A
acc_or empty None = empty
acc_or empty (Some acc) = acc

-- a cell that is filled where there is an accumulator for it
abbrev pub filled_by : {A : Type 0} → Option A → CacheCell A → CacheCell A
filled_by None cell = cell
filled_by (Some acc) cell = filled acc

-- each listed vertex has its accumulator, and the other cells are as before
abbrev pub AreFilled : {A : Type 0} → List (ℕ × A) → List (CacheCell A) → List (CacheCell A)
    → Type 0
AreFilled sums old new = (v : ℕ) → cell_in new v ≡ filled_by (entry_of sums v) (cell_in old v)

module _ {Acc Carry : Type 0} (p : Program Acc Carry) where
  -- whether a vertex's cell has an accumulator, once it is settled
  abbrev pub keeps : List (CacheCell Acc) → ℕ → Bool
  keeps cells v = is_some (settled p.sum (cell_in cells v)).acc

  -- no cell, or one for each vertex of a program that keeps deltas, each true of this state
  pub record AreCaches (g : Multigraph) (s : Configuration) (cells : List (CacheCell Acc)) : Type 0 where
    pub all : 0 < length cells → length cells ≡ length g.ids
    pub speaks : 0 < length cells → IsTrue p.keeps_deltas
    pub kept : AreKept p g s cells

  -- the cells of these vertices are settled, and the others are as before
  pub record AreSettled (listed : List ℕ) (old new : List (CacheCell Acc)) : Type 0 where
    pub here : (k : ℕ) → k < length listed
        → cell_in new (slice_index listed k) ≡ settled p.sum (cell_in old (slice_index listed k))
    pub others : (v : ℕ) → ((k : ℕ) → k < length listed → slice_index listed k ≢ v)
        → cell_in new v ≡ cell_in old v

  -- after the gathers of a round: cells of the same state, which keep all that were wanted
  pub record AreGathered (g : Multigraph) (s : Configuration)
      (old new : List (CacheCell Acc)) : Type 0 where
    pub caches : AreCaches g s new
    pub kept : 0 < length old → (v : ℕ) → keeps new v ≡ kept_now (keeps old) s v

  -- each cell has all posted that a round sends to its vertex
  abbrev pub AreTold : Multigraph → Configuration → List (CacheCell Acc) → List (CacheCell Acc)
      → Type 0
  AreTold g s old new = (v : ℕ) → v < length old
      → cell_in new v ≡ posted p.sum (cell_in old v) (delta_of p g s v)
