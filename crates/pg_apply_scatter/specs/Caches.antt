-- Kept gathers over a round in parts.
use Rattle.std.specs.Prelude.{ℕ, ◌<◌, true, IsTrue, Option, List, length}
use Rattle.pg_graph.specs.Multigraph.{Multigraph, IsMultigraph}
use Rattle.pg_law.specs.Program.{Program}
use Rattle.pg_law.specs.Configuration.{Configuration, IsFit}
use Rattle.pg_law.specs.Round.{fresh, outcomes, round}
use Rattle.pg_cut.specs.Cut.{Division, IsCutOf}
use Rattle.pg_edge_store.specs.Store.{Store}
use Rattle.pg_mirrors.specs.Mirrors.{Mirrors}
use Rattle.pg_gather.specs.Shares.{IsShareOf}
use Rattle.pg_delta.specs.declared.cell.CacheCell.{CacheCell}
use Rattle.pg_delta.specs.Cell.{IsCell}
use Rattle.pg_delta.specs.Truth.{IsTrueOf}
use Rattle.pg_apply_scatter.specs.Delivering.{cell_in, cell_from}
use Rattle.pg_apply_scatter.specs.Halves.{AreCarriesOf, applied_state, sent_by_all}

module _ {Acc Carry : Type 0} (p : Program Acc Carry) where
  -- each cell, with what is pending for it, is the fresh gather of its vertex in this state
  pub record AreKept (g : Multigraph) (s : Configuration) (cells : List (CacheCell Acc)) : Type 0 where
    pub own : (v : ℕ) → v < length g.ids → IsCell p (cell_in cells v)
    pub true_of : (v : ℕ) → v < length g.ids
        → IsTrueOf p.sum (cell_in cells v) (fresh p g s v)

  -- cells that are true of a state are true of the next one, once all deltas of a round are posted
  abbrev pub CellsFollow : Type 0
  CellsFollow = (g : Multigraph) (cut : Division) (s : Configuration)
      (carries : List (Option Carry)) (stores : ℕ → Store) (mirrors : ℕ → Mirrors)
      (cells : List (CacheCell Acc))
      → IsMultigraph g → IsCutOf g cut → IsFit p g s → IsTrue p.keeps_deltas
      → AreCarriesOf carries (outcomes p g s (λ v. true))
      → ((w : ℕ) → w < cut.workers
      → IsShareOf g cut w (applied_state p g s (outcomes p g s (λ v. true))) (stores w) (mirrors w))
      → AreKept g s cells
      → (v : ℕ) → v < length g.ids
      → IsTrueOf p.sum
      (cell_from p v (cell_in cells v) (sent_by_all p g cut carries stores mirrors))
      (fresh p g (round p g s) v)
