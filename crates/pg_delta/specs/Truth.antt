-- When a kept gather is true, and what keeps it so.
use Rattle.std.specs.Prelude.{◌≡◌, IfSome, List}
use Rattle.pg_law.specs.declared.values.Delta.{Delta}
use Rattle.pg_law.specs.declared.values.Near.{Near}
use Rattle.pg_law.specs.Program.{Program}
use Rattle.pg_law.specs.Laws.{IsDelta, LeadsTo}
use Rattle.pg_delta.specs.declared.cell.CacheCell.{CacheCell}
use Rattle.pg_delta.specs.Deltas.{gather_over}
use Rattle.pg_delta.specs.Cell.{IsCell, cleared, filled, posted, settled, used}

-- an accumulator, with what is pending for it, is this gather
-- a cell of nothing is true of any, and so is one that is to be cleared
abbrev pub IsTrueOf : {A : Type 0} → (A → A → A) → CacheCell A → A → Type 0
IsTrueOf sum cell gather = IfSome cell.acc (λ acc. LeadsTo sum acc cell.pending gather)

module _ {Acc Carry : Type 0} (p : Program Acc Carry) where
  -- what is posted to a true cell as the gather changes leaves it true
  abbrev pub PostingKeepsTruth : Type 0
  PostingKeepsTruth = (cell : CacheCell Acc) (delta : Delta Acc) (before after : Acc)
      → IsCell p cell → IsDelta p.IsAcc delta → p.IsAcc before
      → IsTrueOf p.sum cell before → LeadsTo p.sum before delta after
      → IsTrueOf p.sum (posted p.sum cell delta) after

  -- each call on a cell keeps it true, and so does the refusal of a call
  pub record CellsStayTrue : Type 0 where
    pub cleared_is : (gather : Acc) → IsTrueOf p.sum cleared gather
    pub filled_is : (gather : Acc) → IsTrueOf p.sum (filled gather) gather
    pub posted_is : PostingKeepsTruth
    pub settled_is : (cell : CacheCell Acc) (gather : Acc)
        → IsTrueOf p.sum cell gather → IsTrueOf p.sum (settled p.sum cell) gather
    pub used_is : (cell : CacheCell Acc) (nears : List Near)
        → IsTrueOf p.sum cell (gather_over p nears)
        → used p cell nears ≡ filled (gather_over p nears)
