-- A gather that is kept.
use Rattle.std.specs.Prelude.{ℕ, is_some, Option, Some, None, IfSome, cond, length, List}
use Rattle.pg_law.specs.declared.values.Delta.{Delta}
use Rattle.pg_law.specs.declared.values.Delta.TheVariants.{Nothing, Add, Clear}
use Rattle.pg_law.specs.declared.values.Near.{Near}
use Rattle.pg_law.specs.Program.{Program}
use Rattle.pg_law.specs.Laws.{IsDelta}
use Rattle.pg_delta.specs.declared.cell.CacheCell.{CacheCell}
use Rattle.pg_delta.specs.Deltas.{joined, gather_over}

-- a cell of nothing, and one of an accumulator
abbrev pub cleared : {A : Type 0} → CacheCell A
cleared = record { acc = None; pending = Nothing }

abbrev pub filled : {A : Type 0} → A → CacheCell A
filled acc = record { acc = Some acc; pending = Nothing }

-- a cell after a delta was posted
abbrev pub posted_to : {A : Type 0} → (A → A → A) → Option A → Delta A → Delta A → CacheCell A
posted_to sum None pending delta = record { acc = None; pending = pending }
posted_to sum (Some acc) pending delta =
    record { acc = Some acc; pending = joined sum pending delta }

abbrev pub posted : {A : Type 0} → (A → A → A) → CacheCell A → Delta A → CacheCell A
posted sum cell delta = posted_to sum cell.acc cell.pending delta

-- a cell once its delta is summed in
abbrev pub settled_of : {A : Type 0} → (A → A → A) → Option A → Delta A → CacheCell A
settled_of sum None pending = cleared
settled_of sum (Some acc) Nothing = filled acc
settled_of sum (Some acc) (Add delta) = filled (sum acc delta)
settled_of sum (Some acc) Clear = cleared

abbrev pub settled : {A : Type 0} → (A → A → A) → CacheCell A → CacheCell A
settled sum cell = settled_of sum cell.acc cell.pending

-- the cell holds values of the program
pub record IsCell {Acc Carry : Type 0} (p : Program Acc Carry) (cell : CacheCell Acc) : Type 0 where
  pub acc : IfSome cell.acc p.IsAcc
  pub pending : IsDelta p.IsAcc cell.pending

module _ {Acc Carry : Type 0} (p : Program Acc Carry) where
  -- a cell that was settled, and filled by a gather where it has no accumulator
  abbrev pub used : CacheCell Acc → List Near → CacheCell Acc
  used cell nears =
      cond (is_some (settled p.sum cell).acc) (settled p.sum cell) (filled (gather_over p nears))

  -- how many gathers that takes
  abbrev pub gathers_of : CacheCell Acc → List Near → ℕ
  gathers_of cell nears = cond (is_some (settled p.sum cell).acc) 0 (length nears)
