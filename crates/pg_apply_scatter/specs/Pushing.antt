-- The replicas of all workers, once the masters are pushed.
use Rattle.std.specs.Prelude.{◌≡◌, ℕ, ◌<◌, [], List, length, slice_index_or}
use Rattle.pg_law.specs.declared.values.Datum.{Datum}
use Rattle.pg_mirrors.specs.Mirrors.{Mirrors, mirrors, Pushes}

abbrev pub table_at : List Mirrors → ℕ → Mirrors
table_at tables w = slice_index_or tables w (mirrors [] [])

-- every table is pushed
pub record ArePushed (old new : List Mirrors) (masters : List (ℕ × Datum)) : Type 0 where
  pub count : length new ≡ length old
  pub each : (w : ℕ) → w < length old → Pushes (table_at old w) (table_at new w) masters
