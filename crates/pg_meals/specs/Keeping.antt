-- What the core promises is kept.
use Rattle.std.specs.Prelude.{ℕ, List}
use Rattle.pg_law.specs.Program.{Program}
use Rattle.pg_delta.specs.declared.cell.CacheCell.{CacheCell}
use Rattle.pg_meals.specs.Core.{Core}
use Rattle.pg_meals.specs.Preparing.{MayPrepare, prepared_core}
use Rattle.pg_meals.specs.Acts.{Act, Outcome, Step}
use Rattle.pg_meals.specs.Listed.{serial_of}
use Rattle.pg_meals.specs.Setting.{Setting, shape_in, IsSetting, Stands, AreCells, AreReplicas, cell_at}
use Rattle.pg_meals.specs.Runs.{Deed, opened, Runs}

module _ {A C : Type 0} (p : Program A C) where
  -- an act whose guard is met keeps it, whoever the actor is
  abbrev pub ActsKeep : Type 0
  ActsKeep = (x : Setting) → IsSetting p x
      → (c : Core A) (a : ℕ) (act : Act) (c' : Core A) (out : Outcome)
      → Stands p x c → Step (shape_in x) x.fuel c a act c' out → Stands p x c'

  -- so does preparing
  abbrev pub PreparingKeeps : Type 0
  PreparingKeeps = (x : Setting) → IsSetting p x → (c : Core A) (a v m : ℕ)
      → Stands p x c → MayPrepare p (shape_in x) c a v m
      → Stands p x (prepared_core p (shape_in x) c a v m)

  -- so it holds after every list of deeds, from the start on
  abbrev pub RunsStand : Type 0
  RunsStand = (x : Setting) → IsSetting p x
      → (replica : ℕ → ℕ → ℕ → ℕ) → AreReplicas p x replica
      → (cells : List (CacheCell A)) → AreCells p x cells
      → (deeds : List (ℕ × Deed)) (c : Core A)
      → Runs p (shape_in x) x.fuel
      (opened (shape_in x) (serial_of p x.opening) replica (cell_at cells)) deeds c
      → Stands p x c
