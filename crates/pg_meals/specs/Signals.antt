-- What an entry does to signals and to ranks.
use Rattle.std.specs.Prelude.{ℕ, ◌≡◌, ◌≢◌, true, Some}
use Rattle.pg_law.specs.Program.{Program}
use Rattle.pg_meals.specs.Ranks.{Before}
use Rattle.pg_meals.specs.Core.{Core}
use Rattle.pg_meals.specs.Standing.{signalled}
use Rattle.pg_meals.specs.Acts.{Outcome, Commit, Step}
use Rattle.pg_meals.specs.Setting.{Setting, shape_in, IsSetting, Stands}
use Rattle.pg_meals.specs.Runs.{Deed, Acts, Does}

module _ {A C : Type 0} (p : Program A C) where
  -- the deed isn't an entry of v
  abbrev pub IsNoEntryAt : ℕ → Core A → ℕ → Deed → Type 0
  IsNoEntryAt v c b (Acts Commit) = (c.words.grip b).vertex ≢ Some v
  IsNoEntryAt v c b _ = Unit {0}

  -- a vertex that is signalled stays so until its own entry
  abbrev pub SignalsStay : Type 0
  SignalsStay = (x : Setting) → IsSetting p x → (c : Core A) (v : ℕ) → Stands p x c
      → signalled p (shape_in x) c v ≡ true
      → (b : ℕ) (d : Deed) (c' : Core A) → Does p (shape_in x) x.fuel c b d c' → IsNoEntryAt v c b d
      → signalled p (shape_in x) c' v ≡ true

  -- an entry gives its vertex the largest rank
  abbrev pub EntriesRankLast : Type 0
  EntriesRankLast = (x : Setting) → IsSetting p x
      → (c : Core A) (a v : ℕ) (c' : Core A) (out : Outcome) → Stands p x c
      → (c.words.grip a).vertex ≡ Some v → Step (shape_in x) x.fuel c a Commit c' out
      → (u : ℕ) → u ≢ v → Before c'.words.journal u v
