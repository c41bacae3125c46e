-- Deeds of any actors, one after another, from the start on.
use Rattle.std.specs.Prelude.{ℕ, ◌≡◌, ltb, cond, List, [], ◌∷◌, false, true, None}
use Rattle.pg_graph.specs.declared.edge.Side.TheVariants.{Source, Target}
use Rattle.pg_law.specs.declared.values.Delta.TheVariants.{Nothing}
use Rattle.pg_law.specs.Program.{Program}
use Rattle.pg_delta.specs.declared.cell.CacheCell.{CacheCell}
use Rattle.pg_forks.specs.declared.fork_word.ForkWord.{ForkWord}
use Rattle.pg_meals.specs.Shape.{Shape}
use Rattle.pg_meals.specs.Words.{Words, empty_grip}
use Rattle.pg_meals.specs.Serial.{Serial}
use Rattle.pg_meals.specs.Core.{Core, empty_notes}
use Rattle.pg_meals.specs.Preparing.{MayPrepare, prepared_core}
use Rattle.pg_meals.specs.Acts.{Act, Outcome, Step}

-- a fork at the start: dirty, at the end whose vertex has the larger number
abbrev pub first_fork : Shape → ℕ → ForkWord
first_fork g e = record {
  side = cond (ltb (g.end Source e) (g.end Target e)) Target Source;
  dirty = true;
  asked = false;
  pinned = false;
}

-- every vertex and the turn are free, and no actor holds anything
abbrev pub first_words : Shape → Words
first_words g = record {
  vertex = λ _. None;
  fork = first_fork g;
  turn = None;
  grip = λ _. empty_grip;
  journal = [];
}

-- the core at the start, over a state, replicas and cells
abbrev pub opened : {A : Type 0} → Shape → Serial → (ℕ → ℕ → ℕ → ℕ) → (ℕ → CacheCell A) → Core A
opened g st replica cells = record {
  words = first_words g;
  content = λ e. record { word = st.word e; message = λ _. None; delta = λ _. Nothing };
  place = λ v. record { datum = st.value v; message = st.message v; cell = cells v };
  replica = replica;
  notes = λ _. empty_notes;
}

-- what an actor does next: an act, or preparing
pub data Deed : Type 0 where
  Acts : Act → Deed
  Prepares : Deed

module _ {A C : Type 0} (p : Program A C) where
  -- the actor's deed leads from c to c'
  abbrev pub Does : Shape → ℕ → Core A → ℕ → Deed → Core A → Type 0
  Does g fuel c a (Acts act) c' = (out : Outcome) × Step g fuel c a act c' out
  Does g fuel c a Prepares c' =
      (v m : ℕ) × MayPrepare p g c a v m × (c' ≡ prepared_core p g c a v m)

  -- so do these deeds, each by the actor beside it
  abbrev pub Runs : Shape → ℕ → Core A → List (ℕ × Deed) → Core A → Type 0
  Runs g fuel c [] c' = c' ≡ c
  Runs g fuel c (d ∷ ds) c' =
      (between : Core A) × Does g fuel c d.0 d.1 between × Runs g fuel between ds c'
