-- The core: words, contents, places, replicas, and what the actors note.
use Rattle.std.specs.Prelude.{ℕ, ◌==◌, Bool, false, cond, Option, None}
use Rattle.pg_graph.specs.declared.edge.Side.{Side}
use Rattle.pg_law.specs.declared.values.Datum.{Datum}
use Rattle.pg_law.specs.declared.values.Delta.{Delta}
use Rattle.pg_law.specs.declared.values.Delta.TheVariants.{Nothing}
use Rattle.pg_law.specs.Values.{two}
use Rattle.pg_delta.specs.declared.cell.CacheCell.{CacheCell}
use Rattle.pg_forks.specs.Transitions.{same_side}
use Rattle.pg_meals.specs.Words.{Words}

-- what rides on a fork: the edge word, and for each end a message and a delta
pub record Content (A : Type 0) : Type 0 where
  pub word : ℕ
  pub message : Side → Option ℕ
  pub delta : Side → Delta A

-- what is at a vertex: its datum, its own message, and its kept gather
pub record Place (A : Type 0) : Type 0 where
  pub datum : Datum
  pub message : Option ℕ
  pub cell : CacheCell A

-- what an entry will make of the vertex and of the contents of its forks
pub record Prepared (A : Type 0) : Type 0 where
  pub datum : Datum
  pub again : Option ℕ
  pub cell : CacheCell A
  pub content : ℕ → Content A

-- what an actor noted: the halves that it read over its pinned forks, what it prepared, the halves
-- of replicas that it wrote, and the datum of its vertex before its entry
pub record Notes (A : Type 0) : Type 0 where
  pub noted : ℕ → ℕ → Option ℕ
  pub prepared : Option (Prepared A)
  pub written : ℕ → ℕ → Bool
  pub before : Datum

-- a content stands in its fork or with the actor that pinned it, a place at its vertex or with the
-- actor that has it in hand; `replica v k h` is the half h of the replica of v on the worker k
pub record Core (A : Type 0) : Type 0 where
  pub words : Words
  pub content : ℕ → Content A
  pub place : ℕ → Place A
  pub replica : ℕ → ℕ → ℕ → ℕ
  pub notes : ℕ → Notes A

abbrev pub empty_notes : {A : Type 0} → Notes A
empty_notes = record {
  noted = λ _ _. None;
  prepared = None;
  written = λ _ _. false;
  before = two 0 0;
}

-- nothing, which stands where nothing is prepared
abbrev pub empty_content : {A : Type 0} → Content A
empty_content = record { word = 0; message = λ _. None; delta = λ _. Nothing }

-- the first word of a datum is its half 0, and the second its half 1
abbrev pub half_of : ℕ → Datum → ℕ
half_of h d = cond (h == 0) d.first d.second

-- mine at the end s, theirs at the other
abbrev pub by_side : {X : Type 0} → Side → X → X → Side → X
by_side s mine theirs t = cond (same_side t s) mine theirs
