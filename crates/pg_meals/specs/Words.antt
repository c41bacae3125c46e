-- The words of the core, and what each actor holds of them.
use Rattle.std.specs.Prelude.{ℕ, ◌<◌, ◌≡◌, List, [], ◌∷◌, ◌++◌, Bool, true, false, Option, Some, None}
use Rattle.pg_graph.specs.declared.edge.Side.{Side}
use Rattle.pg_graph.specs.Multigraph.{opposite}
use Rattle.pg_law.specs.declared.values.JournalEntry.{JournalEntry}
use Rattle.pg_forks.specs.declared.fork_word.ForkWord.{ForkWord}
use Rattle.pg_meals.specs.Families.{set_at}
use Rattle.pg_meals.specs.Shape.{Shape}

-- what an actor holds: its vertex, the forks that it pinned, those of them that it took, and marks:
-- it found its vertex signalled, it made its entry, it has the turn
pub record Grip : Type 0 where
  pub vertex : Option ℕ
  pub pins : ℕ → Bool
  pub taken : ℕ → Bool
  pub evidence : Bool
  pub committed : Bool
  pub turn : Bool

-- the word of each vertex and of the turn is the actor that has it; each edge has a fork
pub record Words : Type 0 where
  pub vertex : ℕ → Option ℕ
  pub fork : ℕ → ForkWord
  pub turn : Option ℕ
  pub grip : ℕ → Grip
  pub journal : List JournalEntry

abbrev pub empty_grip : Grip
empty_grip = record {
  vertex = None;
  pins = λ _. false;
  taken = λ _. false;
  evidence = false;
  committed = false;
  turn = false;
}

-- the vertex at the end where a fork stands, and the one at the other end
abbrev pub holder : Shape → Words → ℕ → ℕ
holder g w e = g.end (w.fork e).side e

abbrev pub waiter : Shape → Words → ℕ → ℕ
waiter g w e = g.end (opposite (w.fork e).side) e

-- all forks of v are pinned by the actor
abbrev pub PinsAll : Shape → Words → ℕ → ℕ → Type 0
PinsAll g w a v =
    (s : Side) (e : ℕ) → e < g.edges → g.end s e ≡ v → (w.grip a).pins e ≡ true

-- the words with another grip of the actor
abbrev pub with_grip : Words → ℕ → Grip → Words
with_grip w a grip = record w { grip = set_at w.grip a grip }

-- the actor has v in hand; `evidence` says whether a message was found there
abbrev pub claimed : Words → ℕ → ℕ → Bool → Words
claimed w a v evidence = record w {
  vertex = set_at w.vertex v (Some a);
  grip = set_at w.grip a (record empty_grip { vertex = Some v; evidence = evidence });
}

abbrev pub dropped : Words → ℕ → ℕ → Words
dropped w a v = record w {
  vertex = set_at w.vertex v None;
  grip = set_at w.grip a empty_grip;
}

-- the actor knows this much of signals from then on
abbrev pub marked : Words → ℕ → Bool → Words
marked w a evidence = with_grip w a (record (w.grip a) { evidence = evidence })

-- the actor has pinned e, whose fork became this word
abbrev pub pinned : Words → ℕ → ℕ → ForkWord → Bool → Bool → Words
pinned w a e word taken evidence = record w {
  fork = set_at w.fork e word;
  grip = set_at w.grip a (record (w.grip a) {
    pins = set_at (w.grip a).pins e true;
    taken = set_at (w.grip a).taken e taken;
    evidence = evidence;
  });
}

abbrev pub asked : Words → ℕ → ForkWord → Words
asked w e word = record w { fork = set_at w.fork e word }

-- the actor has given e back, whose fork became this word
abbrev pub backed : Words → ℕ → ℕ → ForkWord → Words
backed w a e word = record w {
  fork = set_at w.fork e word;
  grip = set_at w.grip a (record (w.grip a) {
    pins = set_at (w.grip a).pins e false;
    taken = set_at (w.grip a).taken e false;
  });
}

abbrev pub turn_taken : Words → ℕ → Words
turn_taken w a = record w {
  turn = Some a;
  grip = set_at w.grip a (record (w.grip a) { turn = true });
}

-- the actor has made this entry
abbrev pub entered : Words → ℕ → JournalEntry → Words
entered w a x = record w {
  journal = w.journal ++ x ∷ [];
  grip = set_at w.grip a (record (w.grip a) { committed = true });
}

abbrev pub given : Words → ℕ → Words
given w a = record w {
  turn = None;
  grip = set_at w.grip a (record (w.grip a) { turn = false });
}
