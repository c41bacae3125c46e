-- The acts: when an actor may make each, and what the core becomes.
use Rattle.std.specs.Prelude.{ℕ, ◌≡◌, ◌<◌, ◌&&◌, ◌||◌, not, length, Bool, true, false, cond, Option, Some, None, is_some}
use Rattle.pg_graph.specs.declared.edge.Side.{Side}
use Rattle.pg_graph.specs.Multigraph.{opposite}
use Rattle.pg_forks.specs.declared.fork_word.ForkWord.{ForkWord}
use Rattle.pg_forks.specs.declared.fork_word.Why.{Why}
use Rattle.pg_forks.specs.Transitions.{same_side, pin_of, take_of, ask_of, back_of}
use Rattle.pg_forks.specs.Bits.{bits_of}
use Rattle.pg_meals.specs.Families.{set_at}
use Rattle.pg_meals.specs.Shape.{Shape}
use Rattle.pg_meals.specs.Words.{PinsAll, claimed, dropped, marked, pinned, asked, backed, turn_taken, entered, given}
use Rattle.pg_meals.specs.Core.{Prepared, Core, empty_notes, half_of}

pub data Act : Type 0 where
  Claim : (vertex : ℕ) → Act
  Drop : Act
  Look : (edge : ℕ) → Act
  Pin : (edge : ℕ) → Act
  Ask : (edge : ℕ) → Act
  Back : (edge : ℕ) → Act
  ReadMirror : (edge half : ℕ) → Act
  Turn : Act
  Commit : Act
  Give : Act
  WriteMirror : (worker half : ℕ) → Act

-- what the actor is told
pub data Outcome : Type 0 where
  Moved : Outcome
  Saw : (bits : ℕ) → Outcome
  Read : (word : ℕ) → Outcome
  Entered : (number : ℕ) → Outcome

-- a fork that isn't pinned stands clean at the end me
abbrev pub clean_at : ForkWord → Side → Bool
clean_at w me = same_side w.side me && not w.dirty && not w.pinned

-- a fork's word once it is pinned, and whether it was taken for that
pub record Got : Type 0 where
  pub word : ForkWord
  pub taken : Bool

-- pin, or else take
abbrev pub or_take : Option ForkWord → Option ForkWord → Option Got
or_take (Some w) t = Some (record { word = w; taken = false })
or_take None (Some w) = Some (record { word = w; taken = true })
or_take None None = None

abbrev pub got_of : ForkWord → Side → Option Got
got_of w me = or_take (pin_of w me) (take_of w me)

module _ {A : Type 0} (g : Shape) where
  -- what the actor knows when it gives e back
  abbrev pub why : Core A → ℕ → ℕ → Why
  why c a e = record {
    committed = (c.words.grip a).committed;
    taken = (c.words.grip a).taken e;
    evidence = (c.words.grip a).evidence;
  }

  -- what the core becomes by each act
  abbrev pub claimed_core : Core A → ℕ → ℕ → Core A
  claimed_core c a v = record c {
    words = claimed c.words a v (is_some (c.place v).message);
    notes = set_at c.notes a empty_notes;
  }

  abbrev pub dropped_core : Core A → ℕ → ℕ → Core A
  dropped_core c a v = record c {
    words = dropped c.words a v;
    notes = set_at c.notes a empty_notes;
  }

  abbrev pub looked_core : Core A → ℕ → ℕ → Side → Core A
  looked_core c a e me = record c {
    words = marked c.words a ((c.words.grip a).evidence || clean_at (c.words.fork e) me);
  }

  -- a message on the fork is evidence, and so is a fork that stood clean at the vertex
  abbrev pub pinned_core : Core A → ℕ → ℕ → Side → ForkWord → Bool → Core A
  pinned_core c a e me word taken = record c {
    words = pinned c.words a e word taken
        ((c.words.grip a).evidence || is_some ((c.content e).message me)
        || clean_at (c.words.fork e) me);
  }

  -- what was noted over the fork is forgotten, and so is what was prepared
  abbrev pub backed_core : Core A → ℕ → ℕ → ForkWord → Core A
  backed_core c a e word = record c {
    words = backed c.words a e word;
    notes = set_at c.notes a (record (c.notes a) {
      noted = set_at (c.notes a).noted e (λ _. None);
      prepared = None;
    });
  }

  -- half h of what the other end's replica shows on the worker of e
  abbrev pub mirror_over : Core A → ℕ → Side → ℕ → ℕ
  mirror_over c e me h = c.replica (g.end (opposite me) e) (g.worker e) h

  abbrev pub read_core : Core A → ℕ → ℕ → Side → ℕ → Core A
  read_core c a e me h = record c {
    notes = set_at c.notes a (record (c.notes a) {
      noted = set_at (c.notes a).noted e
          (set_at ((c.notes a).noted e) h (Some (mirror_over c e me h)));
    });
  }

  -- the entry is made: the vertex and the pinned contents become what was prepared
  abbrev pub entered_core : Core A → ℕ → ℕ → Prepared A → Core A
  entered_core c a v q = record {
    words = entered c.words a (record { vertex = v; datum = q.datum });
    content = λ e. cond ((c.words.grip a).pins e) (q.content e) (c.content e);
    place = set_at c.place v (record { datum = q.datum; message = q.again; cell = q.cell });
    replica = c.replica;
    notes = set_at c.notes a (record (c.notes a) {
      prepared = None;
      written = λ _ _. false;
      before = (c.place v).datum;
    });
  }

  abbrev pub written_core : Core A → ℕ → ℕ → ℕ → ℕ → Core A
  written_core c a v k h = record c {
    replica = set_at c.replica v
        (set_at (c.replica v) k (set_at (c.replica v k) h (half_of h (c.place v).datum)));
    notes = set_at c.notes a (record (c.notes a) {
      written = set_at (c.notes a).written k (set_at ((c.notes a).written k) h true);
    });
  }

  -- the actor hasn't committed, or has written both halves of all replicas of v
  abbrev pub MayLeave : Core A → ℕ → ℕ → Type 0
  MayLeave c a v = (c.words.grip a).committed ≡ true
      → (k h : ℕ) → g.spans v k ≡ true → h < 2 → (c.notes a).written k h ≡ true

  -- the actor makes the act: its guard is met, the core becomes c', and the actor is told out
  abbrev pub Step : ℕ → Core A → ℕ → Act → Core A → Outcome → Type 0
  Step fuel c a (Claim v) c' out =
      (v < g.vertices) × ((c.words.grip a).vertex ≡ None) × (c.words.vertex v ≡ None)
      × (c' ≡ claimed_core c a v) × (out ≡ Moved)
  Step fuel c a Drop c' out =
      (v : ℕ) × ((c.words.grip a).vertex ≡ Some v) × ((e : ℕ) → (c.words.grip a).pins e ≡ false)
      × ((c.words.grip a).turn ≡ false) × MayLeave c a v
      × (c' ≡ dropped_core c a v) × (out ≡ Moved)
  Step fuel c a (Look e) c' out =
      (v : ℕ) × (me : Side) × (e < g.edges) × ((c.words.grip a).vertex ≡ Some v) × (g.end me e ≡ v)
      × (c' ≡ looked_core c a e me) × (out ≡ Saw (bits_of (c.words.fork e)))
  Step fuel c a (Pin e) c' out =
      (v : ℕ) × (me : Side) × (got : Got)
      × (e < g.edges) × ((c.words.grip a).vertex ≡ Some v) × (g.end me e ≡ v)
      × ((c.words.grip a).pins e ≡ false) × ((c.words.grip a).committed ≡ false)
      × (got_of (c.words.fork e) me ≡ Some got)
      × (c' ≡ pinned_core c a e me got.word got.taken) × (out ≡ Moved)
  Step fuel c a (Ask e) c' out =
      (v : ℕ) × (me : Side) × (word : ForkWord)
      × (e < g.edges) × ((c.words.grip a).vertex ≡ Some v) × (g.end me e ≡ v)
      × ((c.words.grip a).committed ≡ false) × ((c.words.grip a).evidence ≡ true)
      × (ask_of (c.words.fork e) me ≡ Some word)
      × (c' ≡ record c { words = asked c.words e word }) × (out ≡ Moved)
  Step fuel c a (Back e) c' out =
      (v : ℕ) × (me : Side) × (word : ForkWord)
      × ((c.words.grip a).vertex ≡ Some v) × (g.end me e ≡ v) × ((c.words.grip a).pins e ≡ true)
      × ((c.words.grip a).turn ≡ false)
      × MayLeave c a v × (back_of (c.words.fork e) me (why c a e) ≡ Some word)
      × (c' ≡ backed_core c a e word) × (out ≡ Moved)
  Step fuel c a (ReadMirror e h) c' out =
      (v : ℕ) × (me : Side) × (h < 2) × ((c.words.grip a).vertex ≡ Some v) × (g.end me e ≡ v)
      × ((c.words.grip a).pins e ≡ true) × ((c.words.grip a).committed ≡ false)
      × (c' ≡ read_core c a e me h) × (out ≡ Read (mirror_over c e me h))
  Step fuel c a Turn c' out =
      (v : ℕ) × ((c.words.grip a).vertex ≡ Some v) × PinsAll g c.words a v
      × ((c.words.grip a).committed ≡ false) × (c.words.turn ≡ None)
      × (c' ≡ record c { words = turn_taken c.words a }) × (out ≡ Moved)
  Step fuel c a Commit c' out =
      (v : ℕ) × (q : Prepared A) × ((c.words.grip a).vertex ≡ Some v)
      × ((c.words.grip a).turn ≡ true) × ((c.words.grip a).committed ≡ false)
      × ((c.notes a).prepared ≡ Some q) × (length c.words.journal < fuel)
      × (c' ≡ entered_core c a v q) × (out ≡ Entered (length c.words.journal))
  Step fuel c a Give c' out =
      ((c.words.grip a).turn ≡ true)
      × (c' ≡ record c { words = given c.words a }) × (out ≡ Moved)
  Step fuel c a (WriteMirror k h) c' out =
      (v : ℕ) × (h < 2) × ((c.words.grip a).vertex ≡ Some v)
      × ((c.words.grip a).committed ≡ true) × ((c.words.grip a).turn ≡ false)
      × (g.spans v k ≡ true) × ((c.notes a).written k h ≡ false)
      × (c' ≡ written_core c a v k h) × (out ≡ Moved)
