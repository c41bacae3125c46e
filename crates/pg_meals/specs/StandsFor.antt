-- What ties places, contents, replicas and notes to the serial state, at every moment.
use Rattle.std.specs.Prelude.{ℕ, ◌≡◌, ◌<◌, true, false, Some}
use Rattle.pg_graph.specs.declared.edge.Side.{Side}
use Rattle.pg_law.specs.Program.{Program}
use Rattle.pg_law.specs.Laws.{IsDelta, IsOptional}
use Rattle.pg_delta.specs.Cell.{IsCell}
use Rattle.pg_delta.specs.Truth.{IsTrueOf}
use Rattle.pg_meals.specs.Shape.{Shape}
use Rattle.pg_meals.specs.Words.{PinsAll, waiter}
use Rattle.pg_meals.specs.Hygiene.{Hygiene}
use Rattle.pg_meals.specs.Serial.{Serial, Legal, replay, fresh, applied, scattered}
use Rattle.pg_meals.specs.Core.{Content, Core, Prepared, half_of}
use Rattle.pg_meals.specs.Standing.{stands, signalled, cell_in}
use Rattle.pg_meals.specs.Preparing.{kept_cell, content_after}

-- what rides on a fork are values of the program
pub record IsContent {A C : Type 0} (p : Program A C) (content : Content A) : Type 0 where
  pub word : p.IsWord content.word
  pub message : (s : Side) → IsOptional p.IsMessage (content.message s)
  pub delta : (s : Side) → IsDelta p.IsAcc (content.delta s)

module _ {A C : Type 0} (p : Program A C) (g : Shape) where
  -- what is prepared for v is what its execution gives
  pub record IsReady (c : Core A) (a v : ℕ) (q : Prepared A) : Type 0 where
    pub all : PinsAll g c.words a v
    pub message : ℕ
    pub signal : (stands p g c).message v ≡ Some message
    pub datum : q.datum ≡ (applied p g (stands p g c) v message).datum
    pub again : q.again ≡ (applied p g (stands p g c) v message).again
    pub cell : q.cell ≡ kept_cell p g g.caches (fresh p g (stands p g c) v)
    pub content : (s : Side) (e : ℕ) → e < g.edges → g.end s e ≡ v
        → q.content e ≡ content_after p g s (c.content e)
        (scattered p g (stands p g c) (applied p g (stands p g c) v message) s e)

  pub record StandsFor (opening : Serial) (c : Core A) : Type 0 where
    -- the journal is legal, and the core stands for its replay
    pub legal : Legal p g opening c.words.journal
    pub replayed : replay p g opening c.words.journal ≡ stands p g c
    -- each half of each replica is that half of its vertex's datum
    -- but for a half that an actor that has committed has yet to write: that is of the datum before
    -- its entry, and the actor has all forks of the vertex
    pub replica_is : (v k h : ℕ) → g.spans v k ≡ true → h < 2
        → ((a : ℕ) → (c.words.grip a).vertex ≡ Some v → (c.words.grip a).committed ≡ true
        → (c.notes a).written k h ≡ true)
        → c.replica v k h ≡ half_of h (c.place v).datum
    pub replica_before : (a v k h : ℕ)
        → (c.words.grip a).vertex ≡ Some v → (c.words.grip a).committed ≡ true
        → g.spans v k ≡ true → h < 2 → (c.notes a).written k h ≡ false
        → c.replica v k h ≡ half_of h (c.notes a).before
    pub unwritten_pins : (a v k h : ℕ)
        → (c.words.grip a).vertex ≡ Some v → (c.words.grip a).committed ≡ true
        → g.spans v k ≡ true → h < 2 → (c.notes a).written k h ≡ false
        → PinsAll g c.words a v
    -- a half is noted over a pinned fork alone, and is that of the datum at the other end
    pub noted_pinned : (a e h x : ℕ) → (c.notes a).noted e h ≡ Some x
        → (c.words.grip a).pins e ≡ true
    pub noted_is : (a e h x : ℕ) → (c.notes a).noted e h ≡ Some x
        → x ≡ half_of h (c.place (waiter g c.words e)).datum
    -- what is prepared and not committed is what the execution gives
    pub ready : (a v : ℕ) (q : Prepared A)
        → (c.words.grip a).vertex ≡ Some v → (c.words.grip a).committed ≡ false
        → (c.notes a).prepared ≡ Some q → IsReady c a v q
    -- a kept gather, with all that waits for it, is the fresh one; there is one only with caches
    pub cell_true : (v : ℕ) → IsTrueOf p.sum (cell_in p g c v) (fresh p g (stands p g c) v)
    pub cell_kept : (v : ℕ) (a : A) → (c.place v).cell.acc ≡ Some a → g.caches ≡ true
    -- each value at a vertex and on a fork is one of the program
    pub datum_fits : (v : ℕ) → p.IsDatum (c.place v).datum
    pub own_message : (v : ℕ) → IsOptional p.IsMessage (c.place v).message
    pub cell_fits : (v : ℕ) → IsCell p (c.place v).cell
    pub content_fits : (e : ℕ) → IsContent p (c.content e)

  -- what holds of a core at every moment
  pub record Invariant (fuel : ℕ) (opening : Serial) (c : Core A) : Type 0 where
    pub clean : Hygiene g fuel (signalled p g c) c.words
    pub true_of : StandsFor opening c

  -- what is prepared for v are values of the program
  pub record IsPrepared (v : ℕ) (q : Prepared A) : Type 0 where
    pub datum : p.IsDatum q.datum
    pub again : IsOptional p.IsMessage q.again
    pub cell : IsCell p q.cell
    pub content : (s : Side) (e : ℕ) → e < g.edges → g.end s e ≡ v → IsContent p (q.content e)
