-- Each act but the entry leaves the serial state, and what holds of replicas, notes and what is prepared.
use Rattle.std.proofs.Common.{ℕ, ◌<◌, ◌≡◌, ◌≢◌, ◌⊎◌, Bool, true, false, Some, None, inl, inr, arith, sym, ap, ◌∙◌}
use Rattle.std.proofs.lemmas.Bool.Decides.{nat_tests}
use Rattle.pg_forks.specs.declared.fork_word.ForkWord.{ForkWord}
use Rattle.pg_meals.specs.Families.{set_at}
use Rattle.pg_meals.specs.Shape.{Shape}
use Rattle.pg_meals.specs.Words.{Words, waiter, claimed, dropped, marked, pinned, asked, backed, turn_taken, given}
use Rattle.pg_law.specs.Program.{Program}
use Rattle.pg_meals.specs.Serial.{Serial}
use Rattle.pg_meals.specs.Core.{Core, Prepared, Notes, empty_notes, half_of}
use Rattle.pg_meals.specs.Acts.{MayLeave}
use Rattle.pg_meals.specs.StandsFor.{IsReady, StandsFor}
use Rattle.pg_meals.proofs.At.{same_or_not, SameThree, three_or_not, set_three_same, set_three_other}

module _ {A C : Type 0} (p : Program A C) (g : Shape) where
  -- what is ready stays so while contents and places stay and its forks stay pinned
  pub ready_moves : (c : Core A) (w : Words) (r : ℕ → ℕ → ℕ → ℕ) (n : ℕ → Notes A) (b u : ℕ) (q : Prepared A) → ((e : ℕ) → (c.words.grip b).pins e ≡ true → (w.grip b).pins e ≡ true)
      → IsReady p g c b u q → IsReady p g (record { words = w; content = c.content; place = c.place; replica = r; notes = n }) b u q
  ready_moves c w r n b u q keeps h = record {
    all = λ s e i at. keeps e (h.all s e i at);
    message = h.message;
    signal = h.signal;
    datum = h.datum;
    again = h.again;
    cell = h.cell;
    content = h.content;
  }

  module _ (opening : Serial) where
    pub claim_stands : (c : Core A) (a v : ℕ) (evidence : Bool) → (c.words.grip a).vertex ≡ None → StandsFor p g opening c
        → StandsFor p g opening (record { words = claimed c.words a v evidence; content = c.content; place = c.place; replica = c.replica; notes = set_at c.notes a empty_notes })
    claim_stands c a v evidence idle h = record {
      legal = h.legal;
      replayed = h.replayed;
      replica_is = λ u k n s i t. grind (arith, nat_tests, h.replica_is);
      replica_before = λ b u k n v t s i f. grind (arith, nat_tests, h.replica_before);
      unwritten_pins = λ b u k n v t s i f. λ d e j at. grind (arith, nat_tests, h.unwritten_pins);
      noted_pinned = λ b e n x t. grind (arith, nat_tests, h.noted_pinned);
      noted_is = λ b e n x t. grind (arith, nat_tests, h.noted_is);
      ready = λ b u q v f r. ready_moves c _ _ _ b u q (λ e t. grind (arith, nat_tests)) (h.ready b u q (grind (arith, nat_tests)) (grind (arith, nat_tests)) (grind (arith, nat_tests)));
      cell_true = h.cell_true;
      cell_kept = h.cell_kept;
      own_message = h.own_message;
      datum_fits = h.datum_fits;
      content_fits = h.content_fits;
      cell_fits = h.cell_fits;
    }

    pub drop_stands : (c : Core A) (a v : ℕ) → (c.words.grip a).vertex ≡ Some v → ((e : ℕ) → (c.words.grip a).pins e ≡ false) → MayLeave g c a v → StandsFor p g opening c
        → StandsFor p g opening (record { words = dropped c.words a v; content = c.content; place = c.place; replica = c.replica; notes = set_at c.notes a empty_notes })
    drop_stands c a v busy empty may h = record {
      legal = h.legal;
      replayed = h.replayed;
      replica_is = λ u k n s i t. grind (arith, nat_tests, h.replica_is, may, empty);
      replica_before = λ b u k n v t s i f. grind (arith, nat_tests, h.replica_before, may, empty);
      unwritten_pins = λ b u k n v t s i f. λ d e j at. grind (arith, nat_tests, h.unwritten_pins, may, empty);
      noted_pinned = λ b e n x t. grind (arith, nat_tests, h.noted_pinned, may, empty);
      noted_is = λ b e n x t. grind (arith, nat_tests, h.noted_is, may, empty);
      ready = λ b u q v f r. ready_moves c _ _ _ b u q (λ e t. grind (arith, nat_tests)) (h.ready b u q (grind (arith, nat_tests)) (grind (arith, nat_tests)) (grind (arith, nat_tests)));
      cell_true = h.cell_true;
      cell_kept = h.cell_kept;
      own_message = h.own_message;
      datum_fits = h.datum_fits;
      content_fits = h.content_fits;
      cell_fits = h.cell_fits;
    }

    pub mark_stands : (c : Core A) (a : ℕ) (evidence : Bool) → StandsFor p g opening c
        → StandsFor p g opening (record { words = marked c.words a evidence; content = c.content; place = c.place; replica = c.replica; notes = c.notes })
    mark_stands c a evidence h = record {
      legal = h.legal;
      replayed = h.replayed;
      replica_is = λ u k n s i t. grind (arith, nat_tests, h.replica_is);
      replica_before = λ b u k n v t s i f. grind (arith, nat_tests, h.replica_before);
      unwritten_pins = λ b u k n v t s i f. λ d e j at. grind (arith, nat_tests, h.unwritten_pins);
      noted_pinned = λ b e n x t. grind (arith, nat_tests, h.noted_pinned);
      noted_is = λ b e n x t. grind (arith, nat_tests, h.noted_is);
      ready = λ b u q v f r. ready_moves c _ _ _ b u q (λ e t. grind (arith, nat_tests)) (h.ready b u q (grind (arith, nat_tests)) (grind (arith, nat_tests)) (grind (arith, nat_tests)));
      cell_true = h.cell_true;
      cell_kept = h.cell_kept;
      own_message = h.own_message;
      datum_fits = h.datum_fits;
      content_fits = h.content_fits;
      cell_fits = h.cell_fits;
    }

    pub pin_stands : (c : Core A) (a e : ℕ) (word : ForkWord) (taken evidence : Bool) → ((b : ℕ) → (c.words.grip b).pins e ≡ true → (c.words.fork e).pinned ≡ true) → (c.words.fork e).pinned ≡ false → StandsFor p g opening c
        → StandsFor p g opening (record { words = pinned c.words a e word taken evidence; content = c.content; place = c.place; replica = c.replica; notes = c.notes })
    pin_stands c a f word taken evidence held free h = record {
      legal = h.legal;
      replayed = h.replayed;
      replica_is = λ u k n s i t. grind (arith, nat_tests, h.replica_is, held);
      replica_before = λ b u k n v t s i f. grind (arith, nat_tests, h.replica_before, held);
      unwritten_pins = λ b u k n v t s i f. λ d e j at. grind (arith, nat_tests, h.unwritten_pins, held);
      noted_pinned = λ b e n x t. grind (arith, nat_tests, h.noted_pinned, held);
      noted_is = λ b e n x t. grind (arith, nat_tests, h.noted_is, held);
      ready = λ b u q v f r. ready_moves c _ _ _ b u q (λ e t. grind (arith, nat_tests)) (h.ready b u q (grind (arith, nat_tests)) (grind (arith, nat_tests)) (grind (arith, nat_tests)));
      cell_true = h.cell_true;
      cell_kept = h.cell_kept;
      own_message = h.own_message;
      datum_fits = h.datum_fits;
      content_fits = h.content_fits;
      cell_fits = h.cell_fits;
    }

    pub ask_stands : (c : Core A) (e : ℕ) → StandsFor p g opening c
        → StandsFor p g opening (record { words = asked c.words e (record (c.words.fork e) { asked = true }); content = c.content; place = c.place; replica = c.replica; notes = c.notes })
    ask_stands c f h = record {
      legal = h.legal;
      replayed = h.replayed;
      replica_is = λ u k n s i t. grind (arith, nat_tests, h.replica_is);
      replica_before = λ b u k n v t s i f. grind (arith, nat_tests, h.replica_before);
      unwritten_pins = λ b u k n v t s i f. λ d e j at. grind (arith, nat_tests, h.unwritten_pins);
      noted_pinned = λ b e n x t. grind (arith, nat_tests, h.noted_pinned);
      noted_is = λ b e n x t. grind (arith, nat_tests, h.noted_is);
      ready = λ b u q v f r. ready_moves c _ _ _ b u q (λ e t. grind (arith, nat_tests)) (h.ready b u q (grind (arith, nat_tests)) (grind (arith, nat_tests)) (grind (arith, nat_tests)));
      cell_true = h.cell_true;
      cell_kept = h.cell_kept;
      own_message = h.own_message;
      datum_fits = h.datum_fits;
      content_fits = h.content_fits;
      cell_fits = h.cell_fits;
    }

    back_ready : (c : Core A) (a e : ℕ) (word : ForkWord) (b u : ℕ) (q : Prepared A) → (b ≡ a) ⊎ (b ≢ a)
        → ((b u : ℕ) (q : Prepared A) → (c.words.grip b).vertex ≡ Some u → (c.words.grip b).committed ≡ false → (c.notes b).prepared ≡ Some q → IsReady p g c b u q)
        → ((backed c.words a e word).grip b).vertex ≡ Some u → ((backed c.words a e word).grip b).committed ≡ false
        → (set_at c.notes a (record (c.notes a) { noted = set_at (c.notes a).noted e (λ _. None); prepared = None }) b).prepared ≡ Some q
        → IsReady p g (record { words = backed c.words a e word; content = c.content; place = c.place; replica = c.replica; notes = set_at c.notes a (record (c.notes a) { noted = set_at (c.notes a).noted e (λ _. None); prepared = None }) }) b u q
    back_ready c a e word b u q (inl s) old v t r = absurd (grind (arith, nat_tests))
    back_ready c a e word b u q (inr s) old v t r = ready_moves c _ _ _ b u q (λ f m. grind (arith, nat_tests)) (old b u q (grind (arith, nat_tests)) (grind (arith, nat_tests)) (grind (arith, nat_tests)))

    pub back_stands : (c : Core A) (a e : ℕ) (word : ForkWord) → (c.words.grip a).pins e ≡ true → ((b : ℕ) → (c.words.grip b).pins e ≡ true → b ≡ a) → ((v k n : ℕ) → (c.words.grip a).vertex ≡ Some v → (c.words.grip a).committed ≡ true → g.spans v k ≡ true → n < 2 → (c.notes a).written k n ≡ true) → StandsFor p g opening c
        → StandsFor p g opening (record { words = backed c.words a e word; content = c.content; place = c.place; replica = c.replica; notes = set_at c.notes a (record (c.notes a) { noted = set_at (c.notes a).noted e (λ _. None); prepared = None }) })
    back_stands c a f word mine only may h = record {
      legal = h.legal;
      replayed = h.replayed;
      replica_is = λ u k n s i t. grind (arith, nat_tests, h.replica_is, only, may);
      replica_before = λ b u k n v t s i f. grind (arith, nat_tests, h.replica_before, only, may);
      unwritten_pins = λ b u k n v t s i f. λ d e j at. grind (arith, nat_tests, h.unwritten_pins, only, may);
      noted_pinned = λ b e n x t. grind (arith, nat_tests, h.noted_pinned, only, may);
      noted_is = λ b e n x t. grind (arith, nat_tests, h.noted_is, only, may);
      ready = λ b u q v t r. back_ready c a f word b u q (same_or_not b a) h.ready v t r;
      cell_true = h.cell_true;
      cell_kept = h.cell_kept;
      own_message = h.own_message;
      datum_fits = h.datum_fits;
      content_fits = h.content_fits;
      cell_fits = h.cell_fits;
    }

    pub read_stands : (c : Core A) (a e n : ℕ) → (c.words.grip a).pins e ≡ true → c.replica (waiter g c.words e) (g.worker e) n ≡ half_of n (c.place (waiter g c.words e)).datum → StandsFor p g opening c
        → StandsFor p g opening (record { words = c.words; content = c.content; place = c.place; replica = c.replica; notes = set_at c.notes a (record (c.notes a) { noted = set_at (c.notes a).noted e (set_at ((c.notes a).noted e) n (Some (c.replica (waiter g c.words e) (g.worker e) n))) }) })
    read_stands c a f m mine good h = record {
      legal = h.legal;
      replayed = h.replayed;
      replica_is = λ u k n s i t. grind (arith, nat_tests, h.replica_is);
      replica_before = λ b u k n v t s i f. grind (arith, nat_tests, h.replica_before);
      unwritten_pins = λ b u k n v t s i f. λ d e j at. grind (arith, nat_tests, h.unwritten_pins);
      noted_pinned = λ b e n x t. grind (arith, nat_tests, h.noted_pinned);
      noted_is = λ b e n x t. grind (arith, nat_tests, h.noted_is);
      ready = λ b u q v f r. ready_moves c _ _ _ b u q (λ e t. grind (arith, nat_tests)) (h.ready b u q (grind (arith, nat_tests)) (grind (arith, nat_tests)) (grind (arith, nat_tests)));
      cell_true = h.cell_true;
      cell_kept = h.cell_kept;
      own_message = h.own_message;
      datum_fits = h.datum_fits;
      content_fits = h.content_fits;
      cell_fits = h.cell_fits;
    }

    pub turn_stands : (c : Core A) (a : ℕ) → StandsFor p g opening c
        → StandsFor p g opening (record { words = turn_taken c.words a; content = c.content; place = c.place; replica = c.replica; notes = c.notes })
    turn_stands c a h = record {
      legal = h.legal;
      replayed = h.replayed;
      replica_is = λ u k n s i t. grind (arith, nat_tests, h.replica_is);
      replica_before = λ b u k n v t s i f. grind (arith, nat_tests, h.replica_before);
      unwritten_pins = λ b u k n v t s i f. λ d e j at. grind (arith, nat_tests, h.unwritten_pins);
      noted_pinned = λ b e n x t. grind (arith, nat_tests, h.noted_pinned);
      noted_is = λ b e n x t. grind (arith, nat_tests, h.noted_is);
      ready = λ b u q v f r. ready_moves c _ _ _ b u q (λ e t. grind (arith, nat_tests)) (h.ready b u q (grind (arith, nat_tests)) (grind (arith, nat_tests)) (grind (arith, nat_tests)));
      cell_true = h.cell_true;
      cell_kept = h.cell_kept;
      own_message = h.own_message;
      datum_fits = h.datum_fits;
      content_fits = h.content_fits;
      cell_fits = h.cell_fits;
    }

    pub give_stands : (c : Core A) (a : ℕ) → StandsFor p g opening c
        → StandsFor p g opening (record { words = given c.words a; content = c.content; place = c.place; replica = c.replica; notes = c.notes })
    give_stands c a h = record {
      legal = h.legal;
      replayed = h.replayed;
      replica_is = λ u k n s i t. grind (arith, nat_tests, h.replica_is);
      replica_before = λ b u k n v t s i f. grind (arith, nat_tests, h.replica_before);
      unwritten_pins = λ b u k n v t s i f. λ d e j at. grind (arith, nat_tests, h.unwritten_pins);
      noted_pinned = λ b e n x t. grind (arith, nat_tests, h.noted_pinned);
      noted_is = λ b e n x t. grind (arith, nat_tests, h.noted_is);
      ready = λ b u q v f r. ready_moves c _ _ _ b u q (λ e t. grind (arith, nat_tests)) (h.ready b u q (grind (arith, nat_tests)) (grind (arith, nat_tests)) (grind (arith, nat_tests)));
      cell_true = h.cell_true;
      cell_kept = h.cell_kept;
      own_message = h.own_message;
      datum_fits = h.datum_fits;
      content_fits = h.content_fits;
      cell_fits = h.cell_fits;
    }

    written_is : (c : Core A) (a v j m : ℕ) → (c.words.grip a).vertex ≡ Some v → (c.words.grip a).committed ≡ true → ((b : ℕ) → (c.words.grip b).vertex ≡ Some v → b ≡ a)
        → ((u k n : ℕ) → g.spans u k ≡ true → n < 2 → ((b : ℕ) → (c.words.grip b).vertex ≡ Some u → (c.words.grip b).committed ≡ true → (c.notes b).written k n ≡ true) → c.replica u k n ≡ half_of n (c.place u).datum)
        → (u k n : ℕ) → SameThree u k n v j m ⊎ ((u ≡ v) → (k ≡ j) → (n ≡ m) → ⊥) → g.spans u k ≡ true → n < 2
        → ((b : ℕ) → (c.words.grip b).vertex ≡ Some u → (c.words.grip b).committed ≡ true → (set_at c.notes a (record (c.notes a) { written = set_at (c.notes a).written j (set_at ((c.notes a).written j) m true) }) b).written k n ≡ true)
        → set_at c.replica v (set_at (c.replica v) j (set_at (c.replica v j) m (half_of m (c.place v).datum))) u k n ≡ half_of n (c.place u).datum
    written_is c a v j m busy entered only old u k n (inl s) i t all =
        set_three_same c.replica u k n v j m (half_of m (c.place v).datum) s ∙ (ap (λ x. half_of x (c.place v).datum) (sym s.third) ∙ ap (λ x. half_of n (c.place x).datum) (sym s.first))
    written_is c a v j m busy entered only old u k n (inr s) i t all =
        set_three_other c.replica u k n v j m (half_of m (c.place v).datum) s ∙ old u k n i t (λ b f r. grind (arith, nat_tests, all b f r, s, only))

    written_before : (c : Core A) (a v j m : ℕ) → (c.words.grip a).vertex ≡ Some v → ((b : ℕ) → (c.words.grip b).vertex ≡ Some v → b ≡ a)
        → ((b u k n : ℕ) → (c.words.grip b).vertex ≡ Some u → (c.words.grip b).committed ≡ true → g.spans u k ≡ true → n < 2 → (c.notes b).written k n ≡ false → c.replica u k n ≡ half_of n (c.notes b).before)
        → (b u k n : ℕ) → SameThree u k n v j m ⊎ ((u ≡ v) → (k ≡ j) → (n ≡ m) → ⊥) → (c.words.grip b).vertex ≡ Some u → (c.words.grip b).committed ≡ true → g.spans u k ≡ true → n < 2
        → (set_at c.notes a (record (c.notes a) { written = set_at (c.notes a).written j (set_at ((c.notes a).written j) m true) }) b).written k n ≡ false
        → set_at c.replica v (set_at (c.replica v) j (set_at (c.replica v j) m (half_of m (c.place v).datum))) u k n ≡ half_of n (set_at c.notes a (record (c.notes a) { written = set_at (c.notes a).written j (set_at ((c.notes a).written j) m true) }) b).before
    written_before c a v j m busy only old b u k n (inl s) f r i t none = absurd (grind (arith, nat_tests, only, s.first, s.second, s.third))
    written_before c a v j m busy only old b u k n (inr s) f r i t none =
        let same : (set_at c.notes a (record (c.notes a) { written = set_at (c.notes a).written j (set_at ((c.notes a).written j) m true) }) b).before ≡ (c.notes b).before = grind (arith, nat_tests) in
        set_three_other c.replica u k n v j m (half_of m (c.place v).datum) s ∙ (old b u k n f r i t (grind (arith, nat_tests)) ∙ sym (ap (half_of n) same))

    pub write_stands : (c : Core A) (a v k n : ℕ) → (c.words.grip a).vertex ≡ Some v → (c.words.grip a).committed ≡ true → ((b : ℕ) → (c.words.grip b).vertex ≡ Some v → b ≡ a) → StandsFor p g opening c
        → StandsFor p g opening (record { words = c.words; content = c.content; place = c.place; replica = set_at c.replica v (set_at (c.replica v) k (set_at (c.replica v k) n (half_of n (c.place v).datum))); notes = set_at c.notes a (record (c.notes a) { written = set_at (c.notes a).written k (set_at ((c.notes a).written k) n true) }) })
    write_stands c a v j m busy entered only h = record {
      legal = h.legal;
      replayed = h.replayed;
      replica_is = λ u k n s i t. written_is c a v j m busy entered only h.replica_is u k n (three_or_not u k n v j m) s i t;
      replica_before = λ b u k n f r s i t. written_before c a v j m busy only h.replica_before b u k n (three_or_not u k n v j m) f r s i t;
      unwritten_pins = λ b u k n v t s i f. λ d e j at. grind (arith, nat_tests, h.unwritten_pins, only);
      noted_pinned = λ b e n x t. grind (arith, nat_tests, h.noted_pinned, only);
      noted_is = λ b e n x t. grind (arith, nat_tests, h.noted_is, only);
      ready = λ b u q v f r. ready_moves c _ _ _ b u q (λ e t. grind (arith, nat_tests)) (h.ready b u q (grind (arith, nat_tests)) (grind (arith, nat_tests)) (grind (arith, nat_tests)));
      cell_true = h.cell_true;
      cell_kept = h.cell_kept;
      own_message = h.own_message;
      datum_fits = h.datum_fits;
      content_fits = h.content_fits;
      cell_fits = h.cell_fits;
    }
