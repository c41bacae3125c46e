-- A board after a datum was noted over a fork shows the core after both its halves were read.
use Rattle.std.proofs.Common.{ℕ, zero, suc, ◌<◌, ◌≡◌, ◌≢◌, ◌⊎◌, ◌==◌, ◌&&◌, length, List, slice_set, true, false, cond, Option, Some, None, inl, inr, refl, sym, ap, ◌∙◌, arith}
use Rattle.std.specs.Prelude.{ltb}
use Rattle.std.proofs.lemmas.Bool.Decides.{Decides-eqb, nat_tests}
use Rattle.std.proofs.lemmas.List.{get_or-set_same, get_or-set_other}
use Rattle.pg_law.specs.declared.values.Datum.{Datum}
use Rattle.pg_law.specs.declared.values.JournalEntry.{JournalEntry}
use Rattle.pg_meals.specs.declared.fork.Fork.{Fork}
use Rattle.pg_meals.specs.declared.seat.Seat.{Seat}
use Rattle.pg_meals.specs.declared.seat.Replica.{Replica}
use Rattle.pg_meals.specs.declared.actor.Actor.{Actor}
use Rattle.pg_meals.specs.Families.{set_at}
use Rattle.pg_meals.specs.Core.{Core, Notes}
use Rattle.pg_meals.specs.Entries.{is_actor, no_fork, fork_at}
use Rattle.pg_meals.specs.Shown.{carried, content_of, half_noted, noted_by, planned_by, core_from}
use Rattle.pg_meals.proofs.At.{same_or_not, false_test}
use Rattle.pg_meals.proofs.Marking.{prepared_like}
use Rattle.pg_meals.proofs.Showing.{as_set, kept, other_notes}

-- a noted datum is its two halves, one noted after the other
pub halves : (before : Option Datum) (datum : Datum) (m n : ℕ) → m ≡ datum.first → n ≡ datum.second
    → (h : ℕ) → half_noted h (Some datum) ≡ set_at (set_at (λ i. half_noted i before) 0 (Some m)) 1 (Some n) h
halves before datum m n p q zero = ap Some (sym p)
halves before datum m n p q (suc zero) = ap Some (sym q)
halves before datum m n p q (suc (suc h)) = past (Some datum) ∙ (sym (past before) ∙ kept_past)
  where
    kept_past : half_noted (suc (suc h)) before ≡ set_at (set_at (λ i. half_noted i before) 0 (Some m)) 1 (Some n) (suc (suc h))
    kept_past =
        let one : (suc (suc h) == 1) ≡ false = false_test (suc (suc h)) 1 (λ r. omega (arith, r)) in
        let nil : (suc (suc h) == 0) ≡ false = false_test (suc (suc h)) 0 (λ r. omega (arith, r)) in
        rw (one, nil) refl

    past : (o : Option Datum) → half_noted (suc (suc h)) o ≡ None
    past None = refl
    past (Some x) = let t : ltb (suc (suc h)) 2 ≡ false = grind (arith, nat_tests) in rw (t) refl

-- the notes with one half more over a fork
abbrev pub with_half : {A : Type 0} → ℕ → ℕ → ℕ → Notes A → Notes A
with_half e h m notes = record notes { noted = set_at notes.noted e (set_at (notes.noted e) h (Some m)) }

module _ {A : Type 0} (w : ℕ) (seats : ℕ → Seat A) (forks : List (Fork A)) (replicas : ℕ → List Replica) (actors : ℕ → Actor) (turn : Option ℕ) (journal : List JournalEntry) (a e : ℕ) (f : Fork A) (datum : Datum) (m n : ℕ)
    (e_in : e < length forks) (f_is : f ≡ fork_at w forks e) (mine : f.mark.pinner ≡ Some a) (m_is : m ≡ datum.first) (n_is : n ≡ datum.second) where
  abbrev x : Fork A
  x = record { mark = record { word = f.mark.word; pinner = f.mark.pinner; taken = f.mark.taken; noted = Some datum }; content = f.content; prepared = f.prepared }

  abbrev old : Core A
  old = core_from seats (fork_at w forks) replicas actors turn journal

  abbrev after : ℕ → Fork A
  after = fork_at w (slice_set forks e x)

  abbrev new : Core A
  new = core_from seats after replicas actors turn journal

  abbrev between : Core A
  between = record old { notes = set_at old.notes a (with_half e 0 m (old.notes a)) }

  is_mine : is_actor a f.mark.pinner ≡ true
  is_mine = ap (is_actor a) mine ∙ (Decides-eqb a a).1 refl

  not_theirs : (b : ℕ) → b ≢ a → is_actor b f.mark.pinner ≡ false
  not_theirs b d = ap (is_actor b) mine ∙ false_test a b (λ q. d (sym q))

  noted_is : (k h : ℕ) → (k ≡ e) ⊎ (k ≢ e) → half_noted h (noted_by a (after k).mark) ≡ (with_half e 1 n (with_half e 0 m (old.notes a))).noted k h
  noted_is k h (inl q) =
      let t : (k == e) ≡ true = (Decides-eqb k e).1 q in
      let s : (e == e) ≡ true = (Decides-eqb e e).1 refl in
      let here : half_noted h (noted_by a (after k).mark) ≡ half_noted h (Some datum)
      = ap (λ i. half_noted h (noted_by a (after i).mark)) q ∙ (ap (λ (z : Fork A). half_noted h (noted_by a z.mark)) (get_or-set_same forks e x (no_fork w) e_in) ∙ ap (λ b. half_noted h (cond b (Some datum) None)) is_mine) in
      let there : set_at (set_at (λ i. half_noted i (noted_by a (fork_at w forks e).mark)) 0 (Some m)) 1 (Some n) h ≡ (with_half e 1 n (with_half e 0 m (old.notes a))).noted k h
      = rw (t, s) refl in
      here ∙ (halves (noted_by a (fork_at w forks e).mark) datum m n m_is n_is h ∙ there)
  noted_is k h (inr d) =
      let t : (k == e) ≡ false = false_test k e d in
      let there : half_noted h (noted_by a (fork_at w forks k).mark) ≡ (with_half e 1 n (with_half e 0 m (old.notes a))).noted k h = rw (t) refl in
      ap (λ (z : Fork A). half_noted h (noted_by a z.mark)) (get_or-set_other forks e k x (no_fork w) d) ∙ there

  notes_are : (b : ℕ) → new.notes b ≡ set_at between.notes a (with_half e 1 n (between.notes a)) b
  notes_are = as_set between.notes new.notes a (with_half e 1 n (between.notes a))
      ((λ j. record (old.notes a) {
        noted = λ k h. noted_is k h (same_or_not k e) j;
        prepared = prepared_like a (actors a).ready (actors a).vertex seats seats after (fork_at w forks) (λ u q. refl) (λ z q k. kept w forks e x f e_in f_is (planned_by a) k refl) j;
      }) ∙ ap (λ b. with_half e 1 n (cond b (with_half e 0 m (old.notes a)) (old.notes a))) (sym ((Decides-eqb a a).1 refl)))
      (λ b d. other_notes w forks e x f e_in f_is b (not_theirs b d) (not_theirs b d) (actors b) seats replicas ∙ ap (λ t. cond t (with_half e 0 m (old.notes a)) (old.notes b)) (sym (false_test b a d)))

  pub read_shows : new ≡ record between { notes = set_at between.notes a (with_half e 1 n (between.notes a)) }
  read_shows = λ j. record {
    words = record {
      vertex = old.words.vertex;
      fork = λ k. kept w forks e x f e_in f_is (λ (z : Fork A). z.mark.word) k refl j;
      turn = turn;
      grip = λ b. record (old.words.grip b) {
        pins = λ k. kept w forks e x f e_in f_is (λ (z : Fork A). is_actor b z.mark.pinner) k refl j;
        taken = λ k. kept w forks e x f e_in f_is (λ (z : Fork A). is_actor b z.mark.pinner && z.mark.taken) k refl j;
      };
      journal = journal;
    };
    content = λ k. kept w forks e x f e_in f_is (λ (z : Fork A). content_of (carried actors z)) k refl j;
    place = old.place;
    replica = old.replica;
    notes = λ b. notes_are b j;
  }
