-- A board after a claim or a drop shows the core after it.
use Rattle.std.proofs.Common.{ℕ, ◌<◌, ◌≡◌, ◌≢◌, ◌⊎◌, ◌==◌, ◌&&◌, length, List, slice_set, Bool, true, false, cond, Option, Some, None, inl, inr, refl, sym, ap, subst, ◌∙◌, true≢false}
use Rattle.std.proofs.lemmas.Bool.Decides.{Decides-eqb}
use Rattle.pg_graph.specs.Multigraph.{Multigraph}
use Rattle.pg_law.specs.declared.values.Datum.{Datum}
use Rattle.pg_law.specs.declared.values.JournalEntry.{JournalEntry}
use Rattle.pg_meals.specs.declared.fork.Fork.{Fork}
use Rattle.pg_meals.specs.declared.seat.Seat.{Seat}
use Rattle.pg_meals.specs.declared.seat.Replica.{Replica}
use Rattle.pg_meals.specs.declared.actor.Actor.{Actor}
use Rattle.pg_meals.specs.declared.board.Board.{Board}
use Rattle.pg_meals.specs.Families.{set_at}
use Rattle.pg_meals.specs.Words.{Grip, empty_grip}
use Rattle.pg_meals.specs.Core.{Core, empty_notes}
use Rattle.pg_law.specs.Values.{two}
use Rattle.pg_meals.specs.Entries.{is_actor, no_seat, idle, fork_at, seat_at, actor_at}
use Rattle.pg_meals.specs.Boards.{IsBoard}
use Rattle.pg_meals.specs.Shown.{content_of, place_of, half_noted, written_of, grip_of, notes_of, core_from}
use Rattle.pg_meals.proofs.At.{same_or_not, false_test}
use Rattle.pg_meals.proofs.Marking.{prepared_like}
use Rattle.pg_meals.proofs.Riding.{carried_other}
use Rattle.pg_meals.proofs.ListReads.{read_set, read_as, read_like}

-- whoever has no vertex in hand has pinned nothing
pins_nothing : (a : ℕ) (o : Option ℕ) → ((b : ℕ) → o ≡ Some b → b ≡ a → ⊥) → is_actor a o ≡ false
pins_nothing a None n = refl
pins_nothing a (Some b) n = false_test b a (n b refl)

pub unpinned : {A : Type 0} (g : Multigraph) (b : Board A) → IsBoard g b → (a : ℕ) → (actor_at b.actors.items a).vertex ≡ None → (w e : ℕ) → is_actor a (fork_at w b.forks.items e).mark.pinner ≡ false
unpinned g b board a none w e = pins_nothing a (fork_at w b.forks.items e).mark.pinner (λ o q r.
    let there = (board.held w o e q).1 in
    let nowhere = subst (λ k. (actor_at b.actors.items k).vertex ≡ None) (sym r) none in
    cc)

-- who hasn't committed has written nothing
pub nothing_written : (o : Option ℕ) (replicas : ℕ → List Replica) (k h : ℕ) → written_of o false replicas k h ≡ false
nothing_written None replicas k h = refl
nothing_written (Some v) replicas k h = refl

module _ {A : Type 0} (d : Datum) (seats : List (Seat A)) (forks : ℕ → Fork A) (replicas : ℕ → List Replica) (actors : List Actor) (turn : Option ℕ) (journal : List JournalEntry) (a v : ℕ) (seat : Seat A) (holder has : Option ℕ) (evidence : Bool) (y : Actor)
    (a_in : a < length actors) (v_in : v < length seats) (is : seat ≡ seat_at d seats v) (y_is : y ≡ record idle { vertex = has; evidence = evidence }) (pins : (e : ℕ) → is_actor a (forks e).mark.pinner ≡ false) where
  abbrev x : Seat A
  x = record seat { holder = holder }

  cell_is : (u : ℕ) → (seat_at d (slice_set seats v x) u).prepared ≡ (seat_at d seats u).prepared
  cell_is u = read_like (λ (s : Seat A). s.prepared) seats v x u (no_seat d) v_in (ap (λ (s : Seat A). s.prepared) is)

  abbrev old : Core A
  old = core_from (seat_at d seats) forks replicas (actor_at actors) turn journal

  abbrev new : Core A
  new = core_from (seat_at d (slice_set seats v x)) forks replicas (actor_at (slice_set actors a y)) turn journal

  abbrev grip : Grip
  grip = record empty_grip { vertex = has; evidence = evidence }

  grip_is : (b : ℕ) → (b ≡ a) ⊎ (b ≢ a) → new.words.grip b ≡ set_at old.words.grip a grip b
  grip_is b (inl q) =
      let t : (b == a) ≡ true = (Decides-eqb b a).1 q in
      let z : actor_at (slice_set actors a y) b ≡ record idle { vertex = has; evidence = evidence } = read_set actors a y b idle a_in ∙ ap (λ k. cond k y (actor_at actors b)) t ∙ y_is in
      let none : (e : ℕ) → is_actor b (forks e).mark.pinner ≡ false = λ e. ap (λ k. is_actor k (forks e).mark.pinner) q ∙ pins e in
      let g : grip_of b (record idle { vertex = has; evidence = evidence }) forks ≡ grip = λ j. record { vertex = has; pins = λ e. none e j; taken = λ e. none e j && (forks e).mark.taken; evidence = evidence; committed = false; turn = false } in
      rw (t) (ap (λ k. grip_of b k forks) z ∙ g)
  grip_is b (inr n) =
      let t : (b == a) ≡ false = false_test b a n in
      let z : actor_at (slice_set actors a y) b ≡ actor_at actors b = read_set actors a y b idle a_in ∙ ap (λ k. cond k y (actor_at actors b)) t in
      rw (t) (ap (λ k. grip_of b k forks) z)

  notes_are : (b : ℕ) → (b ≡ a) ⊎ (b ≢ a) → new.notes b ≡ set_at old.notes a empty_notes b
  notes_are b (inl q) =
      let t : (b == a) ≡ true = (Decides-eqb b a).1 q in
      let z : actor_at (slice_set actors a y) b ≡ record idle { vertex = has; evidence = evidence } = read_set actors a y b idle a_in ∙ ap (λ k. cond k y (actor_at actors b)) t ∙ y_is in
      let none : (e : ℕ) → is_actor b (forks e).mark.pinner ≡ false = λ e. ap (λ k. is_actor k (forks e).mark.pinner) q ∙ pins e in
      let g : notes_of b (record idle { vertex = has; evidence = evidence }) forks (seat_at d (slice_set seats v x)) replicas ≡ empty_notes
      = λ j. record { noted = λ e h. half_noted h (cond (none e j) (forks e).mark.noted None); prepared = None; written = λ k h. nothing_written has replicas k h j; before = two 0 0 } in
      rw (t) (ap (λ k. notes_of b k forks (seat_at d (slice_set seats v x)) replicas) z ∙ g)
  notes_are b (inr n) =
      let t : (b == a) ≡ false = false_test b a n in
      let z : actor_at (slice_set actors a y) b ≡ actor_at actors b = read_set actors a y b idle a_in ∙ ap (λ k. cond k y (actor_at actors b)) t in
      let g : notes_of b (actor_at actors b) forks (seat_at d (slice_set seats v x)) replicas ≡ old.notes b
      = λ j. record (old.notes b) { prepared = prepared_like b (actor_at actors b).ready (actor_at actors b).vertex (seat_at d (slice_set seats v x)) (seat_at d seats) forks forks (λ u q. cell_is u) (λ z q e. refl) j } in
      rw (t) (ap (λ k. notes_of b k forks (seat_at d (slice_set seats v x)) replicas) z ∙ g)

  pub seated_shows : new ≡ record old { words = record old.words { vertex = set_at old.words.vertex v holder; grip = set_at old.words.grip a grip }; notes = set_at old.notes a empty_notes }
  seated_shows = λ j. record {
    words = record {
      vertex = λ u. read_as (λ (s : Seat A). s.holder) seats v x u (no_seat d) v_in j;
      fork = old.words.fork;
      turn = turn;
      grip = λ b. grip_is b (same_or_not b a) j;
      journal = journal;
    };
    content = λ e. content_of (carried_other actors a y a_in (forks e) (pins e) j);
    place = λ u. read_like place_of seats v x u (no_seat d) v_in (ap place_of is) j;
    replica = old.replica;
    notes = λ b. notes_are b (same_or_not b a) j;
  }

pub none_of : {X : Type 0} (b : Bool) (o : Option X) → b ≡ Rattle.std.specs.Prelude.is_some o → b ≡ false → o ≡ None
none_of b None e f = refl
none_of b (Some x) e f = absurd (true≢false (sym e ∙ f))
