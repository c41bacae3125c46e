-- A board after a look, an ask or a pin shows the core after it.
use Rattle.std.proofs.Common.{ℕ, ◌<◌, ◌≡◌, ◌≢◌, ◌⊎◌, ◌==◌, ◌&&◌, ◌||◌, length, List, slice_set, Bool, true, false, cond, Option, Some, None, inl, inr, refl, sym, ap, ◌∙◌, true≢false}
use Rattle.std.specs.Prelude.{not}
use Rattle.std.specs.Option.{option_eq}
use Rattle.std.proofs.lemmas.Bool.Decides.{Decides-eqb}
use Rattle.pg_forks.specs.declared.fork_word.ForkWord.{ForkWord}
use Rattle.pg_law.specs.declared.values.Datum.{Datum}
use Rattle.pg_law.specs.declared.values.JournalEntry.{JournalEntry}
use Rattle.pg_meals.specs.declared.fork.Mark.{Mark}
use Rattle.pg_meals.specs.declared.fork.Fork.{Fork}
use Rattle.pg_meals.specs.declared.seat.Seat.{Seat}
use Rattle.pg_meals.specs.declared.seat.Replica.{Replica}
use Rattle.pg_meals.specs.declared.actor.Ready.{Ready}
use Rattle.pg_meals.specs.declared.actor.Actor.{Actor}
use Rattle.pg_meals.specs.Families.{set_at}
use Rattle.pg_meals.specs.Words.{marked, asked, pinned}
use Rattle.pg_graph.specs.declared.edge.Side.{Side}
use Rattle.pg_forks.specs.Transitions.{pin_of, take_of}
use Rattle.pg_meals.specs.Core.{Core, empty_content}
use Rattle.pg_meals.specs.Acts.{Got, got_of}
use Rattle.pg_meals.proofs.Rows.{got_row, pin_row, take_row}
use Rattle.pg_meals.specs.Entries.{is_actor, no_fork, idle, fork_at, actor_at}
use Rattle.pg_meals.specs.Shown.{carried, content_of, half_noted, noted_by, planned_by, prepared_of, grip_of, notes_of, core_from}
use Rattle.pg_meals.proofs.At.{same_or_not, false_test}
use Rattle.pg_meals.proofs.ListReads.{read_set, read_as, read_like}
use Rattle.pg_meals.proofs.Riding.{lone_carries, held_carries, carried_like}

-- what is prepared is the same where it is so for the vertex and on each fork
pub prepared_like : {A : Type 0} (b : ℕ) (o : Option Ready) (v : Option ℕ) (seats places : ℕ → Seat A) (f h : ℕ → Fork A)
    → ((u : ℕ) → v ≡ Some u → (seats u).prepared ≡ (places u).prepared) → ((x : Ready) → o ≡ Some x → (e : ℕ) → planned_by b (f e) ≡ planned_by b (h e))
    → prepared_of b o v seats f ≡ prepared_of b o v places h
prepared_like b None v seats places f h cell same = refl
prepared_like b (Some x) None seats places f h cell same = refl
prepared_like b (Some x) (Some v) seats places f h cell same = λ j. Some (record { datum = x.datum; again = x.again; cell = cell v refl j; content = λ e. same x refl e j })

module _ {A : Type 0} (w : ℕ) (seats : ℕ → Seat A) (forks : List (Fork A)) (replicas : ℕ → List Replica) (actors : List Actor) (turn : Option ℕ) (journal : List JournalEntry) where
  abbrev old : Core A
  old = core_from seats (fork_at w forks) replicas (actor_at actors) turn journal

  -- the evidence of one actor, and how many forks it has counted
  module _ (a : ℕ) (r : Actor) (evidence : Bool) (count : ℕ) (a_in : a < length actors) (is : r ≡ actor_at actors a) where
    abbrev y : Actor
    y = record r { evidence = evidence; pinned = count }

    abbrev shown : Core A
    shown = core_from seats (fork_at w forks) replicas (actor_at (slice_set actors a y)) turn journal

    actor_is : (b : ℕ) → actor_at (slice_set actors a y) b ≡ cond (b == a) y (actor_at actors b)
    actor_is b = read_set actors a y b idle a_in

    pub look_grip : (b : ℕ) → (b ≡ a) ⊎ (b ≢ a) → shown.words.grip b ≡ set_at old.words.grip a (record (old.words.grip a) { evidence = evidence }) b
    look_grip b (inl q) =
        let t : (b == a) ≡ true = (Decides-eqb b a).1 q in
        let z : actor_at (slice_set actors a y) b ≡ y = actor_is b ∙ ap (λ k. cond k y (actor_at actors b)) t in
        let g : grip_of b y (fork_at w forks) ≡ record (old.words.grip a) { evidence = evidence }
        = λ j. record (grip_of (q j) (is j) (fork_at w forks)) { evidence = evidence } in
        rw (t) (ap (λ k. grip_of b k (fork_at w forks)) z ∙ g)
    look_grip b (inr n) =
        let t : (b == a) ≡ false = false_test b a n in
        let z : actor_at (slice_set actors a y) b ≡ actor_at actors b = actor_is b ∙ ap (λ k. cond k y (actor_at actors b)) t in
        rw (t) (ap (λ k. grip_of b k (fork_at w forks)) z)

    -- the notes don't read the evidence
    pub look_notes : (h : ℕ → Fork A) (b : ℕ) → (b ≡ a) ⊎ (b ≢ a) → notes_of b (actor_at (slice_set actors a y) b) h seats replicas ≡ notes_of b (actor_at actors b) h seats replicas
    look_notes h b (inl q) =
        let t : (b == a) ≡ true = (Decides-eqb b a).1 q in
        let z : actor_at (slice_set actors a y) b ≡ y = actor_is b ∙ ap (λ k. cond k y (actor_at actors b)) t in
        ap (λ k. notes_of b k h seats replicas) z ∙ ap (λ k. notes_of b k h seats replicas) (is ∙ ap (actor_at actors) (sym q))
    look_notes h b (inr n) =
        let t : (b == a) ≡ false = false_test b a n in
        let z : actor_at (slice_set actors a y) b ≡ actor_at actors b = actor_is b ∙ ap (λ k. cond k y (actor_at actors b)) t in
        ap (λ k. notes_of b k h seats replicas) z

    pub look_shows : shown ≡ record old { words = marked old.words a evidence }
    look_shows = λ j. record {
      words = record { vertex = old.words.vertex; fork = old.words.fork; turn = turn; grip = λ b. look_grip b (same_or_not b a) j; journal = journal };
      content = λ k. content_of (carried_like actors a y a_in (ap (λ (z : Actor). z.committed) is) (fork_at w forks k) j);
      place = old.place;
      replica = old.replica;
      notes = λ b. look_notes (fork_at w forks) b (same_or_not b a) j;
    }

  -- the turn of one actor
  module _ (a : ℕ) (r : Actor) (holds : Bool) (word : Option ℕ) (a_in : a < length actors) (is : r ≡ actor_at actors a) where
    abbrev turned : Actor
    turned = record r { turn = holds }

    abbrev turn_shown : Core A
    turn_shown = core_from seats (fork_at w forks) replicas (actor_at (slice_set actors a turned)) word journal

    turned_is : (b : ℕ) → actor_at (slice_set actors a turned) b ≡ cond (b == a) turned (actor_at actors b)
    turned_is b = read_set actors a turned b idle a_in

    pub turn_grip : (b : ℕ) → (b ≡ a) ⊎ (b ≢ a) → turn_shown.words.grip b ≡ set_at old.words.grip a (record (old.words.grip a) { turn = holds }) b
    turn_grip b (inl q) =
        let t : (b == a) ≡ true = (Decides-eqb b a).1 q in
        let z : actor_at (slice_set actors a turned) b ≡ turned = turned_is b ∙ ap (λ k. cond k turned (actor_at actors b)) t in
        let g : grip_of b turned (fork_at w forks) ≡ record (old.words.grip a) { turn = holds }
        = λ j. record (grip_of (q j) (is j) (fork_at w forks)) { turn = holds } in
        rw (t) (ap (λ k. grip_of b k (fork_at w forks)) z ∙ g)
    turn_grip b (inr n) =
        let t : (b == a) ≡ false = false_test b a n in
        let z : actor_at (slice_set actors a turned) b ≡ actor_at actors b = turned_is b ∙ ap (λ k. cond k turned (actor_at actors b)) t in
        rw (t) (ap (λ k. grip_of b k (fork_at w forks)) z)

    -- the notes don't read the turn
    pub turn_notes : (h : ℕ → Fork A) (b : ℕ) → (b ≡ a) ⊎ (b ≢ a) → notes_of b (actor_at (slice_set actors a turned) b) h seats replicas ≡ notes_of b (actor_at actors b) h seats replicas
    turn_notes h b (inl q) =
        let t : (b == a) ≡ true = (Decides-eqb b a).1 q in
        let z : actor_at (slice_set actors a turned) b ≡ turned = turned_is b ∙ ap (λ k. cond k turned (actor_at actors b)) t in
        ap (λ k. notes_of b k h seats replicas) z ∙ ap (λ k. notes_of b k h seats replicas) (is ∙ ap (actor_at actors) (sym q))
    turn_notes h b (inr n) =
        let t : (b == a) ≡ false = false_test b a n in
        let z : actor_at (slice_set actors a turned) b ≡ actor_at actors b = turned_is b ∙ ap (λ k. cond k turned (actor_at actors b)) t in
        ap (λ k. notes_of b k h seats replicas) z

    pub turn_shows : turn_shown ≡ record old { words = record old.words { turn = word; grip = set_at old.words.grip a (record (old.words.grip a) { turn = holds }) } }
    turn_shows = λ j. record {
      words = record { vertex = old.words.vertex; fork = old.words.fork; turn = word; grip = λ b. turn_grip b (same_or_not b a) j; journal = journal };
      content = λ k. content_of (carried_like actors a turned a_in (ap (λ (z : Actor). z.committed) is) (fork_at w forks k) j);
      place = old.place;
      replica = old.replica;
      notes = λ b. turn_notes (fork_at w forks) b (same_or_not b a) j;
    }

  -- the word of one fork
  module _ (e : ℕ) (f : Fork A) (word : ForkWord) (e_in : e < length forks) (is : f ≡ fork_at w forks e) where
    abbrev asked_fork : Fork A
    asked_fork = record { mark = record { word = word; pinner = f.mark.pinner; taken = f.mark.taken; noted = f.mark.noted }; content = f.content; prepared = f.prepared }

    part : {Y : Type 0} (part_of : Fork A → Y) (k : ℕ) → part_of asked_fork ≡ part_of f → part_of (fork_at w (slice_set forks e asked_fork) k) ≡ part_of (fork_at w forks k)
    part part_of k same = read_like part_of forks e asked_fork k (no_fork w) e_in (same ∙ ap part_of is)

    pub ask_shows : core_from seats (fork_at w (slice_set forks e asked_fork)) replicas (actor_at actors) turn journal ≡ record old { words = asked old.words e word }
    ask_shows = λ j. record {
      words = record {
        vertex = old.words.vertex;
        fork = λ k. read_as (λ (x : Fork A). x.mark.word) forks e asked_fork k (no_fork w) e_in j;
        turn = turn;
        grip = λ b. record (old.words.grip b) {
          pins = λ k. part (λ (x : Fork A). is_actor b x.mark.pinner) k refl j;
          taken = λ k. part (λ (x : Fork A). is_actor b x.mark.pinner && x.mark.taken) k refl j;
        };
        journal = journal;
      };
      content = λ k. part (λ (x : Fork A). content_of (carried (actor_at actors) x)) k refl j;
      place = old.place;
      replica = old.replica;
      notes = λ b. record (old.notes b) {
        noted = λ k h. part (λ (x : Fork A). half_noted h (noted_by b x.mark)) k refl j;
        prepared = prepared_like b (actor_at actors b).ready (actor_at actors b).vertex seats seats (fork_at w (slice_set forks e asked_fork)) (fork_at w forks) (λ u q. refl) (λ z q k. part (planned_by b) k refl) j;
      };
    }

  -- one actor pins one fork
  module _ (a e : ℕ) (r : Actor) (f : Fork A) (word : ForkWord) (taken evidence : Bool) (count : ℕ) (a_in : a < length actors) (e_in : e < length forks) (r_is : r ≡ actor_at actors a) (f_is : f ≡ fork_at w forks e)
      (lone : f.mark.pinner ≡ None) (fresh : (actor_at actors a).committed ≡ false) (unready : (x : Ready) → (actor_at actors a).ready ≡ Some x → ⊥) where
    abbrev mark : Mark
    mark = record { word = word; pinner = Some a; taken = taken; noted = None }

    abbrev pinned_fork : Fork A
    pinned_fork = record { mark = mark; content = f.content; prepared = f.prepared }

    abbrev after : ℕ → Fork A
    after = fork_at w (slice_set forks e pinned_fork)

    abbrev record_of : Actor
    record_of = record r { evidence = evidence; pinned = count }

    kept : {Y : Type 0} (part_of : Fork A → Y) (k : ℕ) → part_of pinned_fork ≡ part_of f → part_of (after k) ≡ part_of (fork_at w forks k)
    kept part_of k same = read_like part_of forks e pinned_fork k (no_fork w) e_in (same ∙ ap part_of f_is)

    self : (a == a) ≡ true
    self = (Decides-eqb a a).1 refl

    -- the pins, takings and notes of the actor, and of another
    mine : (k : ℕ) → is_actor a (after k).mark.pinner ≡ set_at (λ i. is_actor a (fork_at w forks i).mark.pinner) e true k
    mine k = read_as (λ (x : Fork A). is_actor a x.mark.pinner) forks e pinned_fork k (no_fork w) e_in ∙ ap (λ b. cond (k == e) b (is_actor a (fork_at w forks k).mark.pinner)) self

    mine_taken : (k : ℕ) → (is_actor a (after k).mark.pinner && (after k).mark.taken) ≡ set_at (λ i. is_actor a (fork_at w forks i).mark.pinner && (fork_at w forks i).mark.taken) e taken k
    mine_taken k = read_as (λ (x : Fork A). is_actor a x.mark.pinner && x.mark.taken) forks e pinned_fork k (no_fork w) e_in ∙ ap (λ b. cond (k == e) (b && taken) (is_actor a (fork_at w forks k).mark.pinner && (fork_at w forks k).mark.taken)) self

    noted_same : (b k h : ℕ) → half_noted h (noted_by b (after k).mark) ≡ half_noted h (noted_by b (fork_at w forks k).mark)
    noted_same b k h = kept (λ (x : Fork A). half_noted h (noted_by b x.mark)) k (ap (half_noted h) (go (a == b) ∙ sym (ap (λ o. cond (is_actor b o) f.mark.noted None) lone)))
      where
        go : (t : Bool) → ◌≡◌ {A = Option Datum} (cond t None None) None
        go true = refl
        go false = refl

    theirs : (b k : ℕ) → b ≢ a → is_actor b (after k).mark.pinner ≡ is_actor b (fork_at w forks k).mark.pinner
    theirs b k n = kept (λ (x : Fork A). is_actor b x.mark.pinner) k (false_test a b (λ q. n (sym q)) ∙ sym (ap (is_actor b) lone))

    theirs_taken : (b k : ℕ) → b ≢ a → (is_actor b (after k).mark.pinner && (after k).mark.taken) ≡ (is_actor b (fork_at w forks k).mark.pinner && (fork_at w forks k).mark.taken)
    theirs_taken b k n = kept (λ (x : Fork A). is_actor b x.mark.pinner && x.mark.taken) k (ap (λ t. t && taken) (false_test a b (λ q. n (sym q))) ∙ sym (ap (λ o. is_actor b o && f.mark.taken) lone))

    planned : (b : ℕ) (z : Ready) → (actor_at actors b).ready ≡ Some z → (k : ℕ) → (b ≡ a) ⊎ (b ≢ a) → planned_by b (after k) ≡ planned_by b (fork_at w forks k)
    planned b z q k (inl r) = absurd (unready z (ap (λ i. (actor_at actors i).ready) (sym r) ∙ q))
    planned b z q k (inr n) = kept (planned_by b) k (ap (λ t. cond t (content_of f.prepared) empty_content) (false_test a b (λ r. n (sym r)) ∙ sym (ap (is_actor b) lone)))

    abbrev pinned_one : Core A
    pinned_one = core_from seats after replicas (actor_at (slice_set actors a record_of)) turn journal

    grip_is : (b : ℕ) → (b ≡ a) ⊎ (b ≢ a) → pinned_one.words.grip b ≡ (pinned old.words a e word taken evidence).grip b
    grip_is b (inl q) =
        let t : (b == a) ≡ true = (Decides-eqb b a).1 q in
        let z : actor_at (slice_set actors a record_of) b ≡ record_of = read_set actors a record_of b idle a_in ∙ ap (λ k. cond k record_of (actor_at actors b)) t in
        let g : grip_of a record_of after ≡ record (old.words.grip a) { pins = set_at (old.words.grip a).pins e true; taken = set_at (old.words.grip a).taken e taken; evidence = evidence }
        = λ j. record { vertex = (r_is j).vertex; pins = λ k. mine k j; taken = λ k. mine_taken k j; evidence = evidence; committed = (r_is j).committed; turn = (r_is j).turn } in
        rw (t) (ap (λ k. grip_of b k after) z ∙ (ap (λ k. grip_of k record_of after) q ∙ g))
    grip_is b (inr n) =
        let t : (b == a) ≡ false = false_test b a n in
        let z : actor_at (slice_set actors a record_of) b ≡ actor_at actors b = read_set actors a record_of b idle a_in ∙ ap (λ k. cond k record_of (actor_at actors b)) t in
        let g : grip_of b (actor_at actors b) after ≡ old.words.grip b
        = λ j. record (old.words.grip b) { pins = λ k. theirs b k n j; taken = λ k. theirs_taken b k n j } in
        rw (t) (ap (λ k. grip_of b k after) z ∙ g)

    -- the actor hasn't made its entry, so the fork carries what it did
    carried_is : (k : ℕ) → carried (actor_at (slice_set actors a record_of)) (after k) ≡ carried (actor_at actors) (fork_at w forks k)
    carried_is k =
        carried_like actors a record_of a_in (ap (λ (z : Actor). z.committed) r_is) (after k)
        ∙ kept (carried (actor_at actors)) k (held_carries (actor_at actors) pinned_fork a false refl fresh ∙ sym (lone_carries (actor_at actors) f lone))

    pub pin_shows : pinned_one ≡ record old { words = pinned old.words a e word taken evidence }
    pin_shows = λ j. record {
      words = record {
        vertex = old.words.vertex;
        fork = λ k. read_as (λ (x : Fork A). x.mark.word) forks e pinned_fork k (no_fork w) e_in j;
        turn = turn;
        grip = λ b. grip_is b (same_or_not b a) j;
        journal = journal;
      };
      content = λ k. content_of (carried_is k j);
      place = old.place;
      replica = old.replica;
      notes = λ b. (look_notes a r evidence count a_in r_is after b (same_or_not b a) ∙ notes_kept b) j;
    }
      where
        notes_kept : (b : ℕ) → notes_of b (actor_at actors b) after seats replicas ≡ old.notes b
        notes_kept b = λ j. record (old.notes b) {
          noted = λ k h. noted_same b k h j;
          prepared = prepared_like b (actor_at actors b).ready (actor_at actors b).vertex seats seats after (fork_at w forks) (λ u q. refl) (λ z q k. planned b z q k (same_or_not b a)) j;
        }

-- a fork that can be had isn't pinned
pub free_of : (w : ForkWord) (me : Side) (got : Got) → got_of w me ≡ Some got → w.pinned ≡ false
free_of w me got k = go (got_row (pin_of w me) (take_of w me) got k)
  where
    go : ((pin_of w me ≡ Some got.word) × (got.taken ≡ false)) ⊎ ((take_of w me ≡ Some got.word) × (got.taken ≡ true)) → w.pinned ≡ false
    go (inl t) = (pin_row w me got.word t.0).free
    go (inr t) = (take_row w me got.word t.0).free

pub not_false : (b : Bool) → Rattle.std.specs.Prelude.not b ≡ false → b ≡ true
not_false true n = refl
not_false false n = absurd (true≢false n)

pub or_false : (b : Bool) → (b || false) ≡ b
or_false true = refl
or_false false = refl

-- a word that isn't found to be another than the actor's names the actor
pub named_of : (o : Option ℕ) (a : ℕ) → false ≡ not (option_eq ◌==◌ o (Some a)) → o ≡ Some a
named_of None a q = absurd (true≢false (sym q))
named_of (Some b) a q = ap Some ((Decides-eqb b a).0 (not_false (b == a) (sym q)))
