-- A board that keeps something for an entry shows the core in which it is prepared.
use Rattle.std.proofs.Common.{ℕ, ◌<◌, ◌≡◌, ◌≢◌, ◌⊎◌, ◌==◌, ◌&&◌, length, List, slice_set, Bool, true, false, cond, Option, Some, None, inl, inr, refl, sym, ap, ◌∙◌}
use Rattle.std.specs.Prelude.{Vec}
use Rattle.std.specs.declared.alloc.Global.{Global}
use Rattle.std.proofs.lemmas.Bool.Decides.{Decides-eqb}
use Rattle.std.proofs.lemmas.List.{get_or-set_same, get_or-set_other}
use Rattle.pg_law.specs.declared.values.Datum.{Datum}
use Rattle.pg_law.specs.declared.values.JournalEntry.{JournalEntry}
use Rattle.pg_delta.specs.declared.cell.CacheCell.{CacheCell}
use Rattle.pg_meals.specs.declared.fork.Carried.{Carried}
use Rattle.pg_meals.specs.declared.fork.Fork.{Fork}
use Rattle.pg_meals.specs.declared.seat.Seat.{Seat}
use Rattle.pg_meals.specs.declared.seat.Replica.{Replica}
use Rattle.pg_meals.specs.declared.actor.Ready.{Ready}
use Rattle.pg_meals.specs.declared.actor.Actor.{Actor}
use Rattle.pg_meals.specs.Families.{set_at}
use Rattle.pg_meals.specs.Core.{Core, Prepared, Notes, empty_content}
use Rattle.pg_meals.specs.Once.{is_among}
use Rattle.pg_meals.specs.Entries.{is_actor, no_fork, no_seat, idle, fork_at, seat_at, actor_at, replicas_at}
use Rattle.pg_meals.specs.Shown.{carried, content_of, place_of, half_noted, noted_by, planned_by, prepared_of, written_of, grip_of, notes_of, core_from}
use Rattle.pg_meals.specs.Readied.{with_plan, ArePlanned}
use Rattle.pg_meals.proofs.At.{same_or_not, false_test}
use Rattle.pg_meals.proofs.Holding.{is_actor_of}
use Rattle.pg_meals.proofs.ListReads.{read_like}
use Rattle.pg_meals.proofs.Marking.{prepared_like}
use Rattle.pg_meals.proofs.Riding.{held_carries, carried_like}
use Rattle.pg_meals.proofs.Showing.{as_set}

module _ {A : Type 0} where
  same_mark : (b : Bool) (x : Fork A) (plan : Carried A) → (cond b (with_plan plan x) x).mark ≡ x.mark
  same_mark true x plan = refl
  same_mark false x plan = refl

  -- a fork carries what it did where its pinner, which planned, hasn't made its entry
  same_load : (actors : ℕ → Actor) (a : ℕ) → (actors a).committed ≡ false → (x : Fork A) (plan : Carried A) (b : Bool) → is_actor a x.mark.pinner ≡ b → carried actors (cond b (with_plan plan x) x) ≡ carried actors x
  same_load actors a fresh x plan true t =
      let mine = is_actor_of a x.mark.pinner t in
      held_carries actors (with_plan plan x) a false mine fresh ∙ sym (held_carries actors x a false mine fresh)
  same_load actors a fresh x plan false t = refl

  -- what the actor planned
  own_plan : (a : ℕ) (x : Fork A) (plan : Carried A) (b : Bool) → is_actor a x.mark.pinner ≡ b → planned_by a (cond b (with_plan plan x) x) ≡ cond b (content_of plan) empty_content
  own_plan a x plan true t = ap (λ k. cond k (content_of plan) empty_content) t
  own_plan a x plan false t = ap (λ k. cond k (content_of x.prepared) empty_content) t

  -- what another actor planned isn't touched
  other_plan : (a b : ℕ) → b ≢ a → (x : Fork A) (plan : Carried A) (p : Option ℕ) → x.mark.pinner ≡ p → planned_by b (cond (is_actor a p) (with_plan plan x) x) ≡ planned_by b x
  other_plan a b n x plan None is = refl
  other_plan a b n x plan (Some o) is = go (same_or_not o a)
    where
      go : (o ≡ a) ⊎ (o ≢ a) → planned_by b (cond (o == a) (with_plan plan x) x) ≡ planned_by b x
      go (inl q) =
          let t : (o == a) ≡ true = (Decides-eqb o a).1 q in
          let s : is_actor b x.mark.pinner ≡ false = ap (is_actor b) is ∙ false_test o b (λ r. n (sym r ∙ q)) in
          rw (t) (ap (λ k. cond k (content_of plan) empty_content) s ∙ sym (ap (λ k. cond k (content_of x.prepared) empty_content) s))
      go (inr d) = rw (false_test o a d) refl

module _ {A : Type 0} (w : ℕ) (d : Datum) (seats : List (Seat A)) (forks after : List (Fork A)) (rows : List (Vec Replica Global)) (actors : List Actor) (turn : Option ℕ) (journal : List JournalEntry)
    (a v : ℕ) (es : List ℕ) (r : Actor) (q : Ready) (seat : Seat A) (cell : CacheCell A) (plan : ℕ → Carried A)
    (a_in : a < length actors) (v_in : v < length seats) (r_is : r ≡ actor_at actors a) (seat_is : seat ≡ seat_at d seats v)
    (planned : ArePlanned forks plan es after) (among : (e : ℕ) → is_among e es ≡ is_actor a (fork_at w forks e).mark.pinner)
    (busy : (actor_at actors a).vertex ≡ Some v) (fresh : (actor_at actors a).committed ≡ false) (alone : (b : ℕ) → (actor_at actors b).vertex ≡ Some v → b ≡ a) where
  abbrev x : Seat A
  x = record seat { prepared = cell }

  abbrev y : Actor
  y = record r { ready = Some q }

  abbrev was : ℕ → Fork A
  was = fork_at w forks

  abbrev now : ℕ → Fork A
  now = fork_at w after

  abbrev old : Core A
  old = core_from (seat_at d seats) was (replicas_at rows) (actor_at actors) turn journal

  abbrev new : Core A
  new = core_from (seat_at d (slice_set seats v x)) now (replicas_at rows) (actor_at (slice_set actors a y)) turn journal

  -- what is prepared then
  abbrev pub made : Prepared A
  made = record { datum = q.datum; again = q.again; cell = cell; content = λ e. cond (is_actor a (was e).mark.pinner) (content_of (plan e)) empty_content }

  fork_is : (e : ℕ) → now e ≡ cond (is_actor a (was e).mark.pinner) (with_plan (plan e) (was e)) (was e)
  fork_is e = planned e (no_fork w) ∙ ap (λ b. cond b (with_plan (plan e) (was e)) (was e)) (among e)

  mark_is : (e : ℕ) → (now e).mark ≡ (was e).mark
  mark_is e = ap (λ (z : Fork A). z.mark) (fork_is e) ∙ same_mark (is_actor a (was e).mark.pinner) (was e) (plan e)

  carried_is : (e : ℕ) → carried (actor_at (slice_set actors a y)) (now e) ≡ carried (actor_at actors) (was e)
  carried_is e =
      carried_like actors a y a_in (ap (λ (z : Actor). z.committed) r_is) (now e)
      ∙ (ap (carried (actor_at actors)) (fork_is e) ∙ same_load (actor_at actors) a fresh (was e) (plan e) (is_actor a (was e).mark.pinner) refl)

  grip_like : (b : ℕ) (z : Actor) → grip_of b z now ≡ grip_of b z was
  grip_like b z = λ j. record {
    vertex = z.vertex;
    pins = λ e. is_actor b (mark_is e j).pinner;
    taken = λ e. is_actor b (mark_is e j).pinner && (mark_is e j).taken;
    evidence = z.evidence;
    committed = z.committed;
    turn = z.turn;
  }

  grip_is : (b : ℕ) → new.words.grip b ≡ old.words.grip b
  grip_is b = read_like (λ z. grip_of b z now) actors a y b idle a_in (λ j. grip_of b (r_is j) now) ∙ grip_like b (actor_at actors b)

  plan_is : (e : ℕ) → planned_by a (now e) ≡ made.content e
  plan_is e = ap (planned_by a) (fork_is e) ∙ own_plan a (was e) (plan e) (is_actor a (was e).mark.pinner) refl

  cell_is : (seat_at d (slice_set seats v x) v).prepared ≡ cell
  cell_is = ap (λ (z : Seat A). z.prepared) (get_or-set_same seats v x (no_seat d) v_in)

  made_is : prepared_of a (Some q) r.vertex (seat_at d (slice_set seats v x)) now ≡ Some made
  made_is =
      ap (λ o. prepared_of a (Some q) o (seat_at d (slice_set seats v x)) now) (ap (λ (z : Actor). z.vertex) r_is ∙ busy)
      ∙ (λ j. Some (record { datum = q.datum; again = q.again; cell = cell_is j; content = λ e. plan_is e j }))

  abbrev noted : Notes A
  noted = record (old.notes a) { prepared = Some made }

  notes_are : (b : ℕ) → new.notes b ≡ set_at old.notes a noted b
  notes_are = as_set old.notes new.notes a noted
      (ap (λ z. notes_of a z now (seat_at d (slice_set seats v x)) (replicas_at rows)) (get_or-set_same actors a y idle a_in) ∙ (λ j. record {
        noted = λ e h. half_noted h (noted_by a (mark_is e j));
        prepared = made_is j;
        written = written_of (r_is j).vertex (r_is j).committed (replicas_at rows);
        before = (r_is j).before;
      }))
      (λ b n. ap (λ z. notes_of b z now (seat_at d (slice_set seats v x)) (replicas_at rows)) (get_or-set_other actors a b y idle n) ∙ (λ j. record {
        noted = λ e h. half_noted h (noted_by b (mark_is e j));
        prepared = prepared_like b (actor_at actors b).ready (actor_at actors b).vertex (seat_at d (slice_set seats v x)) (seat_at d seats) now was
            (λ u o. ap (λ (z : Seat A). z.prepared) (get_or-set_other seats v u x (no_seat d) (λ e. n (alone b (o ∙ ap Some e)))))
            (λ z o e. ap (planned_by b) (fork_is e) ∙ other_plan a b n (was e) (plan e) (was e).mark.pinner refl) j;
        written = written_of (actor_at actors b).vertex (actor_at actors b).committed (replicas_at rows);
        before = (actor_at actors b).before;
      }))

  pub ready_shows : new ≡ record old { notes = set_at old.notes a noted }
  ready_shows = λ j. record {
    words = record {
      vertex = λ u. read_like (λ (z : Seat A). z.holder) seats v x u (no_seat d) v_in (ap (λ (z : Seat A). z.holder) seat_is) j;
      fork = λ e. (mark_is e j).word;
      turn = turn;
      grip = λ b. grip_is b j;
      journal = journal;
    };
    content = λ e. content_of (carried_is e j);
    place = λ u. read_like place_of seats v x u (no_seat d) v_in (ap place_of seat_is) j;
    replica = old.replica;
    notes = λ b. notes_are b j;
  }
