-- A board after an entry shows the core after it.
use Rattle.std.proofs.Common.{ℕ, ◌<◌, ◌≡◌, ◌≢◌, ◌⊎◌, ◌==◌, ◌&&◌, ◌++◌, not, length, List, [], ◌∷◌, slice_set, Bool, true, false, cond, Option, Some, None, inl, inr, refl, sym, ap, ◌∙◌}
use Rattle.std.specs.Prelude.{ltb, map, Vec}
use Rattle.std.specs.declared.alloc.Global.{Global}
use Rattle.std.proofs.lemmas.Bool.Decides.{Decides-eqb}
use Rattle.std.proofs.lemmas.List.{get_or-set_same, get_or-set_other}
use Rattle.pg_law.specs.declared.values.Datum.{Datum}
use Rattle.pg_law.specs.declared.values.JournalEntry.{JournalEntry}
use Rattle.pg_delta.specs.declared.cell.CacheCell.{CacheCell}
use Rattle.pg_meals.specs.declared.fork.Fork.{Fork}
use Rattle.pg_meals.specs.declared.seat.Seat.{Seat}
use Rattle.pg_meals.specs.declared.seat.Replica.{Replica}
use Rattle.pg_meals.specs.declared.actor.Ready.{Ready}
use Rattle.pg_meals.specs.declared.actor.Actor.{Actor}
use Rattle.pg_meals.specs.Families.{set_at}
use Rattle.pg_meals.specs.Words.{entered}
use Rattle.pg_meals.specs.Core.{Core, Prepared, Notes}
use Rattle.pg_meals.specs.Entries.{no_seat, idle, fork_at, seat_at, actor_at, replicas_at, replica_in, made_stale}
use Rattle.pg_meals.specs.Shown.{place_of, planned_by, prepared_of, written_of, half_in, grip_of, notes_of, core_from}
use Rattle.pg_meals.proofs.At.{same_or_not, false_test}
use Rattle.pg_meals.proofs.ListReads.{read_as, read_like}
use Rattle.pg_meals.proofs.Marking.{prepared_like}
use Rattle.pg_meals.proofs.Riding.{carried_entered}
use Rattle.pg_meals.proofs.Showing.{as_set}
use Rattle.pg_meals.proofs.Copied.{rows_set}
use Rattle.pg_meals.proofs.Staled.{stale_datum, all_stale}

module _ {A : Type 0} (w : ℕ) (d : Datum) (seats : List (Seat A)) (forks : List (Fork A)) (rows : List (Vec Replica Global)) (actors : List Actor) (turn : Option ℕ) (journal : List JournalEntry)
    (a v : ℕ) (r : Actor) (q : Ready) (seat : Seat A) (cell spare : CacheCell A) (row : Vec Replica Global) (last stale : ℕ)
    (a_in : a < length actors) (v_in : v < length seats) (row_in : v < length rows) (r_is : r ≡ actor_at actors a) (seat_is : seat ≡ seat_at d seats v) (cell_is : cell ≡ seat.prepared)
    (row_is : row.items ≡ map made_stale (replicas_at rows v)) (busy : (actor_at actors a).vertex ≡ Some v) (ready : (actor_at actors a).ready ≡ Some q) (alone : (b : ℕ) → (actor_at actors b).vertex ≡ Some v → b ≡ a) where
  abbrev x : Seat A
  x = record { holder = seat.holder; datum = q.datum; message = q.again; cell = cell; prepared = spare; last = last }

  abbrev y : Actor
  y = record r { committed = true; ready = None; before = seat.datum; stale = stale }

  abbrev was : ℕ → Fork A
  was = fork_at w forks

  abbrev old : Core A
  old = core_from (seat_at d seats) was (replicas_at rows) (actor_at actors) turn journal

  abbrev new : Core A
  new = core_from (seat_at d (slice_set seats v x)) was (replicas_at (slice_set rows v row)) (actor_at (slice_set actors a y)) turn (journal ++ record { vertex = v; datum = q.datum } ∷ [])

  abbrev pub planned : Prepared A
  planned = record { datum = q.datum; again = q.again; cell = (seat_at d seats v).prepared; content = λ e. planned_by a (was e) }

  -- that was prepared
  pub planned_is : (old.notes a).prepared ≡ Some planned
  planned_is = λ j. prepared_of a (ready j) (busy j) (seat_at d seats) was

  grip_is : (b : ℕ) → new.words.grip b ≡ (entered old.words a (record { vertex = v; datum = q.datum })).grip b
  grip_is = as_set old.words.grip new.words.grip a (record (old.words.grip a) { committed = true })
      (ap (λ z. grip_of a z was) (get_or-set_same actors a y idle a_in) ∙ (λ j. record (grip_of a (r_is j) was) { committed = true }))
      (λ b n. ap (λ z. grip_of b z was) (get_or-set_other actors a b y idle n))

  row_same : (u k : ℕ) → (u ≡ v) ⊎ (u ≢ v) → (replica_in (replicas_at (slice_set rows v row) u) k).datum ≡ (replica_in (replicas_at rows u) k).datum
  row_same u k (inl e) =
      let t : (u == v) ≡ true = (Decides-eqb u v).1 e in
      ap (λ xs. (replica_in xs k).datum) (rows_set rows v row u row_in ∙ (ap (λ b. cond b row.items (replicas_at rows u)) t ∙ row_is)) ∙ (stale_datum (replicas_at rows v) k ∙ ap (λ n. (replica_in (replicas_at rows n) k).datum) (sym e))
  row_same u k (inr n) = ap (λ xs. (replica_in xs k).datum) (rows_set rows v row u row_in ∙ ap (λ b. cond b row.items (replicas_at rows u)) (false_test u v n))

  unwritten : (k h : ℕ) → written_of (actor_at actors a).vertex true (replicas_at (slice_set rows v row)) k h ≡ false
  unwritten k h =
      let t : (v == v) ≡ true = (Decides-eqb v v).1 refl in
      let stale : (replica_in (replicas_at (slice_set rows v row) v) k).stale ≡ true
      = ap (λ xs. (replica_in xs k).stale) (rows_set rows v row v row_in ∙ (ap (λ b. cond b row.items (replicas_at rows v)) t ∙ row_is)) ∙ all_stale (replicas_at rows v) k in
      ap (λ o. written_of o true (replicas_at (slice_set rows v row)) k h) busy ∙ ap (λ b. not b && ltb h 2) stale

  other_written : (o : Option ℕ) (c : Bool) (k h : ℕ) → (o ≡ Some v → ⊥) → written_of o c (replicas_at (slice_set rows v row)) k h ≡ written_of o c (replicas_at rows) k h
  other_written None c k h n = refl
  other_written (Some u) c k h n = ap (λ xs. c && not (replica_in xs k).stale && ltb h 2) (rows_set rows v row u row_in ∙ ap (λ b. cond b row.items (replicas_at rows u)) (false_test u v (λ e. n (ap Some e))))

  abbrev noted : Notes A
  noted = record (old.notes a) { prepared = None; written = λ _ _. false; before = (seat_at d seats v).datum }

  notes_are : (b : ℕ) → new.notes b ≡ set_at old.notes a noted b
  notes_are = as_set old.notes new.notes a noted
      (ap (λ z. notes_of a z was (seat_at d (slice_set seats v x)) (replicas_at (slice_set rows v row))) (get_or-set_same actors a y idle a_in) ∙ (λ j. record {
        noted = (old.notes a).noted;
        prepared = None;
        written = λ k h. (ap (λ (z : Actor). written_of z.vertex true (replicas_at (slice_set rows v row)) k h) r_is ∙ unwritten k h) j;
        before = (seat_is j).datum;
      }))
      (λ b n. ap (λ z. notes_of b z was (seat_at d (slice_set seats v x)) (replicas_at (slice_set rows v row))) (get_or-set_other actors a b y idle n) ∙ (λ j. record {
        noted = (old.notes b).noted;
        prepared = prepared_like b (actor_at actors b).ready (actor_at actors b).vertex (seat_at d (slice_set seats v x)) (seat_at d seats) was was
            (λ u o. ap (λ (z : Seat A). z.prepared) (get_or-set_other seats v u x (no_seat d) (λ e. n (alone b (o ∙ ap Some e)))))
            (λ z o e. refl) j;
        written = λ k h. other_written (actor_at actors b).vertex (actor_at actors b).committed k h (λ o. n (alone b o)) j;
        before = (actor_at actors b).before;
      }))

  pub enter_shows : new ≡ record {
    words = entered old.words a (record { vertex = v; datum = q.datum });
    content = λ e. cond ((old.words.grip a).pins e) (planned.content e) (old.content e);
    place = set_at old.place v (record { datum = q.datum; message = q.again; cell = planned.cell });
    replica = old.replica;
    notes = set_at old.notes a noted;
  }
  enter_shows = λ j. record {
    words = record {
      vertex = λ u. read_like (λ (z : Seat A). z.holder) seats v x u (no_seat d) v_in (ap (λ (z : Seat A). z.holder) seat_is) j;
      fork = old.words.fork;
      turn = turn;
      grip = λ b. grip_is b j;
      journal = journal ++ record { vertex = v; datum = q.datum } ∷ [];
    };
    content = λ e. carried_entered actors a y a_in refl (was e) j;
    place = λ u. (read_as place_of seats v x u (no_seat d) v_in ∙ ap (λ k. set_at old.place v (record { datum = q.datum; message = q.again; cell = k }) u) (cell_is ∙ ap (λ (z : Seat A). z.prepared) seat_is)) j;
    replica = λ u k h. ap (half_in h) (row_same u k (same_or_not u v)) j;
    notes = λ b. notes_are b j;
  }
