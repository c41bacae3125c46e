-- Entries that change in a board, and what actors hold of the others.
use Rattle.std.proofs.Common.{ℕ, ◌<◌, ◌≡◌, ◌≢◌, ◌⊎◌, ◌==◌, ◌&&◌, length, List, slice_set, true, false, cond, Option, None, inl, inr, refl, sym, ap, ◌∙◌}
use Rattle.std.proofs.lemmas.Bool.Decides.{Decides-eqb}
use Rattle.pg_law.specs.declared.values.JournalEntry.{JournalEntry}
use Rattle.pg_meals.specs.declared.fork.Fork.{Fork}
use Rattle.pg_meals.specs.declared.seat.Seat.{Seat}
use Rattle.pg_meals.specs.declared.seat.Replica.{Replica}
use Rattle.pg_meals.specs.declared.actor.Actor.{Actor}
use Rattle.pg_meals.specs.Families.{set_at}
use Rattle.pg_meals.specs.Core.{Core, empty_content}
use Rattle.pg_meals.specs.Entries.{is_actor, no_fork, idle, fork_at, actor_at}
use Rattle.pg_meals.specs.Shown.{content_of, half_noted, noted_by, planned_by, grip_of, notes_of, core_from}
use Rattle.pg_meals.proofs.At.{same_or_not, false_test}
use Rattle.pg_meals.proofs.ListReads.{read_like}
use Rattle.pg_meals.proofs.Marking.{prepared_like}
use Rattle.pg_meals.proofs.Riding.{carried_like}

-- a family that is x at a, and as before elsewhere
pub as_set : {X : Type 0} (f h : ℕ → X) (a : ℕ) (x : X) → h a ≡ x → ((b : ℕ) → b ≢ a → h b ≡ f b) → (b : ℕ) → h b ≡ set_at f a x b
as_set f h a x here there b = go (same_or_not b a)
  where
    go : (b ≡ a) ⊎ (b ≢ a) → h b ≡ cond (b == a) x (f b)
    go (inl q) =
        let t : (b == a) ≡ true = (Decides-eqb b a).1 q in
        rw (t) (ap h q ∙ here)
    go (inr n) = rw (false_test b a n) (there b n)

-- what an actor has yet to write isn't shown
module _ {A : Type 0} (seats : ℕ → Seat A) (forks : ℕ → Fork A) (replicas : ℕ → List Replica) (actors : List Actor) (turn : Option ℕ) (journal : List JournalEntry) (a left : ℕ) (r : Actor) (a_in : a < length actors) (is : r ≡ actor_at actors a) where
  abbrev y : Actor
  y = record r { stale = left }

  abbrev old : Core A
  old = core_from seats forks replicas (actor_at actors) turn journal

  pub left_shows : core_from seats forks replicas (actor_at (slice_set actors a y)) turn journal ≡ old
  left_shows = λ j. record old {
    words = record old.words { grip = λ b. read_like (λ z. grip_of b z forks) actors a y b idle a_in (ap (λ z. grip_of b z forks) is) j };
    content = λ e. content_of (carried_like actors a y a_in (ap (λ (z : Actor). z.committed) is) (forks e) j);
    notes = λ b. read_like (λ z. notes_of b z forks seats replicas) actors a y b idle a_in (ap (λ z. notes_of b z forks seats replicas) is) j;
  }

-- one fork is written
module _ {A : Type 0} (w : ℕ) (forks : List (Fork A)) (e : ℕ) (x f : Fork A) (e_in : e < length forks) (f_is : f ≡ fork_at w forks e) where
  abbrev pub after : ℕ → Fork A
  after = fork_at w (slice_set forks e x)

  -- what the new fork has as the old one had is as before
  pub kept : {Y : Type 0} (part : Fork A → Y) (k : ℕ) → part x ≡ part f → part (after k) ≡ part (fork_at w forks k)
  kept part k same = read_like part forks e x k (no_fork w) e_in (same ∙ ap part f_is)

  -- an actor that hasn't pinned it, before and after, holds and notes what it did
  module _ (b : ℕ) (was : is_actor b f.mark.pinner ≡ false) (is : is_actor b x.mark.pinner ≡ false) where
    pub other_grip : (r : Actor) → grip_of b r after ≡ grip_of b r (fork_at w forks)
    other_grip r = λ j. record {
      vertex = r.vertex;
      pins = λ k. kept (λ (y : Fork A). is_actor b y.mark.pinner) k (is ∙ sym was) j;
      taken = λ k. kept (λ (y : Fork A). is_actor b y.mark.pinner && y.mark.taken) k (ap (λ t. t && x.mark.taken) is ∙ sym (ap (λ t. t && f.mark.taken) was)) j;
      evidence = r.evidence;
      committed = r.committed;
      turn = r.turn;
    }

    pub other_notes : (r : Actor) (seats : ℕ → Seat A) (replicas : ℕ → List Replica) → notes_of b r after seats replicas ≡ notes_of b r (fork_at w forks) seats replicas
    other_notes r seats replicas = λ j. record (notes_of b r (fork_at w forks) seats replicas) {
      noted = λ k h. kept (λ (y : Fork A). half_noted h (noted_by b y.mark)) k (ap (λ t. half_noted h (cond t x.mark.noted None)) is ∙ sym (ap (λ t. half_noted h (cond t f.mark.noted None)) was)) j;
      prepared = prepared_like b r.ready r.vertex seats seats after (fork_at w forks) (λ u q. refl)
          (λ z q k. kept (planned_by b) k (ap (λ t. cond t (content_of x.prepared) empty_content) is ∙ sym (ap (λ t. cond t (content_of f.prepared) empty_content) was))) j;
    }
