-- A board after a fork went back shows the core after it.
use Rattle.std.proofs.Common.{ℕ, ◌<◌, ◌≡◌, ◌≢◌, ◌&&◌, length, List, slice_set, false, cond, Option, Some, None, refl, sym, ap, ◌∙◌}
use Rattle.std.proofs.lemmas.List.{get_or-set_same, get_or-set_other}
use Rattle.pg_law.specs.declared.values.JournalEntry.{JournalEntry}
use Rattle.pg_forks.specs.declared.fork_word.ForkWord.{ForkWord}
use Rattle.pg_meals.specs.declared.fork.Carried.{Carried}
use Rattle.pg_meals.specs.declared.fork.Fork.{Fork}
use Rattle.pg_meals.specs.declared.seat.Seat.{Seat}
use Rattle.pg_meals.specs.declared.seat.Replica.{Replica}
use Rattle.pg_meals.specs.declared.actor.Actor.{Actor}
use Rattle.pg_meals.specs.Families.{set_at}
use Rattle.pg_meals.specs.Words.{Grip, backed}
use Rattle.pg_meals.specs.Core.{Core, Notes}
use Rattle.pg_meals.specs.Entries.{is_actor, no_fork, idle, fork_at, actor_at}
use Rattle.pg_meals.specs.Shown.{carried, content_of, half_noted, noted_by, written_of, grip_of, notes_of, core_from}
use Rattle.pg_meals.proofs.At.{false_test}
use Rattle.pg_meals.proofs.ListReads.{read_as}
use Rattle.pg_meals.proofs.Riding.{held_carries, carried_like}
use Rattle.pg_meals.proofs.Showing.{as_set, kept, other_grip, other_notes}

module _ {A : Type 0} (w : ℕ) (seats : ℕ → Seat A) (forks : List (Fork A)) (replicas : ℕ → List Replica) (actors : List Actor) (turn : Option ℕ) (journal : List JournalEntry) (a e : ℕ) (r : Actor) (f : Fork A) (word : ForkWord) (content spare : Carried A) (count : ℕ)
    (a_in : a < length actors) (e_in : e < length forks) (r_is : r ≡ actor_at actors a) (f_is : f ≡ fork_at w forks e) (mine : f.mark.pinner ≡ Some a) (content_is : content ≡ cond r.committed f.prepared f.content) where
  abbrev x : Fork A
  x = record { mark = record { word = word; pinner = None; taken = false; noted = None }; content = content; prepared = spare }

  abbrev y : Actor
  y = record r { ready = None; pinned = count }

  abbrev old : Core A
  old = core_from seats (fork_at w forks) replicas (actor_at actors) turn journal

  abbrev after : ℕ → Fork A
  after = fork_at w (slice_set forks e x)

  abbrev acting : ℕ → Actor
  acting = actor_at (slice_set actors a y)

  abbrev new : Core A
  new = core_from seats after replicas acting turn journal

  abbrev grip : Grip
  grip = record (old.words.grip a) { pins = set_at (old.words.grip a).pins e false; taken = set_at (old.words.grip a).taken e false }

  abbrev notes : Notes A
  notes = record (old.notes a) { noted = set_at (old.notes a).noted e (λ _. None); prepared = None }

  not_theirs : (b : ℕ) → b ≢ a → is_actor b f.mark.pinner ≡ false
  not_theirs b n = ap (is_actor b) mine ∙ false_test a b (λ q. n (sym q))

  grip_is : (b : ℕ) → new.words.grip b ≡ set_at old.words.grip a grip b
  grip_is = as_set old.words.grip new.words.grip a grip
      (ap (λ z. grip_of a z after) (get_or-set_same actors a y idle a_in) ∙ (λ j. record {
        vertex = (r_is j).vertex;
        pins = λ k. read_as (λ (z : Fork A). is_actor a z.mark.pinner) forks e x k (no_fork w) e_in j;
        taken = λ k. read_as (λ (z : Fork A). is_actor a z.mark.pinner && z.mark.taken) forks e x k (no_fork w) e_in j;
        evidence = (r_is j).evidence;
        committed = (r_is j).committed;
        turn = (r_is j).turn;
      }))
      (λ b n. ap (λ z. grip_of b z after) (get_or-set_other actors a b y idle n) ∙ other_grip w forks e x f e_in f_is b (not_theirs b n) refl (actor_at actors b))

  notes_are : (b : ℕ) → new.notes b ≡ set_at old.notes a notes b
  notes_are = as_set old.notes new.notes a notes
      (ap (λ z. notes_of a z after seats replicas) (get_or-set_same actors a y idle a_in) ∙ (λ j. record {
        noted = λ k h. read_as {Y = ℕ → Option ℕ} (λ z i. half_noted i (noted_by a z.mark)) forks e x k (no_fork w) e_in j h;
        prepared = None;
        written = written_of (r_is j).vertex (r_is j).committed replicas;
        before = (r_is j).before;
      }))
      (λ b n. ap (λ z. notes_of b z after seats replicas) (get_or-set_other actors a b y idle n) ∙ other_notes w forks e x f e_in f_is b (not_theirs b n) refl (actor_at actors b) seats replicas)

  -- what rides on the fork is what it carried
  carried_is : (k : ℕ) → carried acting (after k) ≡ carried (actor_at actors) (fork_at w forks k)
  carried_is k =
      carried_like actors a y a_in (ap (λ (z : Actor). z.committed) r_is) (after k)
      ∙ kept w forks e x f e_in f_is (carried (actor_at actors)) k (content_is ∙ sym (held_carries (actor_at actors) f a r.committed mine (sym (ap (λ (z : Actor). z.committed) r_is))))

  pub back_shows : new ≡ record old { words = backed old.words a e word; notes = set_at old.notes a notes }
  back_shows = λ j. record {
    words = record {
      vertex = old.words.vertex;
      fork = λ k. read_as (λ (z : Fork A). z.mark.word) forks e x k (no_fork w) e_in j;
      turn = turn;
      grip = λ b. grip_is b j;
      journal = journal;
    };
    content = λ k. content_of (carried_is k j);
    place = old.place;
    replica = old.replica;
    notes = λ b. notes_are b j;
  }
