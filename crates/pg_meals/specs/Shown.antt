-- The core that a board shows.
use Rattle.std.specs.Prelude.{ℕ, ◌&&◌, not, ltb, List, Bool, false, slice_index_or, cond, Option, Some, None}
use Rattle.pg_graph.specs.Multigraph.{Multigraph}
use Rattle.pg_law.specs.declared.values.Datum.{Datum}
use Rattle.pg_law.specs.declared.values.JournalEntry.{JournalEntry}
use Rattle.pg_meals.specs.declared.fork.Carried.{Carried}
use Rattle.pg_meals.specs.declared.fork.Mark.{Mark}
use Rattle.pg_meals.specs.declared.fork.Fork.{Fork}
use Rattle.pg_meals.specs.declared.seat.Seat.{Seat}
use Rattle.pg_meals.specs.declared.seat.Replica.{Replica}
use Rattle.pg_meals.specs.declared.actor.Ready.{Ready}
use Rattle.pg_meals.specs.declared.actor.Actor.{Actor}
use Rattle.pg_meals.specs.declared.board.Board.{Board}
use Rattle.pg_meals.specs.Shape.{Shape}
use Rattle.pg_meals.specs.Words.{Grip}
use Rattle.pg_meals.specs.Core.{Core, Content, Place, Prepared, Notes, empty_content, half_of}
use Rattle.pg_meals.specs.Listed.{Cut, shape_of}
use Rattle.pg_meals.specs.Once.{is_among}
use Rattle.pg_meals.specs.Entries.{at_side, is_actor, fork_at, seat_at, actor_at, replicas_at, replica_in, homes}

-- the actor that pinned a fork has made its entry
abbrev pub has_entered : (ℕ → Actor) → Option ℕ → Bool
has_entered actors None = false
has_entered actors (Some a) = (actors a).committed

-- what a fork carries: its content, or once its pinner has made its entry what was prepared for it
abbrev pub carried : {A : Type 0} → (ℕ → Actor) → Fork A → Carried A
carried actors x = cond (has_entered actors x.mark.pinner) x.prepared x.content

abbrev pub carried_on : {A : Type 0} → Board A → ℕ → Carried A
carried_on b e = carried (actor_at b.actors.items) (fork_at 0 b.forks.items e)

abbrev pub content_of : {A : Type 0} → Carried A → Content A
content_of x = record {
  word = x.word;
  message = λ s. (at_side s x).message;
  delta = λ s. (at_side s x).delta;
}

abbrev pub place_of : {A : Type 0} → Seat A → Place A
place_of x = record { datum = x.datum; message = x.message; cell = x.cell }

-- a half of a noted datum
abbrev pub half_noted : ℕ → Option Datum → Option ℕ
half_noted h None = None
half_noted h (Some d) = cond (ltb h 2) (Some (half_of h d)) None

-- what the actor noted over a fork, which it has pinned
abbrev pub noted_by : ℕ → Mark → Option Datum
noted_by a mark = cond (is_actor a mark.pinner) mark.noted None

-- what the actor prepared for a fork, which it has pinned
abbrev pub planned_by : {A : Type 0} → ℕ → Fork A → Content A
planned_by a x = cond (is_actor a x.mark.pinner) (content_of x.prepared) empty_content

abbrev pub grip_of : {A : Type 0} → ℕ → Actor → (ℕ → Fork A) → Grip
grip_of a x forks = record {
  vertex = x.vertex;
  pins = λ e. is_actor a (forks e).mark.pinner;
  taken = λ e. is_actor a (forks e).mark.pinner && (forks e).mark.taken;
  evidence = x.evidence;
  committed = x.committed;
  turn = x.turn;
}

-- what the actor prepared for its vertex, if it has one
abbrev pub prepared_of : {A : Type 0}
    → ℕ → Option Ready → Option ℕ → (ℕ → Seat A) → (ℕ → Fork A) → Option (Prepared A)
prepared_of a None v seats forks = None
prepared_of a (Some x) None seats forks = None
prepared_of a (Some x) (Some v) seats forks = Some (record {
  datum = x.datum;
  again = x.again;
  cell = (seats v).prepared;
  content = λ e. planned_by a (forks e);
})

-- an actor that has committed has written both halves of what is no longer stale
abbrev pub written_of : Option ℕ → Bool → (ℕ → List Replica) → ℕ → ℕ → Bool
written_of None committed replicas k h = false
written_of (Some v) committed replicas k h =
    committed && not (replica_in (replicas v) k).stale && ltb h 2

abbrev pub notes_of : {A : Type 0}
    → ℕ → Actor → (ℕ → Fork A) → (ℕ → Seat A) → (ℕ → List Replica) → Notes A
notes_of a x forks seats replicas = record {
  noted = λ e h. half_noted h (noted_by a (forks e).mark);
  prepared = prepared_of a x.ready x.vertex seats forks;
  written = written_of x.vertex x.committed replicas;
  before = x.before;
}

-- a half of a replica, which has no more than two
abbrev pub half_in : ℕ → Datum → ℕ
half_in h d = cond (ltb h 2) (half_of h d) 0

-- the core of families of entries
abbrev pub core_from : {A : Type 0} → (ℕ → Seat A) → (ℕ → Fork A) → (ℕ → List Replica)
    → (ℕ → Actor) → Option ℕ → List JournalEntry → Core A
core_from seats forks replicas actors turn journal = record {
  words = record {
    vertex = λ v. (seats v).holder;
    fork = λ e. (forks e).mark.word;
    turn = turn;
    grip = λ a. grip_of a (actors a) forks;
    journal = journal;
  };
  content = λ e. content_of (carried actors (forks e));
  place = λ v. place_of (seats v);
  replica = λ v k h. half_in h (replica_in (replicas v) k).datum;
  notes = λ a. notes_of a (actors a) forks seats replicas;
}

-- the core that a board shows, with any word and datum beyond the ends of its lists
abbrev pub core_of : {A : Type 0} → ℕ → Datum → Board A → Core A
core_of w d b =
    core_from (seat_at d b.seats.items) (fork_at w b.forks.items) (replicas_at b.replicas.items)
    (actor_at b.actors.items) b.turn b.journal.items

abbrev pub cut_of : {A : Type 0} → Board A → Cut
cut_of b = record {
  worker = λ e. slice_index_or b.workers.items e 0;
  spans = λ v k. is_among k (homes (replicas_at b.replicas.items v));
}

-- the graph as the board cuts it
abbrev pub shape_on : {A : Type 0} → Multigraph → Board A → Shape
shape_on g b = shape_of g (cut_of b) b.caches
