-- The entries of a board's lists, and what is read beyond their ends.
use Rattle.std.specs.Prelude.{ℕ, ◌≡◌, ◌==◌, ◌<◌, length, List, [], ◌∷◌, slice_index_or, Bool, true, false, cond, Option, Some, None, Vec, map}
use Rattle.std.specs.declared.alloc.Global.{Global}
use Rattle.pg_graph.specs.declared.edge.Side.{Side}
use Rattle.pg_graph.specs.declared.edge.Side.TheVariants.{Source, Target}
use Rattle.pg_graph.specs.Multigraph.{Multigraph, end_at}
use Rattle.pg_law.specs.declared.values.Datum.{Datum}
use Rattle.pg_law.specs.declared.values.Delta.TheVariants.{Nothing}
use Rattle.pg_law.specs.Values.{two}
use Rattle.pg_delta.specs.Cell.{cleared}
use Rattle.pg_forks.specs.Transitions.{sent_to}
use Rattle.pg_meals.specs.declared.fork.Ride.{Ride}
use Rattle.pg_meals.specs.declared.fork.Carried.{Carried}
use Rattle.pg_meals.specs.declared.fork.Fork.{Fork}
use Rattle.pg_meals.specs.declared.seat.Seat.{Seat}
use Rattle.pg_meals.specs.declared.seat.Replica.{Replica}
use Rattle.pg_meals.specs.declared.actor.Actor.{Actor}
use Rattle.pg_meals.specs.declared.finding.Got.{Got as FoundGot}
use Rattle.pg_meals.specs.Acts.{Got}
use Rattle.pg_meals.specs.Once.{is_among}

-- a word that was got, as the acts have it
abbrev pub got_in : FoundGot → Got
got_in x = record { word = x.word; taken = x.taken }

-- what waits for an end
abbrev pub at_side : {A : Type 0} → Side → Carried A → Ride A
at_side Source x = x.source
at_side Target x = x.target

-- the word names the actor
abbrev pub is_actor : ℕ → Option ℕ → Bool
is_actor a None = false
is_actor a (Some b) = b == a

-- an actor that has nothing in hand, and one that has just taken a vertex in hand
abbrev pub idle : Actor
idle = record {
  vertex = None;
  evidence = false;
  committed = false;
  turn = false;
  ready = None;
  before = two 0 0;
  pinned = 0;
  stale = 0;
}

abbrev pub arrived : ℕ → Bool → Actor
arrived v evidence = record idle { vertex = Some v; evidence = evidence }

-- beyond the ends of the lists stand a fork that carries nothing but a word, and an empty seat
abbrev pub no_load : {A : Type 0} → ℕ → Carried A
no_load w = record {
  word = w;
  source = record { message = None; delta = Nothing };
  target = record { message = None; delta = Nothing };
}

abbrev pub no_fork : {A : Type 0} → ℕ → Fork A
no_fork w = record {
  mark = record { word = sent_to Source true; pinner = None; taken = false; noted = None };
  content = no_load w;
  prepared = no_load w;
}

abbrev pub no_seat : {A : Type 0} → Datum → Seat A
no_seat d = record {
  holder = None;
  datum = d;
  message = None;
  cell = cleared;
  prepared = cleared;
  last = 0;
}

abbrev pub fork_at : {A : Type 0} → ℕ → List (Fork A) → ℕ → Fork A
fork_at w forks e = slice_index_or forks e (no_fork w)

abbrev pub seat_at : {A : Type 0} → Datum → List (Seat A) → ℕ → Seat A
seat_at d seats v = slice_index_or seats v (no_seat d)

abbrev pub actor_at : List Actor → ℕ → Actor
actor_at actors a = slice_index_or actors a idle

-- the actor has the vertex at this end of the edge in hand, and not that at the other
-- or it has neither
abbrev pub IsSideOf : Multigraph → List Actor → ℕ → ℕ → Option Side → Type 0
IsSideOf g actors a e None =
    (s : Side) → (actor_at actors a).vertex ≡ Some (end_at g s e) → ⊥
IsSideOf g actors a e (Some s) =
    ((actor_at actors a).vertex ≡ Some (end_at g s e))
    × ((t : Side) → (actor_at actors a).vertex ≡ Some (end_at g t e) → t ≡ s)

-- the replicas of a vertex
abbrev pub replicas_at : List (Vec Replica Global) → ℕ → List Replica
replicas_at replicas v = slice_index_or (map (λ row. row.items) replicas) v []

-- the replica of a worker among those of a vertex, or a stale one of nothing
abbrev pub replica_in : List Replica → ℕ → Replica
replica_in [] k = record { worker = k; datum = two 0 0; stale = true }
replica_in (x ∷ xs) k = cond (k == x.worker) x (replica_in xs k)

-- an entry has yet to be written to a replica
abbrev pub made_stale : Replica → Replica
made_stale x = record x { stale = true }

-- the workers that have one
abbrev pub homes : List Replica → List ℕ
homes xs = map (λ x. x.worker) xs

-- the place of a worker's replica, or it has none
abbrev pub IsHome : List Replica → ℕ → Option ℕ → Type 0
IsHome xs k None = is_among k (homes xs) ≡ false
IsHome xs k (Some i) = (i < length xs) × ((d : Replica) → (slice_index_or xs i d).worker ≡ k)
