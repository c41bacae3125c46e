-- What a board counts as it goes, so that no act looks through its lists.
use Rattle.std.specs.Prelude.{ℕ, ◌≡◌, List, Bool, cond, Option, Some, None, Vec, count_by}
use Rattle.std.specs.declared.alloc.Global.{Global}
use Rattle.pg_law.specs.declared.values.JournalEntry.{JournalEntry}
use Rattle.pg_law.specs.Values.{two}
use Rattle.pg_meals.specs.declared.fork.Fork.{Fork}
use Rattle.pg_meals.specs.declared.seat.Seat.{Seat}
use Rattle.pg_meals.specs.declared.seat.Replica.{Replica}
use Rattle.pg_meals.specs.declared.actor.Actor.{Actor}
use Rattle.pg_meals.specs.declared.board.Board.{Board}
use Rattle.pg_meals.specs.Ranks.{last_entry}
use Rattle.pg_meals.specs.Entries.{is_actor, seat_at, actor_at, replicas_at}

-- how many of these forks the actor has pinned
abbrev pub pins_among : {A : Type 0} → ℕ → List (Fork A) → ℕ
pins_among a forks = count_by (λ x. is_actor a x.mark.pinner) forks

-- how many of these replicas are stale
abbrev pub stale_among : List Replica → ℕ
stale_among xs = count_by (λ x. x.stale) xs

-- to how many replicas an actor has yet to write its entry, by its vertex and whether it has made it
abbrev pub left_to_write : Option ℕ → Bool → (ℕ → List Replica) → ℕ
left_to_write None committed replicas = 0
left_to_write (Some v) committed replicas = cond committed (stale_among (replicas v)) 0

-- each actor has counted the forks that it has pinned, and the replicas that it has yet to write
abbrev pub ArePinsCounted : {A : Type 0} → List (Fork A) → List Actor → Type 0
ArePinsCounted forks actors = (a : ℕ) → (actor_at actors a).pinned ≡ pins_among a forks

abbrev pub AreStaleCounted : List (Vec Replica Global) → List Actor → Type 0
AreStaleCounted replicas actors = (a : ℕ) → (actor_at actors a).stale
    ≡ left_to_write (actor_at actors a).vertex (actor_at actors a).committed (replicas_at replicas)

-- each seat has the last entry of its vertex
abbrev pub AreLastKept : {A : Type 0} → List (Seat A) → List JournalEntry → Type 0
AreLastKept seats journal = (v : ℕ) → (seat_at (two 0 0) seats v).last ≡ last_entry journal v

-- what the board counts is true
pub record IsTallied {A : Type 0} (b : Board A) : Type 0 where
  pub pinned : ArePinsCounted b.forks.items b.actors.items
  pub stale : AreStaleCounted b.replicas.items b.actors.items
  pub last : AreLastKept b.seats.items b.journal.items
