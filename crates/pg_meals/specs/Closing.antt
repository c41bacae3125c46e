-- What a table leaves when it is closed. No fork is pinned then, so each carries its content.
use Rattle.std.specs.Prelude.{ℕ, zero, suc, ◌≡◌, ◌<◌, ◌≤◌, ◌==◌, ◌||◌, length, List, [], Bool, true, false, cond, Option, Some, None, is_some, Vec, map}
use Rattle.std.specs.Vec.{vec_capacity}
use Rattle.std.specs.declared.alloc.Global.{Global}
use Rattle.pg_graph.specs.declared.edge.Side.TheVariants.{Source, Target}
use Rattle.pg_graph.specs.Multigraph.{Multigraph, end_at, vertices}
use Rattle.pg_law.specs.declared.values.Delta.{Delta}
use Rattle.pg_law.specs.declared.values.Delta.TheVariants.{Nothing, Add, Clear}
use Rattle.pg_law.specs.Values.{two}
use Rattle.pg_law.specs.Round.{join}
use Rattle.pg_delta.specs.declared.cell.CacheCell.{CacheCell}
use Rattle.pg_delta.specs.Cell.{cleared}
use Rattle.pg_meals.specs.declared.actor.Actor.{Actor}
use Rattle.pg_meals.specs.declared.fork.Fork.{Fork}
use Rattle.pg_meals.specs.declared.board.Board.{Board}
use Rattle.pg_meals.specs.declared.room.Room.{Room}
use Rattle.pg_meals.specs.Families.{total}
use Rattle.pg_meals.specs.Entries.{actor_at, fork_at, seat_at}

-- no actor has a vertex in hand, or one has
abbrev pub AllFree : List Actor → Type 0
AllFree actors = (a : ℕ) → a < length actors → is_some (actor_at actors a).vertex ≡ false

abbrev pub OneBusy : List Actor → Type 0
OneBusy actors = (a : ℕ) × (a < length actors) × (is_some (actor_at actors a).vertex ≡ true)

-- what the fork of e has for v, by what it has for each end
abbrev pub for_end : {X : Type 0} → Multigraph → ℕ → ℕ → X → X → X → X
for_end g v e source target none =
    cond (end_at g Source e == v) source (cond (end_at g Target e == v) target none)

-- the message for v on the fork of e
abbrev pub ride_for : {A : Type 0} → Multigraph → List (Fork A) → ℕ → ℕ → Option ℕ
ride_for g forks v e = for_end g v e
    (fork_at 0 forks e).content.source.message (fork_at 0 forks e).content.target.message None

-- a message with those that ride to v on the forks below n
abbrev pub delivered : {A : Type 0} → (ℕ → ℕ → ℕ) → Multigraph → List (Fork A) → ℕ → ℕ
    → Option ℕ → Option ℕ
delivered combine g forks v n own =
    join combine own (total (join combine) None (ride_for g forks v) n)

abbrev pub is_delta : {A : Type 0} → Delta A → Bool
is_delta Nothing = false
is_delta (Add a) = true
is_delta Clear = true

-- whether a delta waits for v on the fork of e, or on one of those below n
abbrev pub waits_on : {A : Type 0} → Multigraph → List (Fork A) → ℕ → ℕ → Bool
waits_on g forks v e = for_end g v e
    (is_delta (fork_at 0 forks e).content.source.delta)
    (is_delta (fork_at 0 forks e).content.target.delta) false

abbrev pub waits_below : {A : Type 0} → Multigraph → List (Fork A) → ℕ → ℕ → Bool
waits_below g forks v zero = false
waits_below g forks v (suc n) = waits_below g forks v n || waits_on g forks v n

-- the cell of a vertex, cleared where a delta waits for it on a fork
abbrev pub cell_left : {A : Type 0} → Multigraph → Board A → ℕ → CacheCell A
cell_left g b v = cond (waits_below g b.forks.items v (length g.edges))
    cleared (seat_at (two 0 0) b.seats.items v).cell

-- the cells that are left, where there were caches
abbrev pub AreLeft : {A : Type 0} → Multigraph → Board A → Option (Vec (CacheCell A) Global) → Type 0
AreLeft g b None = b.caches ≡ false
AreLeft g b (Some cells) =
    (b.caches ≡ true) × (cells.items ≡ map (cell_left g b) (vertices g))

-- room for a word for each edge, and for a cell for each vertex where there are caches
pub record HasRoom {A : Type 0} (g : Multigraph) (caches : Bool) (room : Room A) : Type 0 where
  pub no_words : room.words.items ≡ []
  pub words : length g.edges ≤ vec_capacity room.words
  pub no_cells : room.cells.items ≡ []
  pub cells : caches ≡ true → length g.ids ≤ vec_capacity room.cells
