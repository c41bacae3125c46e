-- What an act of a board is, and which boards can act.
use Rattle.std.specs.Prelude.{ℕ, ◌≡◌, ◌<◌, ◌≤◌, ◌^◌, length, true, false, Some, None}
use Rattle.std.specs.Vec.{vec_capacity}
use Rattle.pg_graph.specs.declared.edge.Side.{Side}
use Rattle.pg_graph.specs.Multigraph.{Multigraph, end_at}
use Rattle.pg_law.specs.declared.values.Datum.{Datum}
use Rattle.pg_meals.specs.declared.actor.Ready.{Ready}
use Rattle.pg_meals.specs.declared.board.Board.{Board}
use Rattle.pg_meals.specs.Core.{Core}
use Rattle.pg_meals.specs.Acts.{Act, Outcome, Step}
use Rattle.pg_meals.specs.Once.{Once}
use Rattle.pg_meals.specs.Entries.{is_actor, fork_at, seat_at, actor_at, replicas_at, homes}
use Rattle.pg_meals.specs.Shown.{core_of, shape_on}
use Rattle.pg_meals.specs.Tallies.{IsTallied}

-- an actor that has prepared has pinned all forks of its vertex
abbrev pub HasPrepared : {A : Type 0} → Multigraph → Board A → Type 0
HasPrepared g b = (w a v e : ℕ) (s : Side) (x : Ready)
    → (actor_at b.actors.items a).ready ≡ Some x → (actor_at b.actors.items a).committed ≡ false
    → (actor_at b.actors.items a).vertex ≡ Some v → e < length g.edges → end_at g s e ≡ v
    → is_actor a (fork_at w b.forks.items e).mark.pinner ≡ true

-- as many entries as the graph has, and the journal's room; each worker has one replica of a vertex
-- at most; what is counted is true; an actor that pinned a fork has the vertex at its side in hand,
-- and a vertex in hand names its actor
pub record IsBoard {A : Type 0} (g : Multigraph) (b : Board A) : Type 0 where
  pub few : length g.ids ≤ 2 ^ 22
  pub seats : length b.seats.items ≡ length g.ids
  pub forks : length b.forks.items ≡ length g.edges
  pub workers : length b.workers.items ≡ length g.edges
  pub replicas : length b.replicas.items ≡ length g.ids
  pub once : (v : ℕ) → Once (homes (replicas_at b.replicas.items v))
  pub room : b.fuel ≤ vec_capacity b.journal
  pub tallied : IsTallied b
  pub free : (w e : ℕ) → (fork_at w b.forks.items e).mark.word.pinned ≡ false
      → (fork_at w b.forks.items e).mark.pinner ≡ None
  pub held : (w a e : ℕ) → (fork_at w b.forks.items e).mark.pinner ≡ Some a
      → (e < length g.edges) × ((actor_at b.actors.items a).vertex
      ≡ Some (end_at g (fork_at w b.forks.items e).mark.word.side e))
  pub ready : HasPrepared g b
  pub names : (d : Datum) (a v : ℕ) → (actor_at b.actors.items a).vertex ≡ Some v
      → (seat_at d b.seats.items v).holder ≡ Some a
  pub inside : (a v : ℕ) → (actor_at b.actors.items a).vertex ≡ Some v → v < length g.ids

-- the board makes this act of the core
abbrev pub Acts : {A : Type 0} → Multigraph → Board A → ℕ → Act → Board A → Outcome → Type 0
Acts g b a act b' out = (w : ℕ) (d : Datum)
    → Step (shape_on g b) b.fuel (core_of w d b) a act (core_of w d b') out

-- it makes an act of two halves, one after the other
abbrev pub ActsByHalves : {A : Type 0}
    → Multigraph → Board A → ℕ → (ℕ → Act) → Board A → (ℕ → Outcome) → Type 0
ActsByHalves {A} g b a act b' out = (w : ℕ) (d : Datum) → (between : Core A)
    × Step (shape_on g b) b.fuel (core_of w d b) a (act 0) between (out 0)
    × Step (shape_on g b) b.fuel between a (act 1) (core_of w d b') (out 1)

-- its guard isn't met
abbrev pub MayNot : {A : Type 0} → Multigraph → Board A → ℕ → Act → Type 0
MayNot {A} g b a act = (w : ℕ) (d : Datum) (c : Core A) (out : Outcome)
    → Step (shape_on g b) b.fuel (core_of w d b) a act c out → ⊥

-- what no act changes
pub record Frame {A : Type 0} (b b' : Board A) : Type 0 where
  pub workers : b'.workers ≡ b.workers
  pub homes : (v : ℕ)
      → homes (replicas_at b'.replicas.items v) ≡ homes (replicas_at b.replicas.items v)
  pub fuel : b'.fuel ≡ b.fuel
  pub room : vec_capacity b'.journal ≡ vec_capacity b.journal
  pub caches : b'.caches ≡ b.caches
  pub seats : length b'.seats.items ≡ length b.seats.items
  pub replicas : length b'.replicas.items ≡ length b.replicas.items
  pub forks : length b'.forks.items ≡ length b.forks.items
  pub actors : length b'.actors.items ≡ length b.actors.items
