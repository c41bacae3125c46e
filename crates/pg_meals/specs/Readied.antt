-- When a board may prepare for a vertex, and what it is then.
use Rattle.std.specs.Prelude.{ℕ, ◌≡◌, ◌<◌, ◌&&◌, ◌||◌, not, length, List, slice_index_or, slice_set, Bool, true, false, cond, Some, is_some}
use Rattle.pg_graph.specs.declared.edge.Dir.{Dir}
use Rattle.pg_graph.specs.Multigraph.{Multigraph, side_at, edges_at, takes}
use Rattle.pg_law.specs.Values.{two}
use Rattle.pg_delta.specs.declared.cell.CacheCell.{CacheCell}
use Rattle.pg_meals.specs.declared.fork.Mark.{Mark}
use Rattle.pg_meals.specs.declared.fork.Carried.{Carried}
use Rattle.pg_meals.specs.declared.fork.Fork.{Fork}
use Rattle.pg_meals.specs.declared.actor.Ready.{Ready}
use Rattle.pg_meals.specs.declared.board.Board.{Board}
use Rattle.pg_meals.specs.Once.{is_among}
use Rattle.pg_meals.specs.Entries.{is_actor, fork_at, seat_at, actor_at}

-- the actor has pinned the fork, and noted a datum over it if it looks at one
abbrev pub is_seen : ℕ → Bool → Mark → Bool
is_seen a looks mark = is_actor a mark.pinner && (not looks || is_some mark.noted)

-- so it has on the fork of e, where v gathers and scatters over edges of these directions
abbrev pub sees_over : {A : Type 0} → Dir → Dir → Multigraph → List (Fork A) → ℕ → ℕ → ℕ → Bool
sees_over gathers scatters g forks a v e =
    is_seen a (takes gathers (side_at g v e) || takes scatters (side_at g v e)) (fork_at 0 forks e).mark

-- on each of these forks, or not on one
abbrev pub SeesEach : {A : Type 0}
    → Dir → Dir → Multigraph → List (Fork A) → ℕ → ℕ → List ℕ → Type 0
SeesEach gathers scatters g forks a v es = (i : ℕ) → i < length es
    → sees_over gathers scatters g forks a v (slice_index_or es i 0) ≡ true

abbrev pub MissesOne : {A : Type 0}
    → Dir → Dir → Multigraph → List (Fork A) → ℕ → ℕ → List ℕ → Type 0
MissesOne gathers scatters g forks a v es = (i : ℕ) × (i < length es)
    × (sees_over gathers scatters g forks a v (slice_index_or es i 0) ≡ false)

-- a fork for which this is prepared
abbrev pub with_plan : {A : Type 0} → Carried A → Fork A → Fork A
with_plan plan x = record { mark = x.mark; content = x.content; prepared = plan }

-- so it is for each of these forks, and all others are as before
abbrev pub ArePlanned : {A : Type 0}
    → List (Fork A) → (ℕ → Carried A) → List ℕ → List (Fork A) → Type 0
ArePlanned {A} before plan es after = (e : ℕ) (d : Fork A) → slice_index_or after e d
    ≡ cond (is_among e es) (with_plan (plan e) (slice_index_or before e d)) (slice_index_or before e d)

-- the actor has this ready for v, with this cell and these plans for its forks
pub record IsReadied {A : Type 0} (g : Multigraph) (b : Board A) (a v : ℕ) (ready : Ready)
    (cell : CacheCell A) (plan : ℕ → Carried A) (b' : Board A) : Type 0 where
  pub forks : ArePlanned b.forks.items plan (edges_at g v) b'.forks.items
  pub count : length b'.forks.items ≡ length b.forks.items
  pub seats : b'.seats.items
      ≡ slice_set b.seats.items v (record (seat_at (two 0 0) b.seats.items v) { prepared = cell })
  pub actors : b'.actors.items
      ≡ slice_set b.actors.items a (record (actor_at b.actors.items a) { ready = Some ready })
  pub replicas : b'.replicas ≡ b.replicas
  pub workers : b'.workers ≡ b.workers
  pub turn : b'.turn ≡ b.turn
  pub journal : b'.journal ≡ b.journal
  pub fuel : b'.fuel ≡ b.fuel
  pub caches : b'.caches ≡ b.caches
