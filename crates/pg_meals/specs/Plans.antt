-- What is prepared of a board's forks, over a list of edges. Who prepares has pinned them and
-- hasn't committed, so each carries its content.
use Rattle.std.specs.Prelude.{ℕ, ◌≡◌, ◌<◌, length, List, fold, Bool, true, cond, Option, Some, None}
use Rattle.pg_graph.specs.declared.edge.Side.{Side}
use Rattle.pg_graph.specs.declared.edge.Side.TheVariants.{Source, Target}
use Rattle.pg_graph.specs.declared.edge.Dir.{Dir}
use Rattle.pg_graph.specs.Multigraph.{Multigraph, edge_at, edge_info, side_at, is_at, opposite, takes}
use Rattle.pg_law.specs.declared.values.Datum.{Datum}
use Rattle.pg_law.specs.declared.values.Near.{Near}
use Rattle.pg_law.specs.declared.values.Applied.{Applied}
use Rattle.pg_law.specs.declared.values.Scattered.{Scattered}
use Rattle.pg_law.specs.declared.values.Delta.{Delta}
use Rattle.pg_law.specs.declared.values.Delta.TheVariants.{Nothing, Add, Clear}
use Rattle.pg_law.specs.Program.{Program}
use Rattle.pg_law.specs.Laws.{IsNear}
use Rattle.pg_law.specs.Round.{join}
use Rattle.pg_law.specs.Values.{two}
use Rattle.pg_delta.specs.declared.cell.CacheCell.{CacheCell}
use Rattle.pg_delta.specs.Deltas.{joined}
use Rattle.pg_meals.specs.declared.fork.Ride.{Ride}
use Rattle.pg_meals.specs.declared.fork.Carried.{Carried}
use Rattle.pg_meals.specs.declared.fork.Fork.{Fork}
use Rattle.pg_meals.specs.Entries.{at_side, fork_at}

-- a noted datum, or one of nothing
abbrev pub datum_noted : Option Datum → Datum
datum_noted None = two 0 0
datum_noted (Some d) = d

-- the edge e as its end at v sees it, by what was noted over its fork
abbrev pub near_over : {A : Type 0} → Multigraph → List (Fork A) → Datum → ℕ → ℕ → Near
near_over g forks centre v e = record {
  side = side_at g v e;
  edge = edge_info g e;
  word = (fork_at 0 forks e).content.word;
  centre = centre;
  other = datum_noted (fork_at 0 forks e).mark.noted;
}

-- where a direction takes e in, what v sees over it are values of the program
-- and so it is over all edges of v
abbrev pub IsNearAt : {A C : Type 0}
    → Program A C → Dir → Multigraph → List (Fork A) → Datum → ℕ → ℕ → Type 0
IsNearAt p dir g forks centre v e =
    takes dir (side_at g v e) ≡ true → IsNear p (near_over g forks centre v e)

abbrev pub AreNear : {A C : Type 0}
    → Program A C → Dir → Multigraph → List (Fork A) → Datum → ℕ → Type 0
AreNear p dir g forks centre v = (e : ℕ) → e < length g.edges → is_at v (edge_at g e) ≡ true
    → IsNearAt p dir g forks centre v e

-- what v gathers over these edges
abbrev pub gather_along : {A C : Type 0}
    → Program A C → Multigraph → List (Fork A) → Datum → ℕ → List ℕ → A
gather_along p g forks centre v es =
    fold (λ acc e. p.sum acc (p.gather (near_over g forks centre v e))) p.empty es

-- what waits for v on the fork of e
abbrev pub ride_on : {A : Type 0} → Multigraph → List (Fork A) → ℕ → ℕ → Ride A
ride_on g forks v e = at_side (side_at g v e) (fork_at 0 forks e).content

-- a message with those that wait on these forks
abbrev pub message_along : {A : Type 0} → (ℕ → ℕ → ℕ) → Multigraph → List (Fork A) → ℕ
    → Option ℕ → List ℕ → Option ℕ
message_along combine g forks v own es =
    fold (λ m e. join combine m (ride_on g forks v e).message) own es

-- a gather after a change, where it is known then
abbrev pub added : {A : Type 0} → (A → A → A) → Option A → Delta A → Option A
added sum None delta = None
added sum (Some acc) Nothing = Some acc
added sum (Some acc) (Add d) = Some (sum acc d)
added sum (Some acc) Clear = None

-- and after those that wait on these forks
abbrev pub added_along : {A : Type 0} → (A → A → A) → Multigraph → List (Fork A) → ℕ
    → Option A → List ℕ → Option A
added_along sum g forks v acc es =
    fold (λ o e. added sum o (ride_on g forks v e).delta) acc es

-- a content with this word, and this for the end other than s
abbrev pub laid_for : {A : Type 0} → Side → ℕ → Ride A → Carried A
laid_for Source w ride =
    record { word = w; source = record { message = None; delta = Nothing }; target = ride }
laid_for Target w ride =
    record { word = w; source = ride; target = record { message = None; delta = Nothing } }

-- what a fork carries once the end s has executed, and scattered this over it, or nothing
abbrev pub carried_sent : {A C : Type 0}
    → Program A C → Side → Carried A → Scattered A → Carried A
carried_sent p s x sc = laid_for s sc.edge (record {
  message = join p.combine (at_side (opposite s) x).message sc.signal;
  delta = joined p.sum (at_side (opposite s) x).delta sc.delta;
})

abbrev pub carried_kept : {A : Type 0} → Side → Carried A → Carried A
carried_kept s x = laid_for s x.word (at_side (opposite s) x)

-- what is planned for the fork of e, once v became x
abbrev pub planned_over : {A C : Type 0}
    → Program A C → Multigraph → List (Fork A) → ℕ → Applied C → ℕ → Carried A
planned_over p g forks v x e = cond (takes p.scatter_edges (side_at g v e))
    (carried_sent p (side_at g v e) (fork_at 0 forks e).content
    (p.scatter (near_over g forks x.datum v e) x.carry))
    (carried_kept (side_at g v e) (fork_at 0 forks e).content)

-- a cell that keeps this gather, where gathers are kept
abbrev pub cell_keeping : {A : Type 0} → Bool → A → CacheCell A
cell_keeping caches acc = record { acc = cond caches (Some acc) None; pending = Nothing }
