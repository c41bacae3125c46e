-- Where a loader puts an edge, after the four greedy cases of PowerGraph.
use Rattle.std.specs.Prelude.{◌≡◌, ◌≤◌, ◌<◌, true, ℕ, ◌+◌, ◌-◌, Bool, ◌==◌, ◌||◌, ◌&&◌, not, nat_lt, List, [], length, slice_index, slice_index_or, map, filter, if◌then◌else◌}
use Rattle.std.specs.List.{range_with_len, list_any}
use Rattle.pg_graph.specs.declared.edge.Edge.{Edge}
use Rattle.pg_graph.specs.Multigraph.{Multigraph, IsMultigraph, edges_at, vertices, is_at}
use Rattle.pg_cut.specs.WorkerSet.{IsWithin, is_in, workers_in, workers_that}
use Rattle.pg_greedy.specs.declared.placed.Placed.{Placed}

-- what a loader knows: of each vertex the workers that hold it, ascending, and how many of its
-- edges are placed; how many edges each worker has; and the worker that it prefers
pub record Table : Type 0 where
  pub graph : Multigraph
  pub workers : ℕ
  pub first : ℕ
  pub sets : List (List ℕ)
  pub placed : List ℕ
  pub loads : List ℕ

-- a table that has seen no edge
abbrev pub empty_table : Multigraph → ℕ → ℕ → Table
empty_table g workers first = record {
  graph = g;
  workers = workers;
  first = first;
  sets = map (λ v. []) (vertices g);
  placed = map (λ v. 0) (vertices g);
  loads = map (λ w. 0) (range_with_len 0 workers);
}

abbrev pub set_at : Table → ℕ → List ℕ
set_at table v = slice_index_or table.sets v []

-- the edges of a vertex that the table hasn't placed
abbrev pub unassigned : Table → ℕ → ℕ
unassigned table v = length (edges_at table.graph v) - slice_index table.placed v

-- where a worker stands in the order: the first and those above it, and then those below it
abbrev pub turn_of : ℕ → ℕ → ℕ → ℕ
turn_of workers first worker =
    if nat_lt worker first then worker + workers - first else worker - first

-- whether a worker goes before another: by its load, and then by its turn
abbrev pub goes_before : (workers first : ℕ) → List ℕ → ℕ → ℕ → Bool
goes_before workers first loads a b =
    nat_lt (slice_index loads a) (slice_index loads b)
    || ((slice_index loads a == slice_index loads b)
    && nat_lt (turn_of workers first a) (turn_of workers first b))

-- the best of a set: the worker that none of them goes before
abbrev pub best_of : (workers first : ℕ) → List ℕ → List ℕ → ℕ
best_of workers first loads set =
    slice_index (filter (λ w. not (list_any (λ x. goes_before workers first loads x w) set)) set) 0

-- the workers that hold both ends
abbrev pub common : List ℕ → List ℕ → List ℕ
common us vs = filter (λ w. is_in w vs) us

abbrev pub is_empty : List ℕ → Bool
is_empty ws = length ws == 0

-- the case of two ends, by the workers that hold them
abbrev pub case_of : List ℕ → List ℕ → ℕ
case_of us vs =
    if not (is_empty (common us vs)) then 1
    else if is_empty us && is_empty vs then 4
    else if is_empty us || is_empty vs then 3
    else 2

-- the workers that may get an edge. Where both ends are held, and by none in common, it is those
-- of the target if that has more unassigned edges, and those of the source if not
abbrev pub candidates : (workers : ℕ) → Bool → List ℕ → List ℕ → List ℕ
candidates workers target_has_more us vs =
    if not (is_empty (common us vs)) then common us vs
    else if is_empty us && is_empty vs then workers_that (λ w. nat_lt w workers)
    else if is_empty us then vs
    else if is_empty vs then us
    else if target_has_more then vs
    else us

abbrev pub target_has_more : Table → Edge → Bool
target_has_more table edge = nat_lt (unassigned table edge.src) (unassigned table edge.dst)

abbrev pub candidates_of : Table → Edge → List ℕ
candidates_of table edge =
    candidates table.workers (target_has_more table edge)
    (set_at table edge.src) (set_at table edge.dst)

-- the best of a set, by its two ties: the least load, and of these the first in the order
pub record IsBest (workers first : ℕ) (loads set : List ℕ) (worker : ℕ) : Type 0 where
  pub member : is_in worker set ≡ true
  pub least : (w : ℕ) → is_in w set ≡ true → slice_index loads worker ≤ slice_index loads w
  pub earliest : (w : ℕ) → is_in w set ≡ true → slice_index loads w ≡ slice_index loads worker
      → turn_of workers first worker ≤ turn_of workers first w

-- where a table sends an edge, and by which case
unfoldable pub greedy : Table → Edge → Placed
greedy table edge = record {
  worker = best_of table.workers table.first table.loads (candidates_of table edge);
  case = case_of (set_at table edge.src) (set_at table edge.dst);
}

-- a set with one more worker, still ascending
abbrev pub with_member : ℕ → List ℕ → List ℕ
with_member worker ws = workers_that (λ w. is_in w ws || (w == worker))

-- the table after an edge got a worker
unfoldable pub with_edge : Table → Edge → ℕ → Table
with_edge table edge worker = record {
  graph = table.graph;
  workers = table.workers;
  first = table.first;
  sets = map (λ v. if is_at v edge then with_member worker (set_at table v) else set_at table v)
      (vertices table.graph);
  placed = map (λ v. slice_index table.placed v + (if is_at v edge then 1 else 0))
      (vertices table.graph);
  loads = map (λ w. slice_index table.loads w + (if w == worker then 1 else 0))
      (range_with_len 0 table.workers);
}

-- no count has come to the number of the edges, as long as one of them isn't placed
pub record HasRoom (table : Table) : Type 0 where
  pub placed : (v : ℕ) → v < length table.graph.ids
      → slice_index table.placed v < length table.graph.edges
  pub loads : (w : ℕ) → w < table.workers
      → slice_index table.loads w < length table.graph.edges

-- a table whose sets are kept as bits
abbrev pub table_by : Multigraph → (workers first : ℕ) → (bits placed loads : List ℕ) → Table
table_by g workers first bits placed loads = record {
  graph = g;
  workers = workers;
  first = first;
  sets = map workers_in bits;
  placed = placed;
  loads = loads;
}

-- what such a table keeps
pub record IsKept (g : Multigraph) (workers first : ℕ) (bits placed loads : List ℕ) : Type 0 where
  pub graph : IsMultigraph g
  pub some : 1 ≤ workers
  pub few : workers ≤ 64
  pub first_below : first < workers
  pub sets_count : length bits ≡ length g.ids
  pub placed_count : length placed ≡ length g.ids
  pub loads_count : length loads ≡ workers
  pub members : (v : ℕ) → v < length g.ids → IsWithin workers (slice_index bits v)
  pub placed_few : (v : ℕ) → v < length g.ids → slice_index placed v ≤ length g.edges
  pub loads_few : (w : ℕ) → w < workers → slice_index loads w ≤ length g.edges
