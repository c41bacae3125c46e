-- What a placement of the edges makes of the vertices, after PowerGraph's vertex-cuts.
use Rattle.std.specs.Prelude.{◌≡◌, ℕ, ◌<◌, ◌≤◌, ◌%◌, Bool, ◌==◌, List, [], length, slice_index, slice_index_or, map, filter, count_by, sum_by, if◌then◌else◌}
use Rattle.std.specs.List.{list_any, range_with_len}
use Rattle.pg_graph.specs.Multigraph.{Multigraph, vertices, edges_at}
use Rattle.pg_cut.specs.WorkerSet.{workers_that, workers_in, is_in}

-- so many workers, the worker of each edge, and the span of each vertex
pub record Division : Type 0 where
  pub workers : ℕ
  pub place : List ℕ
  pub spans : List (List ℕ)

-- a worker for each edge
pub record IsPlacement (g : Multigraph) (workers : ℕ) (place : List ℕ) : Type 0 where
  pub some : 1 ≤ workers
  pub few : workers ≤ 64
  pub count : length place ≡ length g.edges
  pub each : (e : ℕ) → e < length place → slice_index place e < workers

-- a worker is in the span of a vertex if it has an edge there
-- a vertex without edges has one worker of its own
abbrev pub in_span : Multigraph → ℕ → List ℕ → ℕ → ℕ → Bool
in_span g workers place v worker =
    if length (edges_at g v) == 0 then worker == v % workers
    else list_any (λ e. slice_index place e == worker) (edges_at g v)

-- the span of a vertex, ascending
abbrev pub span_of : Multigraph → ℕ → List ℕ → ℕ → List ℕ
span_of g workers place v = workers_that (in_span g workers place v)

-- the edges on a worker, ascending
abbrev pub edges_on : List ℕ → ℕ → List ℕ
edges_on place worker =
    filter (λ e. slice_index place e == worker) (range_with_len 0 (length place))

-- the cut that a placement makes
abbrev pub cut_of : Multigraph → ℕ → List ℕ → Division
cut_of g workers place = record {
  workers = workers;
  place = place;
  spans = map (span_of g workers place) (vertices g);
}

-- a cut of this graph
pub record IsCutOf (g : Multigraph) (cut : Division) : Type 0 where
  pub placed : IsPlacement g cut.workers cut.place
  pub count : length cut.spans ≡ length g.ids
  pub spans_are : cut.spans ≡ map (span_of g cut.workers cut.place) (vertices g)

abbrev pub span_in : Division → ℕ → List ℕ
span_in cut v = slice_index_or cut.spans v []

-- the vertices that have a worker in their spans, ascending
abbrev pub vertices_on : Division → ℕ → List ℕ
vertices_on cut worker =
    filter (λ v. is_in worker (span_in cut v)) (range_with_len 0 (length cut.spans))

-- the worker of a span that applies for the vertex
abbrev pub master_of : List ℕ → ℕ → ℕ
master_of span v = slice_index span (v % length span)

-- the edges on a worker, the replicas on a worker, and all replicas
abbrev pub load_of : Division → ℕ → ℕ
load_of cut worker = count_by (λ w. w == worker) cut.place

abbrev pub held_by : Division → ℕ → ℕ
held_by cut worker = count_by (is_in worker) cut.spans

abbrev pub replicas_of : Division → ℕ
replicas_of cut = sum_by length cut.spans

-- a division whose spans are kept as bits
abbrev pub division : ℕ → List ℕ → List ℕ → Division
division workers place bits = record {
  workers = workers;
  place = place;
  spans = map workers_in bits;
}

-- what a cut keeps beside its division
pub record IsKept (cut : Division) (masters loads held : List ℕ) (replicas : ℕ)
    (edges vertices : List (List ℕ)) : Type 0 where
  pub some : 1 ≤ cut.workers
  pub few : cut.workers ≤ 64
  pub placed : (e : ℕ) → e < length cut.place → slice_index cut.place e < cut.workers
  pub masters_are :
      masters ≡ map (λ v. master_of (span_in cut v) v) (range_with_len 0 (length cut.spans))
  pub loads_are : loads ≡ map (load_of cut) (range_with_len 0 cut.workers)
  pub held_are : held ≡ map (held_by cut) (range_with_len 0 cut.workers)
  pub replicas_are : replicas ≡ replicas_of cut
  pub edges_are : edges ≡ map (edges_on cut.place) (range_with_len 0 cut.workers)
  pub vertices_are : vertices ≡ map (vertices_on cut) (range_with_len 0 cut.workers)
