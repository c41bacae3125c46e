-- The edges that a cut places on one worker, as a graph of their own between the worker's replicas.
use Rattle.std.specs.Prelude.{◌≡◌, ℕ, ◌<◌, ◌^◌, Bool, ◌==◌, ◌&&◌, List, [], length, slice_index, slice_index_or, filter, map}
use Rattle.std.specs.List.{range_with_len}
use Rattle.std.specs.List.Sorted.{IsStrictlyIncreasing}
use Rattle.pg_graph.specs.declared.edge.Edge.{Edge}
use Rattle.pg_graph.specs.declared.edge.Side.{Side}
use Rattle.pg_graph.specs.declared.edge.Dir.{Dir}
use Rattle.pg_graph.specs.declared.edge.Dir.TheVariants.{AllEdges}
use Rattle.pg_graph.specs.Multigraph.{Multigraph, edges_at, edge_at, end_at, side_at, is_at, side_of, end_of, takes, no_edge, edges_around}
use Rattle.pg_cut.specs.Cut.{Division, edges_on, vertices_on}

-- a replica is named by its place among the vertices that have one on the worker
pub record Store : Type 0 where
  pub numbers : List ℕ  -- by place the edge's number in the graph
  pub words : List ℕ  -- by place the edge's word
  pub vertices : List ℕ  -- the vertices that have a replica on the worker, ascending
  pub edges : List Edge  -- by place the edge between replicas
  pub rows : List (List ℕ)  -- by replica the places of its edges, ascending

abbrev pub store : List ℕ → List ℕ → List ℕ → List Edge → List (List ℕ) → Store
store numbers words vertices edges rows = record {
  numbers = numbers;
  words = words;
  vertices = vertices;
  edges = edges;
  rows = rows;
}

-- the edge between replicas at a place
abbrev pub local_at : Store → ℕ → Edge
local_at s i = slice_index_or s.edges i no_edge

-- whether an edge is at a vertex, in a direction
abbrev pub is_around : ℕ → Dir → Edge → Bool
is_around v dir edge = is_at v edge && takes dir (side_of v edge)

-- the places of the edges around a vertex, ascending; these are the numbers of the edges by place
abbrev pub places_around : Multigraph → List ℕ → ℕ → Dir → List ℕ
places_around g numbers v dir =
    filter (λ i. is_around v dir (edge_at g (slice_index numbers i)))
    (range_with_len 0 (length numbers))

-- those of these places at which a direction takes in the edge of a vertex
abbrev pub places_taken : List Edge → ℕ → Dir → List ℕ → List ℕ
places_taken edges v dir places =
    filter (λ i. takes dir (side_of v (slice_index_or edges i no_edge))) places

-- the edges stand between the replicas of their ends, and the rows are theirs
pub record IsOver (g : Multigraph) (s : Store) : Type 0 where
  pub count : length s.edges ≡ length s.numbers
  pub ascending : IsStrictlyIncreasing s.vertices
  pub within : (i : ℕ) → i < length s.numbers → (side : Side)
      → end_of side (local_at s i) < length s.vertices
  pub ends : (i : ℕ) → i < length s.numbers → (side : Side)
      → slice_index s.vertices (end_of side (local_at s i))
      ≡ end_at g side (slice_index s.numbers i)
  pub rows_are : s.rows ≡ map (edges_around s.edges) (range_with_len 0 (length s.vertices))

-- an edge under other numbers for its ends
abbrev pub renumbered : List ℕ → Edge → Edge
renumbered numbers edge = record {
  src = slice_index numbers edge.src;
  dst = slice_index numbers edge.dst;
  weight = edge.weight;
}

-- these edges of a graph, between the places of their ends among these vertices
pub record AreBetween (g : Multigraph) (numbers vertices : List ℕ) (edges : List Edge)
    : Type 0 where
  pub count : length edges ≡ length numbers
  pub within : (i : ℕ) → i < length numbers → (side : Side)
      → end_of side (slice_index_or edges i no_edge) < length vertices
  pub ends : (i : ℕ) → i < length numbers → (side : Side)
      → slice_index vertices (end_of side (slice_index_or edges i no_edge))
      ≡ end_at g side (slice_index numbers i)
  pub weights : (i : ℕ) → i < length numbers
      → (slice_index_or edges i no_edge).weight ≡ (edge_at g (slice_index numbers i)).weight

-- each edge between replicas has the weight of its edge
abbrev pub HasWeights : Multigraph → Store → Type 0
HasWeights g s = (i : ℕ) → i < length s.numbers
    → (local_at s i).weight ≡ (edge_at g (slice_index s.numbers i)).weight

-- the store of a worker: its edges and its replicas, ascending
pub record IsStoreOf (g : Multigraph) (cut : Division) (worker : ℕ) (s : Store) : Type 0 where
  pub numbers : s.numbers ≡ edges_on cut.place worker
  pub vertices : s.vertices ≡ vertices_on cut worker
  pub over : IsOver g s

-- as many words, and edges between replicas, as edges; and the rows of the latter
pub record IsKept (s : Store) : Type 0 where
  pub few : length s.numbers < 2 ^ 32
  pub words_count : length s.words ≡ length s.numbers
  pub edges_count : length s.edges ≡ length s.numbers
  pub rows_are : s.rows ≡ map (edges_around s.edges) (range_with_len 0 (length s.vertices))

-- the row of a replica has the places around its vertex
abbrev pub RowsArePlaces : Type 0
RowsArePlaces = (g : Multigraph) (s : Store) (r : ℕ) → IsOver g s → r < length s.vertices
    → slice_index_or s.rows r []
    ≡ places_around g s.numbers (slice_index s.vertices r) AllEdges

-- a replica stands at the end of an edge between replicas where its vertex stands at the edge
abbrev pub SidesAreSides : Type 0
SidesAreSides = (g : Multigraph) (s : Store) (r i : ℕ) → IsOver g s
    → r < length s.vertices → i < length s.numbers
    → side_of r (local_at s i) ≡ side_at g (slice_index s.vertices r) (slice_index s.numbers i)

-- so what a direction takes in of the row of a replica are the places around its vertex
abbrev pub RowsInADirection : Type 0
RowsInADirection = (g : Multigraph) (s : Store) (r : ℕ) (dir : Dir) → IsOver g s
    → r < length s.vertices
    → places_taken s.edges r dir (slice_index_or s.rows r [])
    ≡ places_around g s.numbers (slice_index s.vertices r) dir

-- the places around a vertex, read as edges, are its edges on the worker in that direction
abbrev pub PlacesAreEdges : Type 0
PlacesAreEdges = (g : Multigraph) (place : List ℕ) (worker v : ℕ) (dir : Dir)
    → length place ≡ length g.edges
    → map (slice_index (edges_on place worker)) (places_around g (edges_on place worker) v dir)
    ≡ filter (λ e. slice_index place e == worker)
    (filter (λ e. takes dir (side_at g v e)) (edges_at g v))
