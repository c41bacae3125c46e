-- The other ends of the edges around each vertex, row by row.
use Rattle.std.specs.Prelude.{◌≡◌, ℕ, ◌+◌, ◌<◌, ◌≤◌, List, length, slice_index}
use Rattle.pg_graph.specs.declared.edge.Edge.{Edge}
use Rattle.pg_graph.specs.Multigraph.{Multigraph, edges_at}
use Rattle.pg_serial.specs.Sending.{other_end}

-- what an edge's ends sum up to
abbrev pub end_sum : Edge → ℕ
end_sum edge = edge.src + edge.dst

-- where each row begins, and all rows one behind the other
pub record Beside : Type 0 where
  pub starts : List ℕ
  pub ends : List ℕ

abbrev pub beside : List ℕ → List ℕ → Beside
beside starts ends = record { starts = starts; ends = ends }

-- the rows of the first vertices stand where they begin
pub record IsRow (g : Multigraph) (rows : Beside) (u : ℕ) : Type 0 where
  pub within : slice_index rows.starts u + length (edges_at g u) ≤ length rows.ends
  pub end : (k : ℕ) → k < length (edges_at g u)
      → slice_index rows.ends (slice_index rows.starts u + k) ≡ other_end g u (slice_index (edges_at g u) k)

abbrev pub AreNeighbours : Multigraph → Beside → Type 0
AreNeighbours g rows = (u : ℕ) → u < length rows.starts → IsRow g rows u
