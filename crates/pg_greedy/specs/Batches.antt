-- What a table is when an edge is taken back, and when another loader goes on with it.
use Rattle.std.specs.Prelude.{◌<◌, ℕ, ◌-◌, ◌==◌, List, slice_index, map, if◌then◌else◌}
use Rattle.std.specs.List.{range_with_len}
use Rattle.pg_graph.specs.declared.edge.Edge.{Edge}
use Rattle.pg_graph.specs.Multigraph.{vertices, is_at}
use Rattle.pg_greedy.specs.Greedy.{Table, set_at}

-- the table without an edge, whose ends are held by these workers again
unfoldable pub without_edge : Table → Edge → ℕ → (us vs : List ℕ) → Table
without_edge table edge worker us vs = record {
  graph = table.graph;
  workers = table.workers;
  first = table.first;
  sets = map (λ v. if edge.src == v then us else if edge.dst == v then vs else set_at table v)
      (vertices table.graph);
  placed = map (λ v. slice_index table.placed v - (if is_at v edge then 1 else 0))
      (vertices table.graph);
  loads = map (λ w. slice_index table.loads w - (if w == worker then 1 else 0))
      (range_with_len 0 table.workers);
}

-- the same table for a loader that prefers another worker
unfoldable pub with_first : Table → ℕ → Table
with_first table first = record table { first = first }

-- an edge is among those that the table counts
pub record IsCounted (table : Table) (edge : Edge) (worker : ℕ) : Type 0 where
  pub src : 0 < slice_index table.placed edge.src
  pub dst : 0 < slice_index table.placed edge.dst
  pub load : 0 < slice_index table.loads worker
