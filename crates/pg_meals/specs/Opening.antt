-- What stands in a board at the start.
use Rattle.std.specs.Prelude.{ℕ, ltb, slice_index, slice_index_or, cond, false, true, List, map, Option, None}
use Rattle.pg_graph.specs.declared.edge.Edge.{Edge}
use Rattle.pg_graph.specs.declared.edge.Side.TheVariants.{Source, Target}
use Rattle.pg_graph.specs.Multigraph.{Multigraph, edge_at}
use Rattle.pg_law.specs.declared.values.Datum.{Datum}
use Rattle.pg_law.specs.Configuration.{Configuration, message_in}
use Rattle.pg_law.specs.Values.{two}
use Rattle.pg_delta.specs.declared.cell.CacheCell.{CacheCell}
use Rattle.pg_delta.specs.Cell.{cleared}
use Rattle.pg_cut.specs.Cut.{Division, span_in}
use Rattle.pg_forks.specs.Transitions.{sent_to}
use Rattle.pg_meals.specs.declared.fork.Fork.{Fork}
use Rattle.pg_meals.specs.declared.seat.Seat.{Seat}
use Rattle.pg_meals.specs.declared.seat.Replica.{Replica}
use Rattle.pg_meals.specs.Setting.{cell_at}
use Rattle.pg_meals.specs.Entries.{no_load}

-- a fork that carries its word alone, dirty at the end whose vertex has the larger number
abbrev pub new_fork : {A : Type 0} → Edge → ℕ → Fork A
new_fork edge w = record {
  mark = record {
    word = sent_to (cond (ltb edge.src edge.dst) Target Source) true;
    pinner = None;
    taken = false;
    noted = None;
  };
  content = no_load w;
  prepared = no_load w;
}

abbrev pub fork_on : {A : Type 0} → Multigraph → List ℕ → ℕ → Fork A
fork_on g words e = new_fork (edge_at g e) (slice_index words e)

-- a vertex that nobody has in hand
abbrev pub new_seat : {A : Type 0} → Datum → Option ℕ → CacheCell A → Seat A
new_seat d m cell = record {
  holder = None;
  datum = d;
  message = m;
  cell = cell;
  prepared = cleared;
  last = 0;
}

abbrev pub seat_on : {A : Type 0} → Configuration → List (CacheCell A) → ℕ → Seat A
seat_on s cells v =
    new_seat (slice_index_or s.values v (two 0 0)) (message_in s.messages v) (cell_at cells v)

-- a replica for each worker in a span
abbrev pub copy_of : Datum → ℕ → Replica
copy_of d k = record { worker = k; datum = d; stale = false }

abbrev pub row_on : Division → List Datum → ℕ → List Replica
row_on cut values v = map (copy_of (slice_index_or values v (two 0 0))) (span_in cut v)
