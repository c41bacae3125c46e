-- A tree of shortest paths from a source: the least length, and the vertex before.
use Rattle.std.specs.Prelude.{ℕ, Bool, true, not, ◌==◌, min, Some, None, cond}
use Rattle.pg_graph.specs.declared.edge.Dir.TheVariants.{InEdges, OutEdges}
use Rattle.pg_graph.specs.declared.edge.VertexInfo.{VertexInfo}
use Rattle.pg_graph.specs.declared.edge.EdgeInfo.{EdgeInfo}
use Rattle.pg_law.specs.declared.values.Datum.{Datum}
use Rattle.pg_law.specs.Values.{two}
use Rattle.pg_law.specs.Words.{IsU64}
use Rattle.pg_law.specs.declared.values.Delta.TheVariants.{Nothing, Add}
use Rattle.pg_law.specs.Program.{Program}
use Rattle.pg_paths.specs.Plus.{plus}
use Rattle.pg_paths.specs.Pairs.{IsPair, is_below, smaller_pair, unreached, via}

-- what a vertex with this datum offers over an edge that leads out of it
abbrev pub offered : EdgeInfo → Datum → Datum
offered edge datum = via datum.first edge.weight edge.src.id

-- the source is its own vertex before
abbrev pub reached : ℕ → VertexInfo → Datum → Datum → Datum
reached source v datum acc = cond (v.id == source) (two 0 v.id) (smaller_pair datum acc)

-- every vertex takes the smallest pair that it hears of, and the message only wakes it
abbrev pub tree : ℕ → Program Datum Bool
tree source = record {
  start = λ v. record { datum = unreached; message = cond (v.id == source) (Some 0) None };
  start_edge = λ e. 0;
  gather_edges = InEdges;
  scatter_edges = OutEdges;
  keeps_deltas = true;
  wide = true;
  empty = unreached;
  gather = λ near. offered near.edge near.other;
  sum = smaller_pair;
  combine = λ a b. min a b;
  apply = λ v datum acc message. let new = reached source v datum acc in
      record { datum = new; again = None; carry = not (new.first == datum.first) };
  scatter = λ near changed. let offer = offered near.edge near.centre in record {
    edge = near.word;
    signal = cond (is_below offer near.other) (Some (plus near.centre.first near.edge.weight)) None;
    delta = cond changed (Add offer) Nothing;
  };
  IsDatum = IsPair;
  IsAcc = IsPair;
  IsMessage = IsU64;
  IsWord = IsU64;
  IsCarry = λ _. Unit {0};
}
