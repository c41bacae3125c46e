-- A small program for the tests: a vertex gathers the least of its neighbours' words.
use Rattle.std.specs.Prelude.{ℕ, true, false, min, None}
use Rattle.pg_graph.specs.declared.edge.Dir.TheVariants.{AllEdges}
use Rattle.pg_law.specs.Values.{one}
use Rattle.pg_law.specs.Words.{IsU64, greatest}
use Rattle.pg_law.specs.declared.values.Delta.TheVariants.{Clear}
use Rattle.pg_law.specs.Program.{Program}

abbrev pub least : Program ℕ ℕ
least = record {
  start = λ v. record { datum = one v.id; message = None };
  start_edge = λ e. 0;
  gather_edges = AllEdges;
  scatter_edges = AllEdges;
  keeps_deltas = true;
  wide = false;
  empty = greatest;
  gather = λ near. near.other.first;
  sum = λ a b. min a b;
  combine = λ a b. min a b;
  apply = λ v datum acc message. record { datum = one acc; again = None; carry = acc };
  scatter = λ near carry. record { edge = near.word; signal = None; delta = Clear };
  IsDatum = λ datum. IsU64 datum.first;
  IsAcc = IsU64;
  IsMessage = IsU64;
  IsWord = IsU64;
  IsCarry = IsU64;
}
