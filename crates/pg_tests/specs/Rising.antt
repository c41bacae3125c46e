-- A small program for the tests: every vertex takes the greatest id that it hears of, and an edge keeps the last label that went over it.
use Rattle.std.specs.Prelude.{ℕ, ◌<◌, ◌^◌, false, nat_lt, max, Some, None, cond}
use Rattle.pg_graph.specs.declared.edge.Dir.TheVariants.{AllEdges}
use Rattle.pg_law.specs.Values.{one}
use Rattle.pg_law.specs.declared.values.Delta.TheVariants.{Clear}
use Rattle.pg_law.specs.Program.{Program}

abbrev pub IsLabel : ℕ → Type 0
IsLabel n = n < 2 ^ 64

abbrev pub rising : Program ℕ ℕ
rising = record {
  start = λ v. record { datum = one v.id; message = Some v.id };
  start_edge = λ e. 0;
  gather_edges = AllEdges;
  scatter_edges = AllEdges;
  keeps_deltas = false;
  wide = false;
  empty = 0;
  gather = λ near. near.other.first;
  sum = λ a b. max a b;
  combine = λ a b. max a b;
  apply = λ v datum acc message. let label = max datum.first (max acc message) in record { datum = one label; again = None; carry = label };
  scatter = λ near label. record { edge = label; signal = cond (nat_lt near.word label) (Some label) None; delta = Clear };
  IsDatum = λ datum. IsLabel datum.first;
  IsAcc = IsLabel;
  IsMessage = IsLabel;
  IsWord = IsLabel;
  IsCarry = IsLabel;
}
