-- The least length of a path from a source.
use Rattle.std.specs.Prelude.{ℕ, Bool, true, false, not, ◌==◌, nat_lt, min, Some, None, cond}
use Rattle.pg_graph.specs.declared.edge.Dir.TheVariants.{InEdges, OutEdges}
use Rattle.pg_law.specs.Values.{one}
use Rattle.pg_law.specs.Words.{IsU64, greatest}
use Rattle.pg_law.specs.declared.values.Delta.TheVariants.{Nothing, Add}
use Rattle.pg_law.specs.Program.{Program}
use Rattle.pg_paths.specs.Plus.{plus}

-- every vertex takes the least length that it hears of
abbrev pub shortest_paths : ℕ → Program ℕ Bool
shortest_paths source = record {
  start = λ v. record { datum = one greatest; message = cond (v.id == source) (Some 0) None };
  start_edge = λ e. 0;
  gather_edges = InEdges;
  scatter_edges = OutEdges;
  keeps_deltas = true;
  wide = false;
  empty = greatest;
  gather = λ near. plus near.other.first near.edge.weight;
  sum = λ a b. min a b;
  combine = λ a b. min a b;
  apply = λ v datum acc message. let distance = min datum.first (min acc message) in
      record { datum = one distance; again = None; carry = not (distance == datum.first) };
  scatter = λ near changed. let distance = plus near.centre.first near.edge.weight in record {
    edge = near.word;
    signal = cond (nat_lt distance near.other.first) (Some distance) None;
    delta = cond changed (Add distance) Nothing;
  };
  IsDatum = λ datum. IsU64 datum.first;
  IsAcc = IsU64;
  IsMessage = IsU64;
  IsWord = IsU64;
  IsCarry = λ _. Unit {0};
}
