-- The rank of each vertex.
use Rattle.std.specs.Prelude.{ℕ, ◌/◌, true, false, nat_lt, min, Some, None, cond}
use Rattle.pg_graph.specs.declared.edge.Dir.TheVariants.{InEdges, OutEdges}
use Rattle.pg_law.specs.Values.{one}
use Rattle.pg_law.specs.Words.{IsU64}
use Rattle.pg_law.specs.declared.values.Delta.TheVariants.{Add}
use Rattle.pg_law.specs.Program.{Program}
use Rattle.pg_rank.specs.declared.page_rank.Change.{Change}
use Rattle.pg_rank.specs.Shares.{share, joined, change, distance, rank}

-- from one rank to another, at a vertex with so many edges out
abbrev pub changed : ℕ → ℕ → ℕ → ℕ → Change
changed tolerance out old new = record {
  share = change (share old out) (share new out);
  above = nat_lt tolerance (distance new old);
}

-- a vertex tells each neighbour how much more it brings, and wakes it where that is worth the while
abbrev pub page_rank : ℕ → Program ℕ Change
page_rank tolerance = record {
  start = λ v. record { datum = one 1000000000; message = Some 0 };
  start_edge = λ e. 0;
  gather_edges = InEdges;
  scatter_edges = OutEdges;
  keeps_deltas = true;
  wide = false;
  empty = 0;
  gather = λ near. near.other.first / near.edge.src.out_degree;
  sum = joined;
  combine = λ a b. min a b;
  apply = λ v datum acc message. let new = rank acc in record {
    datum = one new;
    again = None;
    carry = changed tolerance v.out_degree datum.first new;
  };
  scatter = λ near carry. record {
    edge = near.word;
    signal = cond carry.above (Some 0) None;
    delta = Add carry.share;
  };
  IsDatum = λ datum. IsU64 datum.first;
  IsAcc = IsU64;
  IsMessage = IsU64;
  IsWord = IsU64;
  IsCarry = λ carry. IsU64 carry.share;
}
