-- A colouring in which no two neighbours are alike.
use Rattle.std.specs.Prelude.{ℕ, false, ◌==◌, min, Some, None, cond, List, [], ◌∷◌}
use Rattle.pg_graph.specs.declared.edge.Dir.TheVariants.{AllEdges}
use Rattle.pg_law.specs.Values.{one}
use Rattle.pg_law.specs.Words.{IsU64}
use Rattle.pg_law.specs.declared.values.Delta.TheVariants.{Clear}
use Rattle.pg_law.specs.Program.{Program}
use Rattle.pg_colour.specs.Colours.{AreColours, has, union, least_free}

-- a colour that these neighbours don't have
abbrev pub recoloured : ℕ → List ℕ → ℕ
recoloured old colours = cond (has colours old) (least_free colours) old

-- every vertex looks at its neighbours' colours, and wakes those that have its own
abbrev pub colouring : Program (List ℕ) (Unit {0})
colouring = record {
  start = λ v. record { datum = one 0; message = Some 0 };
  start_edge = λ e. 0;
  gather_edges = AllEdges;
  scatter_edges = AllEdges;
  keeps_deltas = false;
  wide = false;
  empty = [];
  gather = λ near. near.other.first ∷ [];
  sum = union;
  combine = λ a b. min a b;
  apply = λ v datum acc message. record {
    datum = one (recoloured datum.first acc);
    again = None;
    carry = tt;
  };
  scatter = λ near carry. record {
    edge = near.word;
    signal = cond (near.centre.first == near.other.first) (Some 0) None;
    delta = Clear;
  };
  IsDatum = λ datum. IsU64 datum.first;
  IsAcc = AreColours;
  IsMessage = IsU64;
  IsWord = IsU64;
  IsCarry = λ _. Unit {0};
}
