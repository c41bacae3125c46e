use Rattle.std.proofs.Common.{ℕ, Bool, true, false, cond, ◌==◌, List, refl, sym, arith}
use Rattle.std.proofs.lemmas.Bool.{true≢false}
use Rattle.pg_law.specs.Laws.{IsLawful, IsClosed, IsMonoidal}
use Rattle.pg_law.specs.Words.{IsU64}
use Rattle.pg_law.proofs.Choices.{min_own, min_comm, min_assoc, sent_own}
use Rattle.pg_colour.specs.Colours.{AreColours, has, least_free}
use Rattle.pg_colour.specs.Colouring.{colouring, recoloured}
use Rattle.pg_colour.specs.ColoursLaws.{union_own, union_unit, union_comm, union_assoc}
use Rattle.pg_colour.specs.ColoursLaws.{least_free_own}

recoloured_own : (old : ℕ) (colours : List ℕ) → IsU64 old → AreColours colours
    → IsU64 (recoloured old colours)
recoloured_own old colours ho hc = chosen (has colours old)
  where
    chosen : (taken : Bool) → IsU64 (cond taken (least_free colours) old)
    chosen true = least_free_own colours hc
    chosen false = ho

closed : IsClosed colouring
closed = record {
  start_datum = λ v h. omega arith;
  start_message = λ v h. omega arith;
  start_narrow = λ v h n. refl;
  start_edge = λ e h. omega arith;
  empty = tt;
  gather = λ near h. (omega arith, h.other, tt);
  sum = union_own;
  combine = min_own;
  apply = λ v datum acc message hv hd ha hm. record {
    datum = recoloured_own datum.first acc hd ha;
    again = tt;
    carry = tt;
    narrow = λ _. refl;
  };
  scatter = λ near carry h c. record {
    edge = h.word;
    signal = sent_own IsU64 (near.centre.first == near.other.first) 0 (omega arith);
    delta = tt;
  };
}

monoidal : IsMonoidal colouring
monoidal = record {
  sum_unit = union_unit;
  sum_comm = union_comm;
  sum_assoc = union_assoc;
  combine_comm = λ a b ha hb. min_comm a b;
  combine_assoc = λ a b c ha hb hc. min_assoc a b c;
}

-- it keeps no deltas
pub colouring_lawful : IsLawful colouring
colouring_lawful = record {
  closed = closed;
  monoidal = monoidal;
  deltas = λ keeps. absurd (true≢false (sym keeps));
}
