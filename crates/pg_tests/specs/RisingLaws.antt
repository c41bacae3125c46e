use Rattle.std.specs.Prelude.{refl}
use Rattle.std.proofs.Common.{arith}
use Rattle.std.proofs.lemmas.Bool.{false≢true}
use Rattle.pg_law.specs.Laws.{IsLawful, IsClosed, IsMonoidal}
use Rattle.pg_tests.specs.Rising.{rising}

rising_closed : IsClosed rising
rising_closed = record {
  start_datum = λ v h. omega arith;
  start_message = λ v h. omega arith;
  start_narrow = λ v h n. refl;
  start_edge = λ e h. omega arith;
  empty = omega arith;
  gather = λ near h. h.other;
  sum = λ a b ha hb. omega arith;
  combine = λ a b ha hb. omega arith;
  apply = λ v datum acc message hv hd ha hm. record { datum = omega arith; again = tt; carry = omega arith; narrow = λ _. refl };
  scatter = λ near label h c. record { edge = c; signal = grind arith; delta = tt };
}

rising_monoidal : IsMonoidal rising
rising_monoidal = record {
  sum_unit = λ a h. omega arith;
  sum_comm = λ a b ha hb. omega arith;
  sum_assoc = λ a b c ha hb hc. omega arith;
  combine_comm = λ a b ha hb. omega arith;
  combine_assoc = λ a b c ha hb hc. omega arith;
}

pub rising_lawful : IsLawful rising
rising_lawful = record { closed = rising_closed; monoidal = rising_monoidal; deltas = λ no. absurd (false≢true no) }
