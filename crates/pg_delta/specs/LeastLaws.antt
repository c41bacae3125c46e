use Rattle.std.specs.Prelude.{refl}
use Rattle.std.proofs.Common.{arith}
use Rattle.pg_law.specs.Laws.{IsLawful, IsClosed, IsMonoidal, KeepsGathers}
use Rattle.pg_delta.specs.Least.{least}

least_closed : IsClosed least
least_closed = record {
  start_datum = λ v h. omega arith;
  start_message = λ v h. tt;
  start_narrow = λ v h n. refl;
  start_edge = λ e h. omega arith;
  empty = omega arith;
  gather = λ near h. h.other;
  sum = λ a b ha hb. omega arith;
  combine = λ a b ha hb. omega arith;
  apply = λ v datum acc message hv hd ha hm. record { datum = ha; again = tt; carry = ha; narrow = λ _. refl };
  scatter = λ near carry h c. record { edge = h.word; signal = tt; delta = tt };
}

least_monoidal : IsMonoidal least
least_monoidal = record {
  sum_unit = λ a h. omega arith;
  sum_comm = λ a b ha hb. omega arith;
  sum_assoc = λ a b c ha hb hc. omega arith;
  combine_comm = λ a b ha hb. omega arith;
  combine_assoc = λ a b c ha hb hc. omega arith;
}

least_keeps : KeepsGathers least
least_keeps = record {
  own = λ near datum h d. refl;
  word = λ near carry h c. refl;
  covers = λ side t. t;
  idle = λ near carry h c t f. tt;
  change = λ near old acc message h d a m t. record { leads = tt };
}

pub least_lawful : IsLawful least
least_lawful = record { closed = least_closed; monoidal = least_monoidal; deltas = λ yes. least_keeps }
