use Rattle.std.proofs.Common.{ℕ, ◌≤◌, min, ◌==◌, refl, sym, ap, arith}
use Rattle.std.specs.Prelude.{nat_lt}
use Rattle.std.proofs.lemmas.Bool.{eqb-true}
use Rattle.pg_law.specs.Laws.{IsLawful, IsClosed, IsMonoidal, KeepsGathers}
use Rattle.pg_law.specs.Words.{IsU64}
use Rattle.pg_law.proofs.Choices.{min_unit, min_own, min_comm, min_assoc, sent_own, posted_own}
use Rattle.pg_law.proofs.Choices.{leads_where_changed, out_covers_in, out_is_gathered}
use Rattle.pg_paths.specs.Plus.{plus}
use Rattle.pg_paths.specs.ShortestPaths.{shortest_paths}

pub plus_own : (length weight : ℕ) → IsU64 (plus length weight)
plus_own length weight = omega arith

pub plus_below : (new old weight : ℕ) → new ≤ old → plus new weight ≤ plus old weight
plus_below new old weight h = omega arith

closed : (source : ℕ) → IsClosed (shortest_paths source)
closed source = record {
  start_datum = λ v h. omega arith;
  start_message = λ v h. sent_own IsU64 (v.id == source) 0 (omega arith);
  start_narrow = λ v h n. refl;
  start_edge = λ e h. omega arith;
  empty = omega arith;
  gather = λ near h. plus_own near.other.first near.edge.weight;
  sum = min_own;
  combine = min_own;
  apply = λ v datum acc message hv hd ha hm. record {
    datum = min_own datum.first _ hd (min_own acc message ha hm);
    again = tt;
    carry = tt;
    narrow = λ _. refl;
  };
  scatter = λ near carry h c. let distance = plus near.centre.first near.edge.weight in record {
    edge = h.word;
    signal = sent_own IsU64 (nat_lt distance near.other.first) distance
        (plus_own near.centre.first near.edge.weight);
    delta = posted_own IsU64 carry distance (plus_own near.centre.first near.edge.weight);
  };
}

monoidal : (source : ℕ) → IsMonoidal (shortest_paths source)
monoidal source = record {
  sum_unit = min_unit;
  sum_comm = λ a b ha hb. min_comm a b;
  sum_assoc = λ a b c ha hb hc. min_assoc a b c;
  combine_comm = λ a b ha hb. min_comm a b;
  combine_assoc = λ a b c ha hb hc. min_assoc a b c;
}

keep : (source : ℕ) → KeepsGathers (shortest_paths source)
keep source = record {
  own = λ near datum h hd. refl;
  word = λ near carry h c. refl;
  covers = out_covers_in;
  idle = λ near carry h c scatters none. absurd (out_is_gathered near.side scatters none);
  change = λ near old acc message h ho ha hm g. record {
    leads = let new = min old.first (min acc message) in let weight = near.edge.weight in
        leads_where_changed (λ a b. min a b) (plus old.first weight) (plus new weight)
        (new == old.first)
        (λ same. ap (λ d. plus d weight) (sym (eqb-true new old.first same))) (omega arith);
  };
}

pub shortest_paths_lawful : (source : ℕ) → IsLawful (shortest_paths source)
shortest_paths_lawful source = record {
  closed = closed source;
  monoidal = monoidal source;
  deltas = λ _. keep source;
}
