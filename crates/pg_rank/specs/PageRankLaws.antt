-- What is brought adds up modulo 2^64, so a change leads from the old sum to the new one.
use Rattle.std.proofs.Common.{◌≡◌, ℕ, ◌/◌, ◌≤◌, true, refl, sym, arith}
use Rattle.std.proofs.Math.Nat.{div-le_self}
use Rattle.std.proofs.lemmas.Bool.{true≢false}
use Rattle.std.proofs.lemmas.Bool.Decides.{nat_tests}
use Rattle.pg_graph.specs.declared.edge.Side.{Side}
use Rattle.pg_graph.specs.declared.edge.Side.TheVariants.{Source, Target}
use Rattle.pg_graph.specs.declared.edge.Dir.TheVariants.{InEdges}
use Rattle.pg_graph.specs.declared.edge.EdgeInfo.{EdgeInfo}
use Rattle.pg_graph.specs.Multigraph.{IsEdgeInfo, opposite, takes}
use Rattle.pg_law.specs.Laws.{IsLawful, IsClosed, IsMonoidal, KeepsGathers, info_at}
use Rattle.pg_law.specs.Words.{IsU64}
use Rattle.pg_law.proofs.Choices.{min_own, min_comm, min_assoc, sent_own, out_covers_in}
use Rattle.pg_law.proofs.Choices.{out_is_gathered}
use Rattle.pg_rank.specs.Shares.{share, joined, change, rank}
use Rattle.pg_rank.specs.PageRank.{page_rank}

joined_own : (a b : ℕ) → IsU64 (joined a b)
joined_own a b = omega arith

change_own : (old new : ℕ) → IsU64 (change old new)
change_own old new = omega arith

joined_unit : (a : ℕ) → IsU64 a → joined 0 a ≡ a
joined_unit a h = omega arith

joined_comm : (a b : ℕ) → joined a b ≡ joined b a
joined_comm a b = omega arith

joined_assoc : (a b c : ℕ) → joined (joined a b) c ≡ joined a (joined b c)
joined_assoc a b c = omega arith

joined_change : (old new : ℕ) → IsU64 old → IsU64 new → joined old (change old new) ≡ new
joined_change old new ho hn = omega arith

rank_own : (brought : ℕ) → IsU64 brought → IsU64 (rank brought)
rank_own brought h = omega arith

part_own : (n out : ℕ) → IsU64 n → IsU64 (n / out)
part_own n out h = omega (arith, div-le_self n out)

share_some : (n out : ℕ) → 1 ≤ out → share n out ≡ n / out
share_some n out h = grind (arith, nat_tests)

-- a vertex gathers over an edge out of another, and hears of that one's change
told : (side : Side) (edge : EdgeInfo) (old new : ℕ) → IsEdgeInfo edge → IsU64 old → IsU64 new
    → takes InEdges (opposite side) ≡ true
    → let out = (info_at side edge).out_degree in joined (old / edge.src.out_degree)
    (change (share old out) (share new out)) ≡ new / edge.src.out_degree
told Source edge old new h ho hn gathers = let out = edge.src.out_degree in
    rw (share_some old out h.leaves, share_some new out h.leaves)
    (joined_change (old / out) (new / out) (part_own old out ho) (part_own new out hn))
told Target edge old new h ho hn gathers = absurd (true≢false (sym gathers))

module _ (tolerance : ℕ) where
  closed : IsClosed (page_rank tolerance)
  closed = record {
    start_datum = λ v h. omega arith;
    start_message = λ v h. omega arith;
    start_narrow = λ v h n. refl;
    start_edge = λ e h. omega arith;
    empty = omega arith;
    gather = λ near h. part_own near.other.first near.edge.src.out_degree h.other;
    sum = λ a b ha hb. joined_own a b;
    combine = min_own;
    apply = λ v datum acc message hv hd ha hm. record {
      datum = rank_own acc ha;
      again = tt;
      carry = change_own (share datum.first v.out_degree) (share (rank acc) v.out_degree);
      narrow = λ _. refl;
    };
    scatter = λ near carry h c. record {
      edge = h.word;
      signal = sent_own IsU64 carry.above 0 (omega arith);
      delta = c;
    };
  }

  monoidal : IsMonoidal (page_rank tolerance)
  monoidal = record {
    sum_unit = joined_unit;
    sum_comm = λ a b ha hb. joined_comm a b;
    sum_assoc = λ a b c ha hb hc. joined_assoc a b c;
    combine_comm = λ a b ha hb. min_comm a b;
    combine_assoc = λ a b c ha hb hc. min_assoc a b c;
  }

  keep : KeepsGathers (page_rank tolerance)
  keep = record {
    own = λ near datum h hd. refl;
    word = λ near carry h c. refl;
    covers = out_covers_in;
    idle = λ near carry h c scatters none. absurd (out_is_gathered near.side scatters none);
    change = λ near old acc message h ho ha hm gathers. record {
      leads = told near.side near.edge old.first (rank acc) h.edge ho (rank_own acc ha) gathers;
    };
  }

  pub page_rank_lawful : IsLawful (page_rank tolerance)
  page_rank_lawful = record { closed = closed; monoidal = monoidal; deltas = λ _. keep }
