use Rattle.std.proofs.Common.{ℕ, ◌≤◌, Bool, true, false, cond, ◌==◌, refl, sym, ap, arith}
use Rattle.std.proofs.lemmas.Bool.{eqb-true}
use Rattle.pg_graph.specs.declared.edge.VertexInfo.{VertexInfo}
use Rattle.pg_graph.specs.Multigraph.{IsVertexInfo}
use Rattle.pg_law.specs.declared.values.Datum.{Datum}
use Rattle.pg_law.specs.Laws.{IsLawful, IsClosed, IsMonoidal, KeepsGathers, info_at}
use Rattle.pg_law.specs.Values.{two}
use Rattle.pg_law.specs.Words.{IsU64}
use Rattle.pg_law.proofs.Choices.{min_own, min_comm, min_assoc, sent_own, posted_own}
use Rattle.pg_law.proofs.Choices.{leads_where_changed, out_covers_in, out_is_gathered}
use Rattle.pg_paths.specs.Plus.{plus}
use Rattle.pg_paths.specs.Pairs.{IsPair, is_below, smaller_pair, via}
use Rattle.pg_paths.specs.PairsLaws.{smaller_comm, smaller_assoc, smaller_unit, smaller_own}
use Rattle.pg_paths.specs.PairsLaws.{smaller_first, unreached_own, via_own, via_joined}
use Rattle.pg_paths.specs.ShortestPathsLaws.{plus_own}
use Rattle.pg_paths.specs.Trees.{tree, offered, reached}

module _ (source : ℕ) where
  reached_own : (v : VertexInfo) (datum acc : Datum) → IsVertexInfo v → IsPair datum → IsPair acc
      → IsPair (reached source v datum acc)
  reached_own v datum acc hv hd ha = chosen (v.id == source)
    where
      chosen : (at_source : Bool) → IsPair (cond at_source (two 0 v.id) (smaller_pair datum acc))
      chosen true = record { first = omega arith; second = omega (arith, hv.id) }
      chosen false = smaller_own datum acc hd ha

  -- no apply makes a path longer
  reached_first : (v : VertexInfo) (datum acc : Datum)
      → (reached source v datum acc).first ≤ datum.first
  reached_first v datum acc = chosen (v.id == source)
    where
      chosen : (at_source : Bool)
          → (cond at_source (two 0 v.id) (smaller_pair datum acc)).first ≤ datum.first
      chosen true = omega arith
      chosen false = smaller_first datum acc

  closed : IsClosed (tree source)
  closed = record {
    start_datum = λ v h. unreached_own;
    start_message = λ v h. sent_own IsU64 (v.id == source) 0 (omega arith);
    start_narrow = λ v h n. cc;
    start_edge = λ e h. omega arith;
    empty = unreached_own;
    gather = λ near h. via_own near.other.first near.edge.weight near.edge.src.id
        (omega (arith, h.edge.src.id));
    sum = smaller_own;
    combine = min_own;
    apply = λ v datum acc message hv hd ha hm. record {
      datum = reached_own v datum acc hv hd ha;
      again = tt;
      carry = tt;
      narrow = λ n. cc;
    };
    scatter = λ near carry h c. record {
      edge = h.word;
      signal = sent_own IsU64 (is_below (offered near.edge near.centre) near.other)
          (plus near.centre.first near.edge.weight) (plus_own near.centre.first near.edge.weight);
      delta = posted_own IsPair carry (offered near.edge near.centre)
          (via_own near.centre.first near.edge.weight near.edge.src.id
          (omega (arith, h.edge.src.id)));
    };
  }

  monoidal : IsMonoidal (tree source)
  monoidal = record {
    sum_unit = smaller_unit;
    sum_comm = λ a b ha hb. smaller_comm a b;
    sum_assoc = λ a b c ha hb hc. smaller_assoc a b c;
    combine_comm = λ a b ha hb. min_comm a b;
    combine_assoc = λ a b c ha hb hc. min_assoc a b c;
  }

  keep : KeepsGathers (tree source)
  keep = record {
    own = λ near datum h hd. refl;
    word = λ near carry h c. refl;
    covers = out_covers_in;
    idle = λ near carry h c scatters none. absurd (out_is_gathered near.side scatters none);
    change = λ near old acc message h ho ha hm g. record {
      leads = let v = info_at near.side near.edge in
          let new = reached source v old acc in
          leads_where_changed smaller_pair (offered near.edge old) (offered near.edge new)
          (new.first == old.first)
          (λ same. ap (λ length. via length near.edge.weight near.edge.src.id)
          (sym (eqb-true new.first old.first same)))
          (via_joined new.first old.first near.edge.weight near.edge.src.id
          (omega (arith, h.edge.src.id)) (reached_first v old acc));
    };
  }

  pub tree_lawful : IsLawful (tree source)
  tree_lawful = record { closed = closed; monoidal = monoidal; deltas = λ _. keep }
