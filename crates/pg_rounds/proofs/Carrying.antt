-- The edges see no more of the vertices that execute than their carries.
use Rattle.std.proofs.Common.{◌≡◌, ℕ, cond, ◌<◌, ◌≤◌, ◌⊎◌, inl, inr, Option, Some, None, List, [], ◌∷◌, length, refl, sym, ap, arith, ◌∙◌}
use Rattle.std.specs.Prelude.{is_some, slice_index, map}
use Rattle.std.proofs.lemmas.Bool.{cases_lt}
use Rattle.std.proofs.Math.ListN.{get_or-map}
use Rattle.std.proofs.lemmas.List.{get_or_past, length-map}
use Rattle.std.proofs.lemmas.List.FromFn.{length-map-range_with_len, get_or-map-range_with_len}
use Rattle.pg_graph.specs.Multigraph.{Multigraph, IsMultigraph, info, end_at, side_at}
use Rattle.pg_graph.specs.declared.edge.Edge.{Edge}
use Rattle.pg_graph.specs.declared.edge.Side.{Side}
use Rattle.pg_graph.specs.declared.edge.Side.TheVariants.{Source, Target}
use Rattle.pg_graph.proofs.Stored.{info_known}
use Rattle.pg_law.specs.declared.values.Datum.{Datum}
use Rattle.pg_law.specs.declared.values.Applied.{Applied}
use Rattle.pg_law.specs.declared.values.Scattered.{Scattered}
use Rattle.pg_law.specs.Program.{Program}
use Rattle.pg_law.specs.Laws.{IsLawful}
use Rattle.pg_law.specs.Round.{became_at, AreApplied, IsBecome, scatter_by, received, signal_in, word_after, join, from_source, word_between, from_target, final_word, signal_to, with_signals}
use Rattle.pg_law.specs.Carries.{carry_at, carry_in, IsCarried, AreCarries, scatter_with}
use Rattle.pg_rounds.specs.Carries.{outcome_with, outcomes_with}
use Rattle.pg_rounds.specs.Visits.{executes_in, visitor_of}

-- what was carried is what is carried
carried : {Carry : Type 0} (datum : Datum) (carry : Option Carry) → carry_in (outcome_with datum carry) ≡ carry
carried datum None = refl
carried datum (Some carry) = refl

pub runs_carried : {Carry : Type 0} (o : Option (Applied Carry)) → is_some o ≡ is_some (carry_in o)
runs_carried None = refl
runs_carried (Some a) = refl

module _ {Acc Carry : Type 0} (p : Program Acc Carry) (g : Multigraph) where
  -- a scatter looks at the carry alone
  pub scatter_by_carry : (values : List Datum) (side : Side) (e word : ℕ) (o : Option (Applied Carry)) → scatter_by p g values side e word o ≡ scatter_with p g values side e word (carry_in o)
  scatter_by_carry values side e word None = refl
  scatter_by_carry values side e word (Some a) = refl

  module _ (carries : List (Option Carry)) where
    outcome_at : (v : ℕ) → v < length g.ids → became_at (outcomes_with p g carries) v ≡ outcome_with (p.start (info g v)).datum (carry_at carries v)
    unfolding outcomes_with
    outcome_at v h = get_or-map-range_with_len (λ u. outcome_with (p.start (info g u)).datum (carry_at carries u)) 0 (length g.ids) v v None h (omega arith)

    count_with : length (outcomes_with p g carries) ≡ length g.ids
    unfolding outcomes_with
    count_with = length-map-range_with_len (λ u. outcome_with (p.start (info g u)).datum (carry_at carries u)) 0 (length g.ids)

    pub carry_back : length carries ≡ length g.ids → (v : ℕ) → carry_in (became_at (outcomes_with p g carries) v) ≡ carry_at carries v
    carry_back count v = by_order (cases_lt v (length g.ids))
      where
        by_order : (v < length g.ids) ⊎ (length g.ids ≤ v) → carry_in (became_at (outcomes_with p g carries) v) ≡ carry_at carries v
        by_order (inl h) = ap carry_in (outcome_at v h) ∙ carried (p.start (info g v)).datum (carry_at carries v)
        by_order (inr h) = ap carry_in (get_or_past (outcomes_with p g carries) v None (omega (arith, count_with))) ∙ sym (get_or_past carries v None (omega arith))

    -- the outcomes are the program's own
    pub with_own : IsLawful p → IsMultigraph g → AreCarries p g carries → AreApplied p g (outcomes_with p g carries)
    with_own law graph own = record {
      count = count_with;
      each = λ v h. rw (outcome_at v h) (by_carry v h (carry_at carries v) (own.each v h));
    }
      where
        by_carry : (v : ℕ) → v < length g.ids → (carry : Option Carry) → IsCarried p carry → IsBecome p (outcome_with (p.start (info g v)).datum carry)
        by_carry v h None c = tt
        by_carry v h (Some carry) c = record {
          datum = law.closed.start_datum (info g v) (info_known g graph v h);
          again = tt;
          carry = c;
          narrow = law.closed.start_narrow (info g v) (info_known g graph v h);
        }

    -- those that execute have a carry
    pub runs_with : length carries ≡ length g.ids → (v : ℕ) → executes_in (outcomes_with p g carries) v ≡ executes_in carries v
    runs_with count v = runs_carried (became_at (outcomes_with p g carries) v) ∙ ap is_some (carry_back count v)

    pub visitor_with : length carries ≡ length g.ids → (edge : Edge) → visitor_of (outcomes_with p g carries) edge ≡ visitor_of carries edge
    visitor_with count edge = ap (λ b. cond b edge.src edge.dst) (runs_with count edge.src)

    -- a scatter over a vertex of the list
    pub scatter_at : length carries ≡ length g.ids → (values : List Datum) (side : Side) (e word v : ℕ) → scatter_by p g values side e word (became_at (outcomes_with p g carries) v) ≡ scatter_with p g values side e word (carry_at carries v)
    scatter_at count values side e word v = scatter_by_carry values side e word _ ∙ ap (scatter_with p g values side e word) (carry_back count v)

    -- what an edge scatters, from the carries at its ends
    pub scattered : length carries ≡ length g.ids → (values : List Datum) (words : List ℕ) (e : ℕ) (src dst : Option Carry) (source target : Option (Scattered Acc)) (between : ℕ)
        → src ≡ carry_at carries (end_at g Source e) → dst ≡ carry_at carries (end_at g Target e)
        → source ≡ scatter_with p g values Source e (slice_index words e) src → between ≡ word_after (slice_index words e) source → target ≡ scatter_with p g values Target e between dst
        → (source ≡ from_source p g values words (outcomes_with p g carries) e) × (between ≡ word_between p g values words (outcomes_with p g carries) e) × (target ≡ from_target p g values words (outcomes_with p g carries) e)
    scattered count values words e src dst source target between is_src is_dst is_source is_between is_target = (from, middle, to)
      where
        from : source ≡ from_source p g values words (outcomes_with p g carries) e
        from = is_source ∙ ap (scatter_with p g values Source e (slice_index words e)) is_src ∙ sym (scatter_at count values Source e (slice_index words e) (end_at g Source e))

        middle : between ≡ word_between p g values words (outcomes_with p g carries) e
        middle = is_between ∙ ap (word_after (slice_index words e)) from

        to : target ≡ from_target p g values words (outcomes_with p g carries) e
        to = is_target ∙ ap (λ w. scatter_with p g values Target e w dst) middle ∙ ap (scatter_with p g values Target e (word_between p g values words (outcomes_with p g carries) e)) is_dst
            ∙ sym (scatter_at count values Target e (word_between p g values words (outcomes_with p g carries) e) (end_at g Target e))

  -- the carries of what the vertices became are all that the edges see
  module _ (became : List (Option (Applied Carry))) where
    abbrev carries : List (Option Carry)
    carries = map carry_in became

    same : (v : ℕ) → carry_at carries v ≡ carry_in (became_at became v)
    same v = get_or-map carry_in became v None

    pub carries_own : AreApplied p g became → AreCarries p g (map carry_in became)
    carries_own applied = record {
      count = length-map became carry_in ∙ applied.count;
      each = λ v h. rw (same v) (by_outcome (became_at became v) (applied.each v h));
    }
      where
        by_outcome : (o : Option (Applied Carry)) → IsBecome p o → IsCarried p (carry_in o)
        by_outcome None b = tt
        by_outcome (Some a) b = b.carry

    module _ (all : length became ≡ length g.ids) where
      count : length carries ≡ length g.ids
      count = length-map became carry_in ∙ all

      pub runs_same : (v : ℕ) → executes_in (outcomes_with p g (map carry_in became)) v ≡ executes_in became v
      runs_same v = runs_with carries count v ∙ ap is_some (same v) ∙ sym (runs_carried (became_at became v))

      module _ (values : List Datum) (words : List ℕ) where
        scatter_same : (side : Side) (e word v : ℕ) → scatter_by p g values side e word (became_at (outcomes_with p g carries) v) ≡ scatter_by p g values side e word (became_at became v)
        scatter_same side e word v = scatter_at carries count values side e word v ∙ ap (scatter_with p g values side e word) (same v) ∙ sym (scatter_by_carry values side e word (became_at became v))

        pub source_same : (e : ℕ) → from_source p g values words (outcomes_with p g (map carry_in became)) e ≡ from_source p g values words became e
        source_same e = scatter_same Source e (slice_index words e) (end_at g Source e)

        between_same : (e : ℕ) → word_between p g values words (outcomes_with p g carries) e ≡ word_between p g values words became e
        between_same e = ap (word_after (slice_index words e)) (source_same e)

        pub target_same : (e : ℕ) → from_target p g values words (outcomes_with p g (map carry_in became)) e ≡ from_target p g values words became e
        target_same e = ap (λ w. scatter_by p g values Target e w (became_at (outcomes_with p g carries) (end_at g Target e))) (between_same e)
            ∙ scatter_same Target e (word_between p g values words became e) (end_at g Target e)

        pub final_same : (e : ℕ) → final_word p g values words (outcomes_with p g (map carry_in became)) e ≡ final_word p g values words became e
        final_same e = ap (λ w. word_after w (from_target p g values words (outcomes_with p g carries) e)) (between_same e)
            ∙ ap (word_after (word_between p g values words became e)) (target_same e)

        signal_same : (v e : ℕ) → signal_to p g values words (outcomes_with p g carries) v e ≡ signal_to p g values words became v e
        signal_same v e = ap (λ o. received (side_at g v e) (signal_in o) (signal_in (from_target p g values words (outcomes_with p g carries) e))) (source_same e)
            ∙ ap (λ o. received (side_at g v e) (signal_in (from_source p g values words became e)) (signal_in o)) (target_same e)

        pub with_same : (v : ℕ) (message : Option ℕ) (edges : List ℕ) → with_signals p g values words (outcomes_with p g (map carry_in became)) v message edges ≡ with_signals p g values words became v message edges
        with_same v message [] = refl
        with_same v message (e ∷ edges) = ap (λ s. with_signals p g values words (outcomes_with p g carries) v (join p.combine message s) edges) (signal_same v e)
            ∙ with_same v (join p.combine message (signal_to p g values words became v e)) edges
