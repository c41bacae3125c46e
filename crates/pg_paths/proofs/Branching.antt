-- A tree without signals has the least weights and the least ids before, and leads back.
use Rattle.std.proofs.Common.{◌≡◌, ◌≢◌, ℕ, zero, suc, ◌+◌, ◌<◌, ◌≤◌, ◌⊎◌, Bool, true, false, List}
use Rattle.std.proofs.Common.{[]}
use Rattle.std.proofs.Common.{◌∷◌, length, refl, sym, ◌∙◌, ap, subst, arith, inl, inr}
use Rattle.std.specs.Prelude.{slice_index}
use Rattle.std.proofs.lemmas.Bool.{eq-eqb, eqb-true, ne_eqb, eqb-false, true≢false}
use Rattle.std.proofs.lemmas.Bool.{false_from_ne_true}
use Rattle.pg_graph.specs.declared.edge.Side.TheVariants.{Source, Target}
use Rattle.pg_graph.specs.Multigraph.{Multigraph, IsMultigraph, edge_at, end_at}
use Rattle.pg_law.specs.declared.values.Datum.{Datum}
use Rattle.pg_law.specs.declared.values.JournalEntry.{JournalEntry}
use Rattle.pg_law.specs.Values.{two}
use Rattle.pg_law.specs.Words.{greatest}
use Rattle.pg_law.specs.Configuration.{Configuration, datum_in, is_signalled, start_state, is_quiet}
use Rattle.pg_steps.specs.Reached.{after_rounds, after_journal}
use Rattle.pg_steps.proofs.Ends.{ends_within}
use Rattle.pg_steps.proofs.Resting.{quiet_silent}
use Rattle.pg_steps.proofs.Keeping.{rounds_keep, replay_keeps}
use Rattle.pg_paths.specs.Plus.{plus}
use Rattle.pg_paths.specs.Pairs.{is_below, unreached}
use Rattle.pg_paths.specs.Trees.{tree}
use Rattle.pg_paths.specs.Walks.{IsWeightTo, IsReachable, IsOutOfReach, IsLeastWeight}
use Rattle.pg_paths.specs.Tight.{IsIdBefore, IsLeastIdBefore, IsBranch, HasTree, Follows}
use Rattle.pg_paths.specs.Tight.{LeadsBack, AllLeadBack, HasNoZeroWeight}
use Rattle.pg_paths.proofs.Agreeing.{least_unique}
use Rattle.pg_paths.proofs.Hearing.{label}
use Rattle.pg_paths.proofs.Bounding.{least_distance, reachable_small}
use Rattle.pg_paths.proofs.Offers.{first_low, second_low, via_first, via_path}
use Rattle.pg_paths.proofs.Growing.{IsGrown, IsKnown, Came, pair, offer, is_source, start_grown}
use Rattle.pg_paths.proofs.Growing.{step_grown}

module _ (g : Multigraph) (graph : IsMultigraph g) (source : ℕ) where
  module _ (s : Configuration) (grown : IsGrown g source s) (quiet : is_quiet g s ≡ true) where
    silent : (u : ℕ) → u < length g.ids → is_signalled s u ≡ true → ⊥
    silent u h signal = true≢false (sym signal ∙ quiet_silent g s quiet u h)

    root : (u : ℕ) → u < length g.ids → is_source g source u ≡ true → pair s u ≡ two 0 source
    root u h at = by_root (grown.root u h at)
      where
        by_root : (pair s u ≡ two 0 source) ⊎ (is_signalled s u ≡ true) → pair s u ≡ two 0 source
        by_root (inl own) = own
        by_root (inr some) = absurd (silent u h some)

    starts : (u : ℕ) → u < length g.ids → slice_index g.ids u ≡ source → label s u ≡ 0
    starts u h is = ap (λ (d : Datum). d.first) (root u h (eq-eqb _ _ is))

    -- no edge offers a smaller pair
    not_lower : (e : ℕ) → e < length g.edges → is_source g source (end_at g Target e) ≡ false
        → is_below (offer g s e) (pair s (end_at g Target e)) ≡ false
    not_lower e h other = false_from_ne_true _
        (λ less. silent _ (ends_within g graph Target e h) (grown.lower e h other less))

    short : (e : ℕ) → e < length g.edges
        → label s (end_at g Target e) ≤ plus (label s (end_at g Source e)) (edge_at g e).weight
    short e h = by_target (is_source g source (end_at g Target e)) refl
      where
        by_target : (b : Bool) → is_source g source (end_at g Target e) ≡ b
            → label s (end_at g Target e)
            ≤ plus (label s (end_at g Source e)) (edge_at g e).weight
        by_target true at = omega (
          arith,
          starts _ (ends_within g graph Target e h) (eqb-true _ _ at),
        )
        by_target false other = omega (
          arith,
          first_low (offer g s e) (pair s (end_at g Target e))
              (not_lower e h other),
          via_first (label s (end_at g Source e)) (edge_at g e).weight
              (slice_index g.ids (end_at g Source e)),
        )

    least_label : (v : ℕ) → v < length g.ids → IsLeastWeight g source v (label s v)
    least_label v h = least_distance g graph (label s) short source starts v (grown.lengths v h)

    label_small : (v : ℕ) → IsReachable g source v → label s v < greatest
    label_small v reachable = reachable_small g graph (label s) short source starts v reachable

    -- the edge over which a pair came is tight
    came_tight : (v : ℕ) → v < length g.ids → Came g s v (pair s v)
        → IsIdBefore g source v (pair s v).second
    came_tight v h (e, below, is, id, low, less) = (
      e,
      below,
      is,
      id,
      record {
        before = label s (end_at g Source e);
        below = omega (arith, low, less);
        least = least_label _ (ends_within g graph Source e below);
        joined = subst (IsLeastWeight g source (end_at g Target e)) whole
            (least_label _ (ends_within g graph Target e below));
      },
    )
      where
        whole : label s (end_at g Target e)
            ≡ label s (end_at g Source e) + (edge_at g e).weight
        whole = omega (arith, low, less, short e below, ap (label s) is)

    -- and no tight edge comes from a smaller id
    tight_least : (v other : ℕ) → is_source g source v ≡ false → label s v < greatest
        → IsIdBefore g source v other → (pair s v).second ≤ other
    tight_least v other not_root less (e, below, is, id, tight) = omega (arith, id, low)
      where
        from : tight.before ≡ label s (end_at g Source e)
        from = least_unique g source (end_at g Source e) tight.before (label s (end_at g Source e))
            tight.least (least_label _ (ends_within g graph Source e below))

        to : tight.before + (edge_at g e).weight ≡ label s (end_at g Target e)
        to = least_unique g source (end_at g Target e) _ _ tight.joined
            (least_label _ (ends_within g graph Target e below))

        same : label s (end_at g Target e) ≡ label s v
        same = ap (label s) is

        whole : plus (label s (end_at g Source e)) (edge_at g e).weight ≡ label s v
        whole = omega (arith, from, to, same, less)

        offered : offer g s e ≡ two (label s v) (slice_index g.ids (end_at g Source e))
        offered = via_path (label s (end_at g Source e)) (edge_at g e).weight
            (slice_index g.ids (end_at g Source e)) (omega (arith, whole, less))
            ∙ ap (λ l. two l (slice_index g.ids (end_at g Source e))) whole

        not_below : is_below (offer g s e) (pair s v) ≡ false
        not_below = ap (λ w. is_below (offer g s e) (pair s w)) (sym is)
            ∙ not_lower e below (ap (is_source g source) is ∙ not_root)

        low : (pair s v).second ≤ slice_index g.ids (end_at g Source e)
        low = second_low (two (label s v) (slice_index g.ids (end_at g Source e))) (pair s v)
            (ap (λ o. is_below o (pair s v)) (sym offered) ∙ not_below) refl

    pub quiet_branch : (v : ℕ) → v < length g.ids → IsBranch g source v (pair s v)
    quiet_branch v h = record {
      weight = least_label v h;
      root = λ is. root v h (eq-eqb _ _ is);
      before = λ other reachable. below (ne_eqb _ _ other) reachable;
      apart = λ none. by_source none (is_source g source v) refl;
    }
      where
        below : is_source g source v ≡ false → IsReachable g source v
            → IsLeastIdBefore g source v (pair s v).second
        below other reachable = record {
          member = by_known (grown.known v h other);
          least = λ id before. tight_least v id other (label_small v reachable) before;
        }
          where
            by_known : IsKnown g s v (pair s v) → IsIdBefore g source v (pair s v).second
            by_known (inl none) = absurd (omega (
              arith,
              label_small v reachable,
              ap (λ (d : Datum). d.first) none,
            ))
            by_known (inr came) = came_tight v h came

        most : IsOutOfReach g source v → label s v ≡ greatest
        most none = by_attained (least_label v h).attained
          where
            by_attained : IsWeightTo g source v (label s v)
                ⊎ ((label s v ≡ greatest) × IsOutOfReach g source v) → label s v ≡ greatest
            by_attained (inl way) = absurd (none (label s v, way))
            by_attained (inr (is, nothing)) = is

        by_source : IsOutOfReach g source v → (b : Bool) → is_source g source v ≡ b
            → pair s v ≡ unreached
        by_source none true at = absurd (omega (arith, most none, starts v h (eqb-true _ _ at)))
        by_source none false other = by_known (grown.known v h other)
          where
            by_known : IsKnown g s v (pair s v) → pair s v ≡ unreached
            by_known (inl nothing) = nothing
            by_known (inr (e, below, is, id, low, less)) = absurd (omega (arith, most none, less))

  pub rounds_grown : (limit : ℕ) → IsGrown g source (after_rounds (tree source) g limit)
  rounds_grown limit = rounds_keep (tree source) g (IsGrown g source)
      (λ s executes grown. step_grown g graph source s grown executes) limit
      (start_state (tree source) g) (start_grown g graph source)

  pub replay_grown : (journal : List JournalEntry)
      → IsGrown g source (after_journal (tree source) g journal)
  replay_grown journal = replay_keeps (tree source) g (IsGrown g source)
      (λ s executes grown. step_grown g graph source s grown executes) journal
      (start_state (tree source) g) (start_grown g graph source)

  -- each vertex before is nearer to the source, where no weight is 0
  module _ (values : List Datum) (some : HasNoZeroWeight g) (grows : HasTree g source values) where
    abbrev first : ℕ → ℕ
    first v = (datum_in values v).first

    -- a vertex before v
    abbrev Before : ℕ → Type 0
    Before v = (u : ℕ) × (u < length g.ids) × (slice_index g.ids u ≡ (datum_in values v).second)
        × (first u < first v) × IsReachable g source u

    before : (v : ℕ) → v < length g.ids → slice_index g.ids v ≢ source → IsReachable g source v
        → Before v
    before v h other reachable = by_member ((grows v h).before other reachable).member
      where
        by_member : IsIdBefore g source v (datum_in values v).second → Before v
        by_member (e, below, is, id, tight) = (
          end_at g Source e,
          here,
          id,
          omega (arith, from, to, some e below),
          by_attained tight.least.attained,
        )
          where
            here : end_at g Source e < length g.ids
            here = ends_within g graph Source e below

            from : tight.before ≡ first (end_at g Source e)
            from = least_unique g source (end_at g Source e) _ _ tight.least (grows _ here).weight

            to : tight.before + (edge_at g e).weight ≡ first v
            to = least_unique g source (end_at g Target e) _ _ tight.joined
                (grows _ (ends_within g graph Target e below)).weight ∙ ap first is

            by_attained : IsWeightTo g source (end_at g Source e) tight.before
                ⊎ ((tight.before ≡ greatest) × IsOutOfReach g source (end_at g Source e))
                → IsReachable g source (end_at g Source e)
            by_attained (inl way) = (tight.before, way)
            by_attained (inr (most, none)) = absurd (omega (arith, most, tight.below))

    abbrev Nearer : ℕ → Type 0
    Nearer v = (u : ℕ) → first u < first v → u < length g.ids → IsReachable g source u
        → LeadsBack g source values u

    leads : (n v : ℕ) → first v < n → v < length g.ids → IsReachable g source v
        → LeadsBack g source values v
    unfolding Follows
    leads zero v near h reachable = absurd (omega arith)
    leads (suc n) v near h reachable = by_source (is_source g source v) refl
        (λ u less inside way. leads n u (omega (arith, near, less)) inside way)
      where
        onward : (u : ℕ) → u < length g.ids → slice_index g.ids u ≡ (datum_in values v).second
            → LeadsBack g source values u → LeadsBack g source values v
        onward u inside id (end, within, is, way, follows) =
            (end, within, is, u ∷ way, (inside, id, follows))

        by_before : Before v → Nearer v → LeadsBack g source values v
        by_before (u, inside, id, less, reached) later = onward u inside id
            (later u less inside reached)

        by_source : (b : Bool) → is_source g source v ≡ b → Nearer v → LeadsBack g source values v
        by_source true at later = (v, h, eqb-true _ _ at, [], refl)
        by_source false other later = by_before (before v h (eqb-false _ _ other) reachable) later

    pub leads_back : AllLeadBack g source values
    leads_back v h reachable = leads (suc (first v)) v (omega arith) h reachable
