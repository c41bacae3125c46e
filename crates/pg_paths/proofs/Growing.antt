-- Each step of a tree keeps what its meaning rests on.
use Rattle.std.proofs.Common.{◌≡◌, ℕ, ◌<◌, ◌≤◌, ◌⊎◌, Bool, true, false, cond, Option, Some, None}
use Rattle.std.proofs.Common.{[], length, refl, sym, ◌∙◌, ap, subst, arith, inl, inr}
use Rattle.std.specs.Prelude.{slice_index, is_some, ◌==◌}
use Rattle.std.proofs.lemmas.Bool.{eqb-true, eqb-false, true≢false}
use Rattle.pg_graph.specs.declared.edge.Side.{Side}
use Rattle.pg_graph.specs.declared.edge.Side.TheVariants.{Source, Target}
use Rattle.pg_graph.specs.declared.edge.Dir.TheVariants.{InEdges}
use Rattle.pg_graph.specs.Multigraph.{Multigraph, IsMultigraph, edge_at, edge_info, end_at}
use Rattle.pg_graph.specs.Multigraph.{opposite, takes}
use Rattle.pg_law.specs.declared.values.Datum.{Datum}
use Rattle.pg_law.specs.Values.{two}
use Rattle.pg_law.specs.Words.{greatest}
use Rattle.pg_law.specs.Program.{Program}
use Rattle.pg_law.specs.Configuration.{Configuration, datum_in, is_signalled, start_state}
use Rattle.pg_law.specs.Round.{fresh, outcome}
use Rattle.pg_steps.specs.Step.{step, applied_by, Executes, Turn}
use Rattle.pg_steps.proofs.Ends.{ends_within}
use Rattle.pg_steps.proofs.Gathering.{fresh_keeps, fresh_reaches}
use Rattle.pg_steps.proofs.Stepping.{turn_is, datum_kept, datum_new, stays_signalled}
use Rattle.pg_steps.proofs.Stepping.{scatter_wakes}
use Rattle.pg_steps.proofs.Keeping.{start_datum, start_message}
use Rattle.pg_paths.specs.Plus.{plus}
use Rattle.pg_paths.specs.Pairs.{is_below, smaller_pair, unreached}
use Rattle.pg_paths.specs.PairsLaws.{smaller_first}
use Rattle.pg_paths.specs.Trees.{tree, offered}
use Rattle.pg_paths.specs.Walks.{IsWalk}
use Rattle.pg_paths.proofs.Hearing.{label}
use Rattle.pg_paths.proofs.Walking.{IsHeardWeight, heard_more}
use Rattle.pg_paths.proofs.Offers.{left_low, right_low, self_low, smaller_either, via_first}
use Rattle.pg_paths.proofs.Offers.{via_none, none_low}

abbrev pub pair : Configuration → ℕ → Datum
pair s v = datum_in s.values v

-- what an edge offers to its target
abbrev pub offer : Multigraph → Configuration → ℕ → Datum
offer g s e = offered (edge_info g e) (pair s (end_at g Source e))

abbrev pub is_source : Multigraph → ℕ → ℕ → Bool
is_source g source v = slice_index g.ids v == source

-- the pair came over an edge to v, whose source has got no farther since then
abbrev pub Came : Multigraph → Configuration → ℕ → Datum → Type 0
Came g s v d = (e : ℕ) × (e < length g.edges) × (end_at g Target e ≡ v)
    × (slice_index g.ids (end_at g Source e) ≡ d.second)
    × (plus (label s (end_at g Source e)) (edge_at g e).weight ≤ d.first) × (d.first < greatest)

abbrev pub IsKnown : Multigraph → Configuration → ℕ → Datum → Type 0
IsKnown g s v d = (d ≡ unreached) ⊎ Came g s v d

-- lengths are weights of walks, the source has its own pair or is signalled, all others have pairs
-- that came over edges, and a vertex that is offered a smaller one is signalled
pub record IsGrown (g : Multigraph) (source : ℕ) (s : Configuration) : Type 0 where
  pub lengths : (v : ℕ) → v < length g.ids → IsHeardWeight g source v (label s v)
  pub root : (v : ℕ) → v < length g.ids → is_source g source v ≡ true
      → (pair s v ≡ two 0 source) ⊎ (is_signalled s v ≡ true)
  pub known : (v : ℕ) → v < length g.ids → is_source g source v ≡ false
      → IsKnown g s v (pair s v)
  pub lower : (e : ℕ) → e < length g.edges → is_source g source (end_at g Target e) ≡ false
      → is_below (offer g s e) (pair s (end_at g Target e)) ≡ true
      → is_signalled s (end_at g Target e) ≡ true

module _ (g : Multigraph) (graph : IsMultigraph g) (source : ℕ) where
  abbrev program : Program Datum Bool
  program = tree source

  start_is : (v : ℕ) → v < length g.ids → pair (start_state (tree source) g) v ≡ unreached
  start_is v h = start_datum program g v h

  pub start_grown : IsGrown g source (start_state (tree source) g)
  start_grown = record {
    lengths = λ v h. inl (ap (λ (d : Datum). d.first) (start_is v h));
    root = λ v h is. inr (ap is_some (start_message program g v h) ∙ ap (λ b. is_some (sent b)) is);
    known = λ v h other. inl (start_is v h);
    lower = λ e h other less. absurd (true≢false (sym less ∙ none_below e h));
  }
    where
      sent : Bool → Option ℕ
      sent b = cond b (Some 0) None

      none_below : (e : ℕ) → e < length g.edges → is_below (offer g (start_state (tree source) g) e)
          (pair (start_state (tree source) g) (end_at g Target e)) ≡ false
      none_below e h = ap (is_below (offer g (start_state (tree source) g) e))
          (start_is _ (ends_within g graph Target e h))
          ∙ none_low _ (ap (λ d. offered (edge_info g e) d)
          (start_is _ (ends_within g graph Source e h)) ∙ via_none (edge_at g e).weight _)

  module _ (s : Configuration) (grown : IsGrown g source s) (executes : ℕ → Bool) where
    abbrev after : Configuration
    after = step (tree source) g s executes

    abbrev Turns : ℕ → Type 0
    Turns v = Turn (tree source) g s executes v

    turns : (v : ℕ) → Turns v
    turns v = turn_is program g graph s executes v

    abbrev gathers : ℕ → Datum
    gathers v = fresh (tree source) g s v

    -- what an edge offers isn't below what its target gathers
    gathers_low : (e : ℕ) → e < length g.edges
        → is_below (offer g s e) (gathers (end_at g Target e)) ≡ false
    gathers_low e h = fresh_reaches program g graph s
        (λ (d : Datum). is_below (offer g s e) d ≡ false) Target e h refl
        (λ a b before. left_low (offer g s e) a b before)
        (λ a. self_low (offer g s e) a)

    -- what is gathered is of a walk, and came over an edge
    gathers_heard : (v : ℕ) → IsHeardWeight g source v (gathers v).first
    gathers_heard v = fresh_keeps program g graph s
        (λ (d : Datum). IsHeardWeight g source v d.first) v (inl refl)
        (λ a side e h is takes before. over side e h is takes a before)
      where
        over : (side : Side) (e : ℕ) → e < length g.edges → end_at g side e ≡ v
            → takes InEdges side ≡ true → (a : Datum) → IsHeardWeight g source v a.first
            → IsHeardWeight g source v
            (smaller_pair a (offered (edge_info g e) (pair s (end_at g (opposite side) e)))).first
        over Source e h is takes a before = absurd (true≢false (sym takes))
        over Target e h is takes a before =
            smaller_either (λ (d : Datum). IsHeardWeight g source v d.first) a (offer g s e) before
            (subst (IsHeardWeight g source v)
            (sym (via_first (label s (end_at g Source e)) (edge_at g e).weight _))
            (subst (λ (w : ℕ). IsHeardWeight g source w
            (plus (label s (end_at g Source e)) (edge_at g e).weight)) is
            (heard_more g source e _ h (grown.lengths _ (ends_within g graph Source e h)))))

    offer_known : (e : ℕ) → e < length g.edges → IsKnown g s (end_at g Target e) (offer g s e)
    offer_known e h = by_length
        (plus (label s (end_at g Source e)) (edge_at g e).weight == greatest) refl
      where
        by_length : (b : Bool)
            → (plus (label s (end_at g Source e)) (edge_at g e).weight == greatest) ≡ b
            → IsKnown g s (end_at g Target e) (cond b unreached
            (two (plus (label s (end_at g Source e)) (edge_at g e).weight)
            (slice_index g.ids (end_at g Source e))))
        by_length true most = inl refl
        by_length false less = inr (e, h, refl, refl, omega arith, small)
          where
            small : plus (label s (end_at g Source e)) (edge_at g e).weight < greatest
            small = omega (arith, eqb-false _ _ less)

    gathers_known : (v : ℕ) → IsKnown g s v (gathers v)
    gathers_known v = fresh_keeps program g graph s (IsKnown g s v) v (inl refl)
        (λ a side e h is takes before. over side e h is takes a before)
      where
        over : (side : Side) (e : ℕ) → e < length g.edges → end_at g side e ≡ v
            → takes InEdges side ≡ true → (a : Datum) → IsKnown g s v a → IsKnown g s v
            (smaller_pair a (offered (edge_info g e) (pair s (end_at g (opposite side) e))))
        over Source e h is takes a before = absurd (true≢false (sym takes))
        over Target e h is takes a before = smaller_either (IsKnown g s v) a (offer g s e) before
            (subst (λ (w : ℕ). IsKnown g s w (offer g s e)) is (offer_known e h))

    pair_kept : (v : ℕ) → v < length g.ids → outcome program g s executes v ≡ None
        → pair after v ≡ pair s v
    pair_kept v h idle = datum_kept program g graph s executes v h idle

    pair_new : (v m : ℕ) → v < length g.ids
        → outcome program g s executes v ≡ Some (applied_by program g s v m)
        → pair after v ≡ cond (is_source g source v) (two 0 (slice_index g.ids v))
        (smaller_pair (pair s v) (gathers v))
    pair_new v m h is = datum_new program g graph s executes v (applied_by program g s v m) h is

    -- the source, and any other vertex, that executes
    root_new : (v m : ℕ) → v < length g.ids → is_source g source v ≡ true
        → outcome program g s executes v ≡ Some (applied_by program g s v m)
        → pair after v ≡ two 0 source
    root_new v m h here is = pair_new v m h is
        ∙ ap (λ b. cond b (two 0 (slice_index g.ids v)) (smaller_pair (pair s v) (gathers v))) here
        ∙ ap (two 0) (eqb-true _ _ here)

    other_new : (v m : ℕ) → v < length g.ids → is_source g source v ≡ false
        → outcome program g s executes v ≡ Some (applied_by program g s v m)
        → pair after v ≡ smaller_pair (pair s v) (gathers v)
    other_new v m h other is = pair_new v m h is
        ∙ ap (λ b. cond b (two 0 (slice_index g.ids v)) (smaller_pair (pair s v) (gathers v))) other

    first_of : {a b : Datum} → a ≡ b → a.first ≡ b.first
    first_of e = ap (λ (d : Datum). d.first) e

    label_falls : (v : ℕ) → v < length g.ids → label after v ≤ label s v
    label_falls v h = by_turn (is_source g source v) refl (turns v)
      where
        by_turn : (b : Bool) → is_source g source v ≡ b → Turns v → label after v ≤ label s v
        by_turn b at (inl idle) = omega (arith, first_of (pair_kept v h idle))
        by_turn true at (inr (m, waits, is)) = omega (arith, first_of (root_new v m h at is))
        by_turn false at (inr (m, waits, is)) = omega (
          arith,
          first_of (other_new v m h at is),
          smaller_first (pair s v) (gathers v),
        )

    lengths_heard : (v : ℕ) → v < length g.ids → IsHeardWeight g source v (label after v)
    unfolding IsWalk
    lengths_heard v h = by_turn (is_source g source v) refl (turns v)
      where
        by_turn : (b : Bool) → is_source g source v ≡ b → Turns v
            → IsHeardWeight g source v (label after v)
        by_turn b at (inl idle) = subst (IsHeardWeight g source v)
            (sym (first_of (pair_kept v h idle))) (grown.lengths v h)
        by_turn true at (inr (m, waits, is)) = subst (IsHeardWeight g source v)
            (sym (first_of (root_new v m h at is))) (inr (v, h, eqb-true _ _ at, [], refl, refl))
        by_turn false at (inr (m, waits, is)) = subst (IsHeardWeight g source v)
            (sym (first_of (other_new v m h at is)))
            (smaller_either (λ (d : Datum). IsHeardWeight g source v d.first) (pair s v) (gathers v)
            (grown.lengths v h) (gathers_heard v))

    root_kept : (v : ℕ) → v < length g.ids → is_source g source v ≡ true
        → (pair after v ≡ two 0 source) ⊎ (is_signalled after v ≡ true)
    root_kept v h at = by_turn (grown.root v h at) (turns v)
      where
        by_turn : (pair s v ≡ two 0 source) ⊎ (is_signalled s v ≡ true) → Turns v
            → (pair after v ≡ two 0 source) ⊎ (is_signalled after v ≡ true)
        by_turn before (inr (m, waits, is)) = inl (root_new v m h at is)
        by_turn (inl own) (inl idle) = inl (pair_kept v h idle ∙ own)
        by_turn (inr some) (inl idle) =
            inr (stays_signalled program g graph s executes v h idle some)

    known_kept : (v : ℕ) → v < length g.ids → is_source g source v ≡ false
        → IsKnown g after v (pair after v)
    known_kept v h other = by_turn (turns v)
      where
        later : (d : Datum) → IsKnown g s v d → IsKnown g after v d
        later d (inl none) = inl none
        later d (inr (e, below, is, id, low, less)) = inr (
          e,
          below,
          is,
          id,
          omega (arith, low, label_falls _ (ends_within g graph Source e below)),
          less,
        )

        by_turn : Turns v → IsKnown g after v (pair after v)
        by_turn (inl idle) = subst (IsKnown g after v) (sym (pair_kept v h idle))
            (later (pair s v) (grown.known v h other))
        by_turn (inr (m, waits, is)) = subst (IsKnown g after v) (sym (other_new v m h other is))
            (later _ (smaller_either (IsKnown g s v) (pair s v) (gathers v)
            (grown.known v h other) (gathers_known v)))

    -- a vertex that executed signals a neighbour to which it offers a smaller pair
    signals : (e : ℕ) → e < length g.edges → Executes program g s executes (end_at g Source e)
        → is_below (offer g after e) (pair after (end_at g Target e)) ≡ true
        → is_signalled after (end_at g Target e) ≡ true
    signals e h (m, waits, is) less = scatter_wakes program g graph s executes Source e
        (applied_by program g s (end_at g Source e) m) h is refl (λ word. ap (λ (b : Bool). is_some
        (cond b (Some (plus (label after (end_at g Source e)) (edge_at g e).weight)) None)) less)

    lower_signalled : (e : ℕ) → e < length g.edges
        → is_source g source (end_at g Target e) ≡ false
        → is_below (offer g after e) (pair after (end_at g Target e)) ≡ true
        → is_signalled after (end_at g Target e) ≡ true
    lower_signalled e h other less = by_turns (turns (end_at g Source e))
        (turns (end_at g Target e))
      where
        here : end_at g Source e < length g.ids
        here = ends_within g graph Source e h

        there : end_at g Target e < length g.ids
        there = ends_within g graph Target e h

        same_offer : outcome program g s executes (end_at g Source e) ≡ None
            → offer g after e ≡ offer g s e
        same_offer idle = ap (offered (edge_info g e)) (pair_kept _ here idle)

        by_turns : Turns (end_at g Source e) → Turns (end_at g Target e)
            → is_signalled after (end_at g Target e) ≡ true
        by_turns (inr runs) turn = signals e h runs less
        by_turns (inl idle) (inr (m, waits, is)) = absurd (true≢false (sym less
            ∙ ap (λ o. is_below o (pair after (end_at g Target e))) (same_offer idle)
            ∙ ap (is_below (offer g s e)) (other_new _ m there other is)
            ∙ right_low (offer g s e) _ _ (gathers_low e h)))
        by_turns (inl idle) (inl rests) =
            stays_signalled program g graph s executes (end_at g Target e) there rests
            (grown.lower e h other (sym (ap (λ o. is_below o (pair after (end_at g Target e)))
            (same_offer idle) ∙ ap (is_below (offer g s e)) (pair_kept _ there rests)) ∙ less))

    pub step_grown : IsGrown g source after
    step_grown = record {
      lengths = lengths_heard;
      root = root_kept;
      known = known_kept;
      lower = lower_signalled;
    }
