-- Each step of shortest paths keeps what their meaning rests on.
use Rattle.std.proofs.Common.{◌≡◌, ℕ, ◌<◌, ◌≤◌, ◌⊎◌, Bool, true, false, cond, Option, Some, None}
use Rattle.std.proofs.Common.{[]}
use Rattle.std.proofs.Common.{length, refl, sym, ◌∙◌, ap, subst, arith, inl, inr, List}
use Rattle.std.specs.Prelude.{slice_index, is_some, min, nat_lt, ◌==◌}
use Rattle.std.proofs.lemmas.Bool.{eq-eqb, eqb-true, true≢false, cases_lt, lt-ltb}
use Rattle.std.proofs.lemmas.Option.{same_Some}
use Rattle.pg_graph.specs.declared.edge.Side.{Side}
use Rattle.pg_graph.specs.declared.edge.Side.TheVariants.{Source, Target}
use Rattle.pg_graph.specs.declared.edge.Dir.TheVariants.{InEdges, OutEdges}
use Rattle.pg_graph.specs.Multigraph.{Multigraph, IsMultigraph, edge_at, end_at, opposite, takes}
use Rattle.pg_law.specs.declared.values.Datum.{Datum}
use Rattle.pg_law.specs.declared.values.JournalEntry.{JournalEntry}
use Rattle.pg_law.specs.Words.{greatest}
use Rattle.pg_law.specs.Program.{Program}
use Rattle.pg_law.specs.Laws.{IsOptional}
use Rattle.pg_law.specs.Configuration.{Configuration, message_in, is_signalled}
use Rattle.pg_law.specs.Configuration.{start_state, is_quiet}
use Rattle.pg_law.specs.Round.{fresh, outcome, join}
use Rattle.pg_law.proofs.Choices.{sent_own}
use Rattle.pg_steps.specs.Step.{step, applied_by, Executes, Turn}
use Rattle.pg_steps.specs.Reached.{after_rounds, after_journal}
use Rattle.pg_steps.proofs.Ends.{ends_within}
use Rattle.pg_steps.proofs.Gathering.{fresh_keeps, fresh_reaches}
use Rattle.pg_steps.proofs.Stepping.{turn_is, datum_kept, datum_new, stays_signalled}
use Rattle.pg_steps.proofs.Stepping.{scatter_wakes, message_stays, message_waits}
use Rattle.pg_steps.proofs.Resting.{quiet_silent}
use Rattle.pg_steps.proofs.Keeping.{start_datum, start_message, rounds_keep, replay_keeps}
use Rattle.pg_paths.specs.Plus.{plus}
use Rattle.pg_paths.specs.ShortestPaths.{shortest_paths}
use Rattle.pg_paths.specs.Walks.{IsWalk, HasLeastWeights}
use Rattle.pg_paths.proofs.Joining.{min_either}
use Rattle.pg_paths.proofs.Hearing.{label}
use Rattle.pg_paths.proofs.Walking.{IsHeardWeight, heard_more}
use Rattle.pg_paths.proofs.Bounding.{least_distance}

-- distances and messages are weights of walks, the source has its distance 0 or waits for it, and
-- the end of an edge that makes a shorter way is signalled
pub record IsReached (g : Multigraph) (source : ℕ) (s : Configuration) : Type 0 where
  pub distances : (v : ℕ) → v < length g.ids → IsHeardWeight g source v (label s v)
  pub messages : (v : ℕ) → v < length g.ids
      → IsOptional (IsHeardWeight g source v) (message_in s.messages v)
  pub start : (v : ℕ) → v < length g.ids → slice_index g.ids v ≡ source
      → (label s v ≡ 0) ⊎ (message_in s.messages v ≡ Some 0)
  pub farther : (e : ℕ) → e < length g.edges
      → plus (label s (end_at g Source e)) (edge_at g e).weight < label s (end_at g Target e)
      → is_signalled s (end_at g Target e) ≡ true

module _ (g : Multigraph) (graph : IsMultigraph g) (source : ℕ) where
  abbrev program : Program ℕ Bool
  program = shortest_paths source

  pub start_reached : IsReached g source (start_state (shortest_paths source) g)
  unfolding IsWalk
  start_reached = record {
    distances = λ v h. inl (most v h);
    messages = λ v h. subst (IsOptional (IsHeardWeight g source v))
        (sym (start_message program g v h)) (own v h (slice_index g.ids v == source) refl);
    start = λ v h is. inr (start_message program g v h
        ∙ ap (λ b. cond b (Some 0) None) (eq-eqb (slice_index g.ids v) source is));
    farther = λ e h less. absurd (omega (
      arith,
      less,
      most _ (ends_within g graph Source e h),
      most _ (ends_within g graph Target e h),
    ));
  }
    where
      most : (v : ℕ) → v < length g.ids → label (start_state program g) v ≡ greatest
      most v h = ap (λ (d : Datum). d.first) (start_datum program g v h)

      own : (v : ℕ) → v < length g.ids → (b : Bool) → (slice_index g.ids v == source) ≡ b
          → IsOptional (IsHeardWeight g source v) (cond b (Some 0) None)
      own v h true same = inr (v, h, eqb-true _ _ same, [], refl, refl)
      own v h false same = tt

  module _ (s : Configuration) (reached : IsReached g source s) (executes : ℕ → Bool) where
    abbrev after : Configuration
    after = step (shortest_paths source) g s executes

    abbrev Turns : ℕ → Type 0
    Turns v = Turn (shortest_paths source) g s executes v

    turns : (v : ℕ) → Turns v
    turns v = turn_is program g graph s executes v

    abbrev gathers : ℕ → ℕ
    gathers v = fresh (shortest_paths source) g s v

    -- what an edge makes of the distance of its source
    abbrev offer : Configuration → ℕ → ℕ
    offer s e = plus (label s (end_at g Source e)) (edge_at g e).weight

    -- a vertex gathers no more than that
    gathers_below : (e : ℕ) → e < length g.edges → gathers (end_at g Target e) ≤ offer s e
    gathers_below e h = fresh_reaches program g graph s (λ (a : ℕ). a ≤ offer s e) Target e h refl
        (λ a b before. omega arith) (λ a. omega arith)

    -- and hears of weights of walks alone
    gathers_heard : (v : ℕ) → IsHeardWeight g source v (gathers v)
    gathers_heard v = fresh_keeps program g graph s (IsHeardWeight g source v) v (inl refl)
        (λ a side e h is takes before. over side e h is takes a before)
      where
        over : (side : Side) (e : ℕ) → e < length g.edges → end_at g side e ≡ v
            → takes InEdges side ≡ true → (a : ℕ) → IsHeardWeight g source v a
            → IsHeardWeight g source v
            (min a (plus (label s (end_at g (opposite side) e)) (edge_at g e).weight))
        over Source e h is takes a before = absurd (true≢false (sym takes))
        over Target e h is takes a before = min_either (IsHeardWeight g source v) a (offer s e)
            before (subst (λ (w : ℕ). IsHeardWeight g source w (offer s e)) is
            (heard_more g source e _ h (reached.distances _ (ends_within g graph Source e h))))

    label_kept : (v : ℕ) → v < length g.ids → outcome program g s executes v ≡ None
        → label after v ≡ label s v
    label_kept v h idle = ap (λ (d : Datum). d.first)
        (datum_kept program g graph s executes v h idle)

    label_new : (v m : ℕ) → v < length g.ids
        → outcome program g s executes v ≡ Some (applied_by program g s v m)
        → label after v ≡ min (label s v) (min (gathers v) m)
    label_new v m h is = ap (λ (d : Datum). d.first)
        (datum_new program g graph s executes v (applied_by program g s v m) h is)

    label_falls : (v : ℕ) → v < length g.ids → label after v ≤ label s v
    label_falls v h = by_turn (turns v)
      where
        by_turn : Turns v → label after v ≤ label s v
        by_turn (inl idle) = omega (arith, label_kept v h idle)
        by_turn (inr (m, waits, is)) = omega (arith, label_new v m h is)

    distances_heard : (v : ℕ) → v < length g.ids → IsHeardWeight g source v (label after v)
    distances_heard v h = by_turn (turns v)
      where
        by_turn : Turns v → IsHeardWeight g source v (label after v)
        by_turn (inl idle) = subst (IsHeardWeight g source v) (sym (label_kept v h idle))
            (reached.distances v h)
        by_turn (inr (m, waits, is)) = subst (IsHeardWeight g source v) (sym (label_new v m h is))
            (min_either (IsHeardWeight g source v) (label s v) _ (reached.distances v h)
            (min_either (IsHeardWeight g source v) (gathers v) m (gathers_heard v)
            (subst (IsOptional (IsHeardWeight g source v)) waits (reached.messages v h))))

    messages_heard : (v : ℕ) → v < length g.ids
        → IsOptional (IsHeardWeight g source v) (message_in after.messages v)
    messages_heard v h = message_stays program g graph s executes (IsHeardWeight g source v) v h
        (min_either (IsHeardWeight g source v)) (reached.messages v h) (λ m. tt)
        (λ side e word applied below is runs scatters. over side e below is scatters)
      where
        over : (side : Side) (e : ℕ) → e < length g.edges → end_at g (opposite side) e ≡ v
            → takes OutEdges side ≡ true → IsOptional (IsHeardWeight g source v)
            (cond (nat_lt (plus (label after (end_at g side e)) (edge_at g e).weight)
            (label after (end_at g (opposite side) e)))
            (Some (plus (label after (end_at g side e)) (edge_at g e).weight)) None)
        over Source e below is scatters = sent_own (IsHeardWeight g source v)
            (nat_lt (offer after e) (label after (end_at g Target e))) (offer after e)
            (subst (λ (w : ℕ). IsHeardWeight g source w (offer after e)) is
            (heard_more g source e _ below
            (distances_heard _ (ends_within g graph Source e below))))
        over Target e below is scatters = absurd (true≢false (sym scatters))

    -- the source has 0, or a message of 0 waits there
    source_kept : (v : ℕ) → v < length g.ids → slice_index g.ids v ≡ source
        → (label after v ≡ 0) ⊎ (message_in after.messages v ≡ Some 0)
    source_kept v h is_source = by_before (reached.start v h is_source) (turns v)
      where
        zero_stays : (m more : Option ℕ) → m ≡ Some 0 → join (λ a b. min a b) m more ≡ Some 0
        zero_stays m None e = rw e refl
        zero_stays m (Some b) e = rw e (ap Some (omega arith))

        by_before : (label s v ≡ 0) ⊎ (message_in s.messages v ≡ Some 0) → Turns v
            → (label after v ≡ 0) ⊎ (message_in after.messages v ≡ Some 0)
        by_before (inl none) turn = inl (omega (arith, none, label_falls v h))
        by_before (inr waits) (inl idle) = inr (message_waits program g graph s executes
            (λ (m : Option ℕ). m ≡ Some 0) v h idle zero_stays waits)
        by_before (inr waits) (inr (m, has, is)) =
            let none : m ≡ 0 = same_Some m 0 (sym has ∙ waits) in
            inl (omega (arith, label_new v m h is, none))

    -- a vertex that executed signals a neighbour to which it has a shorter way
    signals : (e : ℕ) → e < length g.edges → Executes program g s executes (end_at g Source e)
        → offer after e < label after (end_at g Target e)
        → is_signalled after (end_at g Target e) ≡ true
    signals e h (m, waits, is) less = scatter_wakes program g graph s executes Source e
        (applied_by program g s (end_at g Source e) m) h is refl (λ word. ap (λ (b : Bool).
        is_some (cond b (Some (offer after e)) None)) (lt-ltb _ _ less))

    farther_signalled : (e : ℕ) → e < length g.edges
        → offer after e < label after (end_at g Target e)
        → is_signalled after (end_at g Target e) ≡ true
    farther_signalled e h less = by_turns (turns (end_at g Source e)) (turns (end_at g Target e))
      where
        here : end_at g Source e < length g.ids
        here = ends_within g graph Source e h

        there : end_at g Target e < length g.ids
        there = ends_within g graph Target e h

        by_turns : Turns (end_at g Source e) → Turns (end_at g Target e)
            → is_signalled after (end_at g Target e) ≡ true
        by_turns (inr runs) other = signals e h runs less
        by_turns (inl idle) (inr (m, waits, is)) = absurd (omega (
          arith,
          less,
          label_kept _ here idle,
          label_new _ m there is,
          gathers_below e h,
        ))
        by_turns (inl idle) (inl rests) =
            let before : offer s e < label s (end_at g Target e)
            = omega (arith, less, label_kept _ here idle, label_kept _ there rests) in
            stays_signalled program g graph s executes (end_at g Target e) there rests
            (reached.farther e h before)

    pub step_reached : IsReached g source after
    step_reached = record {
      distances = distances_heard;
      messages = messages_heard;
      start = source_kept;
      farther = farther_signalled;
    }

  -- without signals no edge makes a shorter way, so distances are least weights
  pub quiet_shortest : (s : Configuration) → IsReached g source s → is_quiet g s ≡ true
      → HasLeastWeights g source s.values
  quiet_shortest s reached quiet v h = least_distance g graph (label s) short source starts v
      (reached.distances v h)
    where
      silent : (u : ℕ) → u < length g.ids → is_signalled s u ≡ true → ⊥
      silent u inside signal = true≢false (sym signal ∙ quiet_silent g s quiet u inside)

      starts : (u : ℕ) → u < length g.ids → slice_index g.ids u ≡ source → label s u ≡ 0
      starts u inside is = by_start (reached.start u inside is)
        where
          by_start : (label s u ≡ 0) ⊎ (message_in s.messages u ≡ Some 0) → label s u ≡ 0
          by_start (inl none) = none
          by_start (inr waits) = absurd (silent u inside (ap is_some waits))

      short : (e : ℕ) → e < length g.edges
          → label s (end_at g Target e) ≤ plus (label s (end_at g Source e)) (edge_at g e).weight
      short e below = by_order (cases_lt (plus (label s (end_at g Source e)) (edge_at g e).weight)
          (label s (end_at g Target e)))
        where
          by_order : (plus (label s (end_at g Source e)) (edge_at g e).weight
              < label s (end_at g Target e)) ⊎ (label s (end_at g Target e)
              ≤ plus (label s (end_at g Source e)) (edge_at g e).weight)
              → label s (end_at g Target e)
              ≤ plus (label s (end_at g Source e)) (edge_at g e).weight
          by_order (inl less) = absurd (silent _ (ends_within g graph Target e below)
              (reached.farther e below less))
          by_order (inr le) = le

  pub rounds_reached : (limit : ℕ)
      → IsReached g source (after_rounds (shortest_paths source) g limit)
  rounds_reached limit = rounds_keep program g (IsReached g source)
      (λ s executes reached. step_reached s reached executes) limit (start_state program g)
      start_reached

  pub replay_reached : (journal : List JournalEntry)
      → IsReached g source (after_journal (shortest_paths source) g journal)
  replay_reached journal = replay_keeps program g (IsReached g source)
      (λ s executes reached. step_reached s reached executes) journal (start_state program g)
      start_reached
