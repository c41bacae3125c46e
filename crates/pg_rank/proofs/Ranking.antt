-- At tolerance 0 each vertex is signalled or has the rank of its gather, whatever step is made.
use Rattle.std.proofs.Common.{◌≡◌, ℕ, ◌<◌, ◌⊎◌, Bool, true, false, Option, Some, None, cond, List}
use Rattle.std.proofs.Common.{length, refl, sym, ◌∙◌, ap, arith, inl, inr}
use Rattle.std.specs.Prelude.{is_some, nat_lt, ◌/◌}
use Rattle.std.proofs.lemmas.Bool.{true≢false}
use Rattle.std.proofs.lemmas.Bool.Decides.{nat_tests}
use Rattle.pg_graph.specs.declared.edge.Side.{Side}
use Rattle.pg_graph.specs.declared.edge.Side.TheVariants.{Source, Target}
use Rattle.pg_graph.specs.declared.edge.Dir.TheVariants.{InEdges}
use Rattle.pg_graph.specs.Multigraph.{Multigraph, IsMultigraph, end_at, opposite, takes, info}
use Rattle.pg_law.specs.declared.values.Datum.{Datum}
use Rattle.pg_law.specs.declared.values.JournalEntry.{JournalEntry}
use Rattle.pg_law.specs.Configuration.{Configuration, is_signalled, start_state, is_quiet}
use Rattle.pg_law.specs.Round.{fresh, outcome}
use Rattle.pg_steps.specs.Step.{step, applied_by, Executes, Turn}
use Rattle.pg_steps.specs.Reached.{after_rounds, after_journal}
use Rattle.pg_steps.proofs.Ends.{ends_within}
use Rattle.pg_steps.proofs.Gathering.{fresh_same}
use Rattle.pg_steps.proofs.Stepping.{turn_is, datum_kept, datum_new, stays_signalled}
use Rattle.pg_steps.proofs.Stepping.{scatter_wakes}
use Rattle.pg_steps.proofs.Resting.{quiet_silent}
use Rattle.pg_steps.proofs.Keeping.{start_message, rounds_keep, replay_keeps}
use Rattle.pg_rank.specs.Shares.{distance, rank}
use Rattle.pg_rank.specs.PageRank.{page_rank}
use Rattle.pg_rank.specs.RankEquation.{rank_in, brought_to, MeetEquations}
use Rattle.pg_rank.proofs.Bringing.{fresh_brought}

-- a vertex is signalled, or has the rank of what it gathers
abbrev pub IsSettled : Multigraph → Configuration → ℕ → Type 0
IsSettled g s v = (is_signalled s v ≡ true)
    ⊎ (rank_in s.values v ≡ rank (fresh (page_rank 0) g s v))

abbrev pub AreSettled : Multigraph → Configuration → Type 0
AreSettled g s = (v : ℕ) → v < length g.ids → IsSettled g s v

module _ (g : Multigraph) (graph : IsMultigraph g) where
  start_settled : AreSettled g (start_state (page_rank 0) g)
  start_settled v h = inl (ap is_some (start_message (page_rank 0) g v h))

  module _ (s : Configuration) (settled : AreSettled g s) (executes : ℕ → Bool) where
    abbrev after : Configuration
    after = step (page_rank 0) g s executes

    abbrev Turns : ℕ → Type 0
    Turns v = Turn (page_rank 0) g s executes v

    turns : (v : ℕ) → Turns v
    turns v = turn_is (page_rank 0) g graph s executes v

    abbrev gathers : ℕ → ℕ
    gathers v = fresh (page_rank 0) g s v

    rank_kept : (v : ℕ) → v < length g.ids → outcome (page_rank 0) g s executes v ≡ None
        → rank_in after.values v ≡ rank_in s.values v
    rank_kept v h idle = ap (λ (d : Datum). d.first)
        (datum_kept (page_rank 0) g graph s executes v h idle)

    rank_new : (v m : ℕ) → v < length g.ids
        → outcome (page_rank 0) g s executes v ≡ Some (applied_by (page_rank 0) g s v m)
        → rank_in after.values v ≡ rank (gathers v)
    rank_new v m h is = ap (λ (d : Datum). d.first) (datum_new (page_rank 0) g graph s executes v
        (applied_by (page_rank 0) g s v m) h is)

    -- a vertex that executed and has another rank than before signals where its edges lead
    abbrev moved : ℕ → Bool
    moved u = nat_lt 0 (distance (rank (gathers u)) (rank_in s.values u))

    signals : (e : ℕ) → e < length g.edges → Executes (page_rank 0) g s executes (end_at g Source e)
        → moved (end_at g Source e) ≡ true → is_signalled after (end_at g Target e) ≡ true
    signals e h (m, waits, is) more = let woken : Option ℕ = Some 0 in
        scatter_wakes (page_rank 0) g graph s executes Source e
        (applied_by (page_rank 0) g s (end_at g Source e) m) h is refl
        (λ word. ap (λ (b : Bool). is_some (cond b woken None)) more)

    -- so where a vertex isn't signalled, all that it hears of have their ranks of before
    source_kept : (e : ℕ) → e < length g.edges → is_signalled after (end_at g Target e) ≡ false
        → rank_in after.values (end_at g Source e) ≡ rank_in s.values (end_at g Source e)
    source_kept e h silent = by_turn (turns (end_at g Source e))
      where
        here : end_at g Source e < length g.ids
        here = ends_within g graph Source e h

        apart : (new old : ℕ) → nat_lt 0 (distance new old) ≡ false → new ≡ old
        apart new old near = grind (arith, nat_tests)

        by_move : Executes (page_rank 0) g s executes (end_at g Source e) → (b : Bool)
            → moved (end_at g Source e) ≡ b
            → rank (gathers (end_at g Source e)) ≡ rank_in s.values (end_at g Source e)
        by_move runs true more = absurd (true≢false (sym (signals e h runs more) ∙ silent))
        by_move runs false near = apart _ _ near

        by_turn : Turns (end_at g Source e)
            → rank_in after.values (end_at g Source e) ≡ rank_in s.values (end_at g Source e)
        by_turn (inl idle) = rank_kept _ here idle
        by_turn (inr (m, waits, is)) = rank_new _ m here is
            ∙ by_move (m, waits, is) (moved (end_at g Source e)) refl

    gathers_same : (v : ℕ) → is_signalled after v ≡ false
        → gathers v ≡ fresh (page_rank 0) g after v
    gathers_same v silent = fresh_same (page_rank 0) g graph s after v over
      where
        over : (side : Side) (e : ℕ) → e < length g.edges → end_at g side e ≡ v
            → takes InEdges side ≡ true
            → rank_in s.values (end_at g (opposite side) e)
            / (info g (end_at g Source e)).out_degree
            ≡ rank_in after.values (end_at g (opposite side) e)
            / (info g (end_at g Source e)).out_degree
        over Source e h is takes = absurd (true≢false (sym takes))
        over Target e h is takes = ap (λ r. r / (info g (end_at g Source e)).out_degree)
            (sym (source_kept e h (ap (is_signalled after) is ∙ silent)))

    step_settled : AreSettled g after
    step_settled v h = by_signal (is_signalled after v) refl
      where
        by_before : is_signalled after v ≡ false → outcome (page_rank 0) g s executes v ≡ None
            → IsSettled g s v → rank_in s.values v ≡ rank (gathers v)
        by_before silent idle (inl some) = absurd (true≢false (sym
            (stays_signalled (page_rank 0) g graph s executes v h idle some) ∙ silent))
        by_before silent idle (inr meets) = meets

        by_turn : is_signalled after v ≡ false → Turns v → rank_in after.values v ≡ rank (gathers v)
        by_turn silent (inl idle) = rank_kept v h idle ∙ by_before silent idle (settled v h)
        by_turn silent (inr (m, waits, is)) = rank_new v m h is

        by_signal : (b : Bool) → is_signalled after v ≡ b → IsSettled g after v
        by_signal true some = inl some
        by_signal false silent = inr (by_turn silent (turns v) ∙ ap rank (gathers_same v silent))

  pub quiet_meets : (s : Configuration) → AreSettled g s → is_quiet g s ≡ true
      → MeetEquations g s.values
  quiet_meets s settled quiet v h = by_settled (settled v h)
    where
      by_settled : IsSettled g s v → rank_in s.values v ≡ rank (brought_to g s.values v)
      by_settled (inl some) = absurd (true≢false (sym some ∙ quiet_silent g s quiet v h))
      by_settled (inr meets) = meets ∙ ap rank (fresh_brought 0 g graph s v)

  pub rounds_settled : (limit : ℕ) → AreSettled g (after_rounds (page_rank 0) g limit)
  rounds_settled limit = rounds_keep (page_rank 0) g (AreSettled g)
      (λ s executes settled. step_settled s settled executes) limit
      (start_state (page_rank 0) g) start_settled

  pub replay_settled : (journal : List JournalEntry)
      → AreSettled g (after_journal (page_rank 0) g journal)
  replay_settled journal = replay_keeps (page_rank 0) g (AreSettled g)
      (λ s executes settled. step_settled s settled executes) journal
      (start_state (page_rank 0) g) start_settled
