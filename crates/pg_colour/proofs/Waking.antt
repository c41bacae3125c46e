-- Of two neighbours of one colour one is signalled, whatever step is made.
use Rattle.std.proofs.Common.{◌≡◌, ℕ, ◌<◌, Bool, true, Option, Some, None, cond, List, length}
use Rattle.std.proofs.Common.{refl, sym}
use Rattle.std.proofs.Common.{◌∙◌, ap, inl, inr}
use Rattle.std.specs.Prelude.{is_some}
use Rattle.std.proofs.lemmas.Bool.{eq-eqb, true≢false}
use Rattle.pg_graph.specs.declared.edge.Side.{Side}
use Rattle.pg_graph.specs.declared.edge.Side.TheVariants.{Source, Target}
use Rattle.pg_graph.specs.Multigraph.{Multigraph, IsMultigraph, end_at, opposite}
use Rattle.pg_law.specs.declared.values.Datum.{Datum}
use Rattle.pg_law.specs.declared.values.JournalEntry.{JournalEntry}
use Rattle.pg_law.specs.Configuration.{Configuration, is_signalled, start_state, is_quiet}
use Rattle.pg_law.specs.Round.{outcome}
use Rattle.pg_steps.specs.Step.{step, applied_by, Executes, Turn}
use Rattle.pg_steps.specs.Reached.{after_rounds, after_journal}
use Rattle.pg_steps.proofs.Ends.{ends_within}
use Rattle.pg_steps.proofs.Stepping.{turn_is, datum_kept, stays_signalled, scatter_wakes}
use Rattle.pg_steps.proofs.Resting.{quiet_silent}
use Rattle.pg_steps.proofs.Keeping.{start_message, rounds_keep, replay_keeps}
use Rattle.pg_colour.specs.Colouring.{colouring}
use Rattle.pg_colour.specs.Proper.{colour_in, IsProper}

-- an end of the edge is signalled
abbrev pub IsAwake : Multigraph → Configuration → ℕ → Type 0
IsAwake g s e = (side : Side) × (is_signalled s (end_at g side e) ≡ true)

-- at every edge between two of one colour
abbrev pub Wakes : Multigraph → Configuration → Type 0
Wakes g s = (e : ℕ) → e < length g.edges
    → colour_in s.values (end_at g Source e) ≡ colour_in s.values (end_at g Target e)
    → IsAwake g s e

module _ (g : Multigraph) (graph : IsMultigraph g) where
  start_wakes : Wakes g (start_state colouring g)
  start_wakes e h same = (
    Source,
    ap is_some (start_message colouring g _ (ends_within g graph Source e h)),
  )

  module _ (s : Configuration) (wakes : Wakes g s) (executes : ℕ → Bool) where
    abbrev after : Configuration
    after = step colouring g s executes

    abbrev Turns : ℕ → Type 0
    Turns v = Turn colouring g s executes v

    -- a vertex that executed signals a neighbour of its colour
    signals : (side : Side) (e : ℕ) → e < length g.edges
        → Executes colouring g s executes (end_at g side e)
        → colour_in after.values (end_at g side e)
        ≡ colour_in after.values (end_at g (opposite side) e)
        → is_signalled after (end_at g (opposite side) e) ≡ true
    signals side e h (m, waits, is) same = let woken : Option ℕ = Some 0 in
        scatter_wakes colouring g graph s executes side e
        (applied_by colouring g s (end_at g side e) m) h is refl
        (λ word. ap (λ (b : Bool). is_some (cond b woken None)) (eq-eqb _ _ same))

    colour_kept : (v : ℕ) → v < length g.ids → outcome colouring g s executes v ≡ None
        → colour_in after.values v ≡ colour_in s.values v
    colour_kept v h idle = ap (λ (d : Datum). d.first)
        (datum_kept colouring g graph s executes v h idle)

    step_wakes : Wakes g after
    step_wakes e h same = by_turns (turn_is colouring g graph s executes (end_at g Source e))
        (turn_is colouring g graph s executes (end_at g Target e))
      where
        here : end_at g Source e < length g.ids
        here = ends_within g graph Source e h

        there : end_at g Target e < length g.ids
        there = ends_within g graph Target e h

        both_idle : outcome colouring g s executes (end_at g Source e) ≡ None
            → outcome colouring g s executes (end_at g Target e) ≡ None
            → IsAwake g s e → IsAwake g after e
        both_idle idle rests (Source, awake) = (
          Source,
          stays_signalled colouring g graph s executes _ here idle awake,
        )
        both_idle idle rests (Target, awake) = (
          Target,
          stays_signalled colouring g graph s executes _ there rests awake,
        )

        by_turns : Turns (end_at g Source e) → Turns (end_at g Target e) → IsAwake g after e
        by_turns (inr runs) other = (Target, signals Source e h runs same)
        by_turns (inl idle) (inr runs) = (Source, signals Target e h runs (sym same))
        by_turns (inl idle) (inl rests) = both_idle idle rests (wakes e h
            (sym (colour_kept _ here idle) ∙ same ∙ colour_kept _ there rests))

  pub quiet_proper : (s : Configuration) → Wakes g s → is_quiet g s ≡ true → IsProper g s.values
  quiet_proper s wakes quiet e h same = silent (wakes e h same)
    where
      silent : IsAwake g s e → ⊥
      silent (side, awake) = true≢false (sym awake
          ∙ quiet_silent g s quiet _ (ends_within g graph side e h))

  pub rounds_wake : (limit : ℕ) → Wakes g (after_rounds colouring g limit)
  rounds_wake limit = rounds_keep colouring g (Wakes g)
      (λ s executes wakes. step_wakes s wakes executes) limit (start_state colouring g) start_wakes

  pub replay_wakes : (journal : List JournalEntry) → Wakes g (after_journal colouring g journal)
  replay_wakes journal = replay_keeps colouring g (Wakes g)
      (λ s executes wakes. step_wakes s wakes executes) journal (start_state colouring g)
      start_wakes
