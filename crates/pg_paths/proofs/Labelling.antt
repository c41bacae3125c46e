-- A state of components without signals has the least ids.
use Rattle.std.proofs.Common.{◌≡◌, ℕ, ◌<◌, ◌≤◌, ◌⊎◌, true, List, [], ◌∷◌, length, sym, ◌∙◌, ap}
use Rattle.std.proofs.Common.{subst, arith, inl, inr}
use Rattle.std.proofs.lemmas.Bool.{true≢false, cases_order}
use Rattle.pg_graph.specs.declared.edge.Side.{Side}
use Rattle.pg_graph.specs.Multigraph.{Multigraph, IsMultigraph, end_at, opposite}
use Rattle.pg_law.specs.declared.values.JournalEntry.{JournalEntry}
use Rattle.pg_law.specs.Configuration.{Configuration, is_signalled, start_state, is_quiet}
use Rattle.pg_law.specs.Rounds.{rounds}
use Rattle.pg_law.specs.Journal.{replay}
use Rattle.pg_steps.proofs.Ends.{opposite_twice, ends_within}
use Rattle.pg_steps.proofs.Resting.{quiet_silent}
use Rattle.pg_steps.proofs.Keeping.{rounds_keep, replay_keeps}
use Rattle.pg_paths.specs.Components.{components}
use Rattle.pg_paths.specs.Weak.{Joins, IsIdNear, HasLeastIds}
use Rattle.pg_paths.proofs.Hearing.{label, IsHeard, start_heard, step_heard}

module _ (g : Multigraph) (graph : IsMultigraph g) where
  module _ (s : Configuration) (heard : IsHeard g s) (quiet : is_quiet g s ≡ true) where
    -- labels are equal along an edge
    over_edge : (e : ℕ) (side : Side) → e < length g.edges
        → label s (end_at g side e) ≡ label s (end_at g (opposite side) e)
    over_edge e side h = by_order (cases_order (label s (end_at g side e))
        (label s (end_at g (opposite side) e)))
      where
        silent : (side : Side) → is_signalled s (end_at g side e) ≡ true → ⊥
        silent side signal = true≢false (sym signal
            ∙ quiet_silent g s quiet (end_at g side e) (ends_within g graph side e h))

        by_order : (label s (end_at g side e) ≡ label s (end_at g (opposite side) e))
            ⊎ ((label s (end_at g side e) < label s (end_at g (opposite side) e))
            ⊎ (label s (end_at g (opposite side) e) < label s (end_at g side e)))
            → label s (end_at g side e) ≡ label s (end_at g (opposite side) e)
        by_order (inl same) = same
        by_order (inr (inl less)) = absurd (silent (opposite side) (heard.greater e side h less))
        by_order (inr (inr more)) = let less = subst (λ (i : Side).
            label s (end_at g (opposite side) e) < label s (end_at g i e))
            (sym (opposite_twice side)) more in
            absurd (silent (opposite (opposite side)) (heard.greater e (opposite side) h less))

    -- and so over a component
    pub same_label : (edges : List ℕ) (u v : ℕ) → Joins g edges u v → label s u ≡ label s v
    unfolding Joins
    same_label [] u v joins = ap (label s) joins
    same_label (e ∷ edges) u v (h, side, start, rest) = ap (label s) (sym start)
        ∙ over_edge e side h ∙ same_label edges (end_at g (opposite side) e) v rest

    pub quiet_least : HasLeastIds g s.values
    quiet_least v h = record {
      member = heard.labels v h;
      least = λ other near. below other near;
    }
      where
        below : (other : ℕ) → IsIdNear g v other → label s v ≤ other
        below other (u, inside, is, (edges, joins)) = omega (
          arith,
          same_label edges u v joins,
          heard.own u inside,
          is,
        )

  pub rounds_heard : (limit : ℕ) (s : Configuration) → IsHeard g s
      → IsHeard g (rounds components g s limit).state
  rounds_heard limit s heard = rounds_keep components g (IsHeard g)
      (λ s executes heard. step_heard g graph s heard executes) limit s heard

  pub replay_heard : (journal : List JournalEntry)
      → IsHeard g (replay components g (start_state components g) journal)
  replay_heard journal = replay_keeps components g (IsHeard g)
      (λ s executes heard. step_heard g graph s heard executes) journal
      (start_state components g) (start_heard g graph)
