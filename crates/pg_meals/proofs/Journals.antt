-- A journal over lists is the core's journal.
use Rattle.std.proofs.Common.{◌≡◌, List, [], ◌∷◌, length, Bool, refl, sym, ap, subst, ◌∙◌}
use Rattle.std.specs.Prelude.{IsTrue, is_some}
use Rattle.std.specs.List.{range_with_len}
use Rattle.std.proofs.lemmas.List.FromFn.{fill_by_all}
use Rattle.pg_graph.specs.Multigraph.{Multigraph, IsMultigraph}
use Rattle.pg_law.specs.declared.values.Applied.{Applied}
use Rattle.pg_law.specs.declared.values.JournalEntry.{JournalEntry}
use Rattle.pg_law.specs.Program.{Program}
use Rattle.pg_law.specs.Laws.{IsLawful}
use Rattle.pg_law.specs.Configuration.{Configuration, IsFit}
use Rattle.pg_law.specs.Round.{execution}
use Rattle.pg_law.specs.Journal.{IsLegal, replay}
use Rattle.pg_law.proofs.Fitting.{execution_fits}
use Rattle.pg_meals.specs.Shape.{Shape}
use Rattle.pg_meals.specs.Serial.{IsStep, Legal, replay as core_replay}
use Rattle.pg_meals.specs.Listed.{Cut, any_datum, any_word, shape_of, serial_of, configuration_of}
use Rattle.pg_meals.proofs.Executions.{execution_is, datum_is, applied_same}

module _ {A C : Type 0} (p : Program A C) (g : Multigraph) (cut : Cut) (caches : Bool) (law : IsLawful p) (graph : IsMultigraph g) where
  abbrev shape : Shape
  shape = shape_of g cut caches

  -- the state after a replay fits the graph
  pub replay_fits : (s : Configuration) → IsFit p g s → (xs : List JournalEntry) → IsFit p g (replay p g s xs)
  unfolding replay
  replay_fits s fit [] = fit
  replay_fits s fit (y ∷ ys) = replay_fits (execution p g s y.vertex) (execution_fits p g law graph s y.vertex fit) ys

  -- a journal that is legal over families is legal over lists
  pub legal_is : (s : Configuration) → IsFit p g s → (xs : List JournalEntry) → Legal p shape (serial_of p s) xs → IsLegal p g s xs
  unfolding IsLegal
  legal_is s fit [] k = tt
  legal_is s fit (y ∷ ys) k =
      let step : IsStep p shape (serial_of p s) y = k.0 in (
        step.inside,
        ap is_some step.signalled,
        datum_is p g cut caches law graph s fit y.vertex step.message step.inside step.signalled
            ∙ sym (ap (λ (z : Applied C). z.datum) (applied_same p g cut caches law graph s fit y.vertex step.message step.inside step.signalled)) ∙ sym step.datum,
        legal_is (execution p g s y.vertex) (execution_fits p g law graph s y.vertex fit) ys
            (subst (λ st. Legal p shape st ys) (sym (execution_is p g cut caches law graph s fit y.vertex step.message step.inside step.signalled)) k.1),
      )

  -- its replay over lists is that over families
  pub replay_is : (s : Configuration) → IsFit p g s → (xs : List JournalEntry) → Legal p shape (serial_of p s) xs → serial_of p (replay p g s xs) ≡ core_replay p shape (serial_of p s) xs
  unfolding replay
  replay_is s fit [] k = refl
  replay_is s fit (y ∷ ys) k =
      let step : IsStep p shape (serial_of p s) y = k.0 in
      let same = execution_is p g cut caches law graph s fit y.vertex step.message step.inside step.signalled in
      replay_is (execution p g s y.vertex) (execution_fits p g law graph s y.vertex fit) ys (subst (λ st. Legal p shape st ys) (sym same) k.1)
      ∙ ap (λ st. core_replay p shape st ys) same

  -- a configuration that fits is what the core sees of it
  pub configuration_is : (s : Configuration) → IsFit p g s → configuration_of g (serial_of p s) ≡ s
  configuration_is s fit = λ j. record {
    values = sym (fill_by_all (serial_of p s).value s.values (length g.ids) (any_datum p) fit.values.count (λ k i. refl)) j;
    edges = sym (fill_by_all (serial_of p s).word s.edges (length g.edges) (any_word p) fit.words.count (λ k i. refl)) j;
    messages = sym (fill_by_all (serial_of p s).message s.messages (length g.ids) Rattle.std.specs.Prelude.None fit.messages.count (λ k i. refl)) j;
  }
