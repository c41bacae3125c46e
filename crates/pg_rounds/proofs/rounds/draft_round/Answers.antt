use Rattle.std.proofs.Common.{length, true, refl, sym, ap, arith, ◌∙◌}
use Rattle.std.specs.Prelude.{map}
use Rattle.std.proofs.lemmas.List.{with_items_is}
use Rattle.std.proofs.lemmas.List.FromFn.{length-map-range_with_len}
use Rattle.std.proofs.lemmas.List.Elements.{filter_agree}
use Rattle.pg_graph.specs.Multigraph.{vertices, edge_numbers, edges_at}
use Rattle.pg_law.specs.Configuration.{Configuration}
use Rattle.pg_law.specs.Round.{outcome, outcomes}
use Rattle.pg_law.proofs.Fitting.{outcomes_own, values_after_own, messages_after_own}
use Rattle.pg_law.proofs.Signals.{round_is}
use Rattle.pg_law.specs.Carries.{carry_in}
use Rattle.pg_rounds.specs.Carries.{outcomes_with}
use Rattle.pg_rounds.specs.Visits.{executes_in}
use Rattle.pg_law.proofs.Lists.{map_agree, map_twice}
use Rattle.pg_rounds.proofs.Carrying.{carries_own, runs_same, final_same, with_same}
use Rattle.pg_rounds.proofs.Steps.{signalled_run}
use Rattle.pg_rounds.proofs.rounds.draft_round.Goals as goal

pub visit_all-requires-clause-values : goal.visit_all-requires-clause-values
visit_all-requires-clause-values g c κs within = let p = g.P.VertexProgram.meaning c.args.program.now in
    let graph = c.args.graph.now in
    let state = c.args.state.now in
    let applied = outcomes_own p graph c.laws_of.ensures c.vertices.ensures.graph state (λ v. true) c.requires.fit in
    rw (c.as_slice.ensures.value, c.in_ok-gathers.ensures.values) (values_after_own p graph c.laws_of.ensures c.vertices.ensures.graph state.values _ c.requires.fit.values applied)

pub visit_all-requires-clause-carries : goal.visit_all-requires-clause-carries
visit_all-requires-clause-carries g c κs within = let p = g.P.VertexProgram.meaning c.args.program.now in
    let carried = c.as_slice-2.ensures.value ∙ c.in_ok-gathers.ensures.carries ∙ sym (map_twice carry_in (outcome p c.args.graph.now c.args.state.now (λ v. true)) (vertices c.args.graph.now)) in
    rw carried (carries_own p c.args.graph.now _ (outcomes_own p c.args.graph.now c.laws_of.ensures c.vertices.ensures.graph c.args.state.now (λ v. true) c.requires.fit))

pub visit_all-requires-clause-frontier : goal.visit_all-requires-clause-frontier
visit_all-requires-clause-frontier g c κs within = let p = g.P.VertexProgram.meaning c.args.program.now in
    let graph = c.args.graph.now in
    let state = c.args.state.now in
    let became = outcomes p graph state (λ v. true) in
    let count = (outcomes_own p graph c.laws_of.ensures c.vertices.ensures.graph state (λ v. true) c.requires.fit).count in
    let carried = c.as_slice-2.ensures.value ∙ c.in_ok-gathers.ensures.carries ∙ sym (map_twice carry_in (outcome p c.args.graph.now c.args.state.now (λ v. true)) (vertices c.args.graph.now)) in
    rw (c.as_slice-3.ensures.value, c.in_ok-gathers.ensures.frontier, c.requires.frontier, carried) (signalled_run p graph state c.requires.fit.messages.count
    ∙ filter_agree (executes_in became) (executes_in (outcomes_with p graph (map carry_in became))) (λ v. sym (runs_same p graph became count v)) (vertices graph))

pub visit_all-requires-clause-messages : goal.visit_all-requires-clause-messages
visit_all-requires-clause-messages g c κs within = let p = g.P.VertexProgram.meaning c.args.program.now in
    let graph = c.args.graph.now in
    let state = c.args.state.now in
    let applied = outcomes_own p graph c.laws_of.ensures c.vertices.ensures.graph state (λ v. true) c.requires.fit in
    rw (c.as_mut_slice.ensures.value, c.in_ok-gathers.ensures.messages) (messages_after_own p graph c.laws_of.ensures c.vertices.ensures.graph state.messages _ c.requires.fit.messages applied)

pub visit_all-requires-clause-none : goal.visit_all-requires-clause-none
visit_all-requires-clause-none g c κs within = c.in_ok-gathers.ensures.changes ∙ c.requires.changes

pub returns-clause-state : goal.returns-clause-state
returns-clause-state g c = let p = g.P.VertexProgram.meaning c.args.program.now in
    let graph = c.args.graph.now in
    let state = c.args.state.now in
    let became = outcomes p graph state (λ v. true) in
    let count = (outcomes_own p graph c.laws_of.ensures c.vertices.ensures.graph state (λ v. true) c.requires.fit).count in
    let same_words = ap (λ (s : Configuration). s.edges) c.state.view_is in
    let before_are = c.as_mut_slice.ensures.value ∙ c.in_ok-gathers.ensures.messages in
    let carried = c.as_slice-2.ensures.value ∙ c.in_ok-gathers.ensures.carries ∙ sym (map_twice carry_in (outcome p c.args.graph.now c.args.state.now (λ v. true)) (vertices c.args.graph.now)) in
    let words_are = (rw (c.as_slice.ensures.value, same_words, carried) at c.in_ok-visit_all.ensures.words) ∙ map_agree _ _ (final_same p graph became count c.apply_all.new.draft.values.items state.edges) (edge_numbers graph) in
    let messages_are = (rw (c.as_slice.ensures.value, same_words, carried) at c.in_ok-visit_all.ensures.messages) ∙ map_agree _ _ (λ v. with_same p graph became count c.apply_all.new.draft.values.items state.edges v _ (edges_at graph v)) (vertices graph) in
    let whole = with_items_is c.apply_all.new.draft.messages c.visit_all.new.messages (omega (arith, c.visit_all.auto.messages, c.as_mut_slice.ensures.len)) in
    rw whole (round_is p graph state (outcomes p graph state (λ v. true)) _ _ _ _ refl c.in_ok-gathers.ensures.values before_are words_are messages_are)

pub returns-clause-inside : goal.returns-clause-inside
returns-clause-inside g c = c.in_ok-visit_all.ensures.inside

pub returns-clause-executions : goal.returns-clause-executions
returns-clause-executions g c = c.len.ensures ∙ sym c.as_slice-3.ensures.len ∙ ap length (c.as_slice-3.ensures.value ∙ c.in_ok-gathers.ensures.frontier ∙ c.requires.frontier)

pub returns-clause-messages : goal.returns-clause-messages
returns-clause-messages g c =
    let whole = with_items_is c.apply_all.new.draft.messages c.visit_all.new.messages (omega (arith, c.visit_all.auto.messages, c.as_mut_slice.ensures.len)) in
    ap length whole ∙ c.visit_all.auto.messages ∙ ap length (c.as_mut_slice.ensures.value ∙ c.in_ok-gathers.ensures.messages) ∙ length-map-range_with_len _ 0 (length c.args.graph.now.ids)
