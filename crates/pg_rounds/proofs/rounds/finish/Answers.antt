use Rattle.std.proofs.Common.{◌≡◌, ◌<◌, ℕ, List, length, refl, sym, subst, ap, arith, ◌∙◌}
use Rattle.std.specs.List.{All}
use Rattle.std.proofs.lemmas.List.{with_items_is, take_at}
use Rattle.std.proofs.lemmas.List.FromFn.{length-map-range_with_len}
use Rattle.pg_graph.specs.Multigraph.{Multigraph}
use Rattle.pg_law.specs.Configuration.{Configuration, signalled}
use Rattle.pg_rounds.proofs.Drafting.{each_signalled, handed_over, blank_again}
use Rattle.pg_rounds.proofs.rounds.finish.Goals as goal

pub write-requires : goal.write-requires
write-requires g c = let bound : length c.state.inside.edges ≡ length c.args.graph.now.edges = ap length (ap (λ (s : Configuration). s.edges) c.state.view_is) ∙ c.requires.fit.words.count in
    rw (c.as_slice.ensures.value, bound) c.requires.inside

-- the signalled vertices are below the number of all
below : (g : Multigraph) (s : Configuration) (items : List ℕ) (n : ℕ) → items ≡ signalled g s → n ≡ length g.ids → All (λ v. v < n) items
below g s items n same count = let Q = λ (vs : List ℕ). All (λ v. v < n) vs in
    subst Q (sym same) (λ k d h. omega (arith, count, (each_signalled g s k d h).0))

pub hand_over-requires-clause-carries : goal.hand_over-requires-clause-carries
hand_over-requires-clause-carries g c =
    let count : length c.as_mut_slice.result.now ≡ length c.args.graph.now.ids = ap length (c.as_mut_slice.ensures.value ∙ c.requires.carries) ∙ length-map-range_with_len _ 0 (length c.args.graph.now.ids) in
    below c.args.graph.now c.args.state.now c.as_slice-2.result.now (length c.as_mut_slice.result.now) (c.as_slice-2.ensures.value ∙ c.requires.frontier) count

pub hand_over-requires-clause-drafted : goal.hand_over-requires-clause-drafted
hand_over-requires-clause-drafted g c =
    let count : length c.as_slice-3.result.now ≡ length c.args.graph.now.ids = ap length (c.as_slice-3.ensures.value ∙ c.requires.values) ∙ length-map-range_with_len _ 0 (length c.args.graph.now.ids) in
    below c.args.graph.now c.args.state.now c.as_slice-2.result.now (length c.as_slice-3.result.now) (c.as_slice-2.ensures.value ∙ c.requires.frontier) count

pub hand_over-requires-clause-values : goal.hand_over-requires-clause-values
hand_over-requires-clause-values g c =
    let count : length c.as_mut_slice-2.result.now ≡ length c.args.graph.now.ids = ap length (c.as_mut_slice-2.ensures.value ∙ ap (λ (s : Configuration). s.values) c.state.view_is) ∙ c.requires.fit.values.count in
    below c.args.graph.now c.args.state.now c.as_slice-2.result.now (length c.as_mut_slice-2.result.now) (c.as_slice-2.ensures.value ∙ c.requires.frontier) count

pub hand_over-requires-clause-messages : goal.hand_over-requires-clause-messages
hand_over-requires-clause-messages g c =
    let count : length c.as_mut_slice-3.result.now ≡ length c.args.graph.now.ids = ap length (c.as_mut_slice-3.ensures.value ∙ ap (λ v. v.items) c.swap.ensures.y_after ∙ ap (λ (s : Configuration). s.messages) c.state.view_is) ∙ c.requires.fit.messages.count in
    below c.args.graph.now c.args.state.now c.as_slice-2.result.now (length c.as_mut_slice-3.result.now) (c.as_slice-2.ensures.value ∙ c.requires.frontier) count

pub returns-clause-ok : goal.returns-clause-ok
returns-clause-ok g c =
    let values_view = ap (λ (s : Configuration). s.values) c.state.view_is in
    let messages_view = ap (λ (s : Configuration). s.messages) c.state.view_is in
    let edges_view = ap (λ (s : Configuration). s.edges) c.state.view_is in
    let old_messages = ap (λ v. v.items) c.swap.ensures.y_after in
    let frontier_is = c.as_slice-2.ensures.value ∙ c.requires.frontier in
    let whole = with_items_is c.state.inside.values c.hand_over.new.values (omega (arith, c.hand_over.auto.values, c.as_mut_slice-2.ensures.len)) in
    let handed = handed_over (g.P.VertexProgram.meaning c.args._program.now) c.args.graph.now c.args.state.now c.requires.fit c.args.draft.now.carries.items c.hand_over.new.carries c.args.draft.now.values.items c.hand_over.new.values c.hand_over.new.messages
    c.requires.carries c.requires.values (c.hand_over.auto.carries ∙ ap length c.as_mut_slice.ensures.value) (c.hand_over.auto.values ∙ ap length (c.as_mut_slice-2.ensures.value ∙ values_view)) (c.hand_over.auto.messages ∙ ap length (c.as_mut_slice-3.ensures.value ∙ old_messages ∙ messages_view))
    (rw (frontier_is, c.as_mut_slice.ensures.value) at c.hand_over.ensures.carries) (rw (frontier_is, c.as_slice-3.ensures.value, c.as_mut_slice-2.ensures.value, values_view) at c.hand_over.ensures.values)
    (rw (frontier_is, c.as_mut_slice-3.ensures.value, old_messages, messages_view) at c.hand_over.ensures.messages) in
    rw (whole, handed, c.swap.ensures.x_after, c.in_ok-write.ensures.ok, c.as_slice.ensures.value, edges_view) refl

pub returns-clause-blank : goal.returns-clause-blank
returns-clause-blank g c =
    let values_view = ap (λ (s : Configuration). s.values) c.state.view_is in
    let messages_view = ap (λ (s : Configuration). s.messages) c.state.view_is in
    let old_messages = ap (λ v. v.items) c.swap.ensures.y_after in
    let frontier_is = c.as_slice-2.ensures.value ∙ c.requires.frontier in
    let whole = with_items_is c.state.inside.values c.hand_over.new.values (omega (arith, c.hand_over.auto.values, c.as_mut_slice-2.ensures.len)) in
    rw (take_at c.hand_over.new.carries _ c.args.draft.now.carries.len (c.hand_over.auto.carries ∙ c.as_mut_slice.ensures.len), take_at c.hand_over.new.messages _ c.swap.new.y.len (c.hand_over.auto.messages ∙ c.as_mut_slice-3.ensures.len))
    (blank_again (g.P.VertexProgram.meaning c.args._program.now) c.args.graph.now c.args.state.now c.requires.fit c.args.draft.now.carries.items c.hand_over.new.carries c.args.draft.now.values.items c.hand_over.new.values c.hand_over.new.messages
    c.requires.carries c.requires.values (c.hand_over.auto.carries ∙ ap length c.as_mut_slice.ensures.value) (c.hand_over.auto.values ∙ ap length (c.as_mut_slice-2.ensures.value ∙ values_view)) (c.hand_over.auto.messages ∙ ap length (c.as_mut_slice-3.ensures.value ∙ old_messages ∙ messages_view))
    (rw (frontier_is, c.as_mut_slice.ensures.value) at c.hand_over.ensures.carries) (rw (frontier_is, c.as_slice-3.ensures.value, c.as_mut_slice-2.ensures.value, values_view) at c.hand_over.ensures.values)
    (rw (frontier_is, c.as_mut_slice-3.ensures.value, old_messages, messages_view) at c.hand_over.ensures.messages) _ whole)
