use Rattle.std.proofs.Common.{◌≡◌, ◌+◌, ◌<◌, ◌++◌, ◌∷◌, [], ℕ, List, true, length, take, get_or, sym, ap, arith, ◌∙◌}
use Rattle.std.proofs.lemmas.List.{get_or_read, take_more}
use Rattle.pg_graph.specs.Multigraph.{Multigraph}
use Rattle.pg_law.specs.Configuration.{Configuration, signalled, is_signalled}
use Rattle.pg_rounds.proofs.Drafting.{each_signalled, drafted_more}
use Rattle.pg_rounds.proofs.apply.apply_dense.Goals as goal

-- an element of a list that is the signalled vertices
at_frontier : (g : Multigraph) (s : Configuration) (items : List ℕ) (at v : ℕ) → items ≡ signalled g s → v ≡ get_or items at 0 → v ≡ get_or (signalled g s) at 0
at_frontier g s items at v same is = is ∙ ap (λ xs. get_or xs at 0) same

pub index-requires : goal.index-requires
index-requires g c =
    let graph = c.args.graph.now in
    let state = c.args.state.now in
    let here : c.loop-at.at < length (signalled graph state) = omega (arith, ap length c.requires.frontier) in
    let inside : c.loop-at.at < length c.loop-at.draft.frontier.items = omega (arith, ap length c.loop-at.invariant.frontier, here) in
    let is = at_frontier graph state _ _ _ c.loop-at.invariant.frontier (get_or_read c.loop-at.draft.frontier.items c.loop-at.at c.index-v.result.now inside c.index-v.ensures 0) in
    omega (arith, is, (each_signalled graph state c.loop-at.at 0 here).0, c.in_ok-all.ensures.own.count)

pub apply_to-applied-requires-clause-v : goal.apply_to-applied-requires-clause-v
apply_to-applied-requires-clause-v g c κs within =
    let graph = c.args.graph.now in
    let state = c.args.state.now in
    let here : c.loop-at.at < length (signalled graph state) = omega (arith, ap length c.requires.frontier) in
    let inside : c.loop-at.at < length c.loop-at.draft.frontier.items = omega (arith, ap length c.loop-at.invariant.frontier, here) in
    rw (at_frontier graph state _ _ _ c.loop-at.invariant.frontier (get_or_read c.loop-at.draft.frontier.items c.loop-at.at c.index-v.result.now inside c.index-v.ensures 0)) (each_signalled graph state c.loop-at.at 0 here).0

pub apply_to-applied-requires-clause-signalled : goal.apply_to-applied-requires-clause-signalled
apply_to-applied-requires-clause-signalled g c κs within =
    let graph = c.args.graph.now in
    let state = c.args.state.now in
    let here : c.loop-at.at < length (signalled graph state) = omega (arith, ap length c.requires.frontier) in
    let inside : c.loop-at.at < length c.loop-at.draft.frontier.items = omega (arith, ap length c.loop-at.invariant.frontier, here) in
    rw (at_frontier graph state _ _ _ c.loop-at.invariant.frontier (get_or_read c.loop-at.draft.frontier.items c.loop-at.at c.index-v.result.now inside c.index-v.ensures 0)) (each_signalled graph state c.loop-at.at 0 here).1

pub apply_to-applied-requires-clause-acc : goal.apply_to-applied-requires-clause-acc
apply_to-applied-requires-clause-acc g c κs within =
    let p = g.P.VertexProgram.meaning c.args.program.now in
    let graph = c.args.graph.now in
    let state = c.args.state.now in
    let here : c.loop-at.at < length (signalled graph state) = omega (arith, ap length c.requires.frontier) in
    let inside : c.loop-at.at < length c.loop-at.draft.frontier.items = omega (arith, ap length c.loop-at.invariant.frontier, here) in
    let is = at_frontier graph state _ _ _ c.loop-at.invariant.frontier (get_or_read c.loop-at.draft.frontier.items c.loop-at.at c.index-v.result.now inside c.index-v.ensures 0) in
    let each = each_signalled graph state c.loop-at.at 0 here in
    let vertex : c.index-v.result.now < length graph.ids = rw is each.0 in
    let runs : is_signalled state c.index-v.result.now ≡ true = rw is each.1 in
    get_or_read c.in_ok-all.all.accs.items c.index-v.result.now c.index.result.now (omega (arith, vertex, c.in_ok-all.ensures.own.count)) c.index.ensures p.empty ∙ c.in_ok-all.ensures.accs c.index-v.result.now vertex runs

pub apply_to-applied-requires-clause-own : goal.apply_to-applied-requires-clause-own
apply_to-applied-requires-clause-own g c κs within =
    let p = g.P.VertexProgram.meaning c.args.program.now in
    let graph = c.args.graph.now in
    let state = c.args.state.now in
    let here : c.loop-at.at < length (signalled graph state) = omega (arith, ap length c.requires.frontier) in
    let inside : c.loop-at.at < length c.loop-at.draft.frontier.items = omega (arith, ap length c.loop-at.invariant.frontier, here) in
    let is = at_frontier graph state _ _ _ c.loop-at.invariant.frontier (get_or_read c.loop-at.draft.frontier.items c.loop-at.at c.index-v.result.now inside c.index-v.ensures 0) in
    let vertex : c.index-v.result.now < length graph.ids = rw is (each_signalled graph state c.loop-at.at 0 here).0 in
    rw (get_or_read c.in_ok-all.all.accs.items c.index-v.result.now c.index.result.now (omega (arith, vertex, c.in_ok-all.ensures.own.count)) c.index.ensures p.empty) (c.in_ok-all.ensures.own.each c.index-v.result.now vertex)

pub loop-at-preserved : goal.loop-at-preserved
loop-at-preserved g c =
    let p = g.P.VertexProgram.meaning c.args.program.now in
    let graph = c.args.graph.now in
    let state = c.args.state.now in
    let invariant = c.loop-at.invariant in
    let frontier = signalled graph state in
    let here : c.loop-at.at < length frontier = omega (arith, ap length c.requires.frontier) in
    let inside : c.loop-at.at < length c.loop-at.draft.frontier.items = omega (arith, ap length invariant.frontier, here) in
    let is = at_frontier graph state _ _ _ invariant.frontier (get_or_read c.loop-at.draft.frontier.items c.loop-at.at c.index-v.result.now inside c.index-v.ensures 0) in
    let more : take (c.loop-at.at + 1) frontier ≡ take c.loop-at.at frontier ++ c.index-v.result.now ∷ [] = take_more frontier c.loop-at.at 0 here ∙ ap (λ u. take c.loop-at.at frontier ++ u ∷ []) (sym is) in
    let vertex : c.index-v.result.now < length graph.ids = rw is (each_signalled graph state c.loop-at.at 0 here).0 in
    record {
      drafted = rw (more, c.note.ensures.carries, c.note.ensures.values, c.note.ensures.messages)
          (drafted_more p graph state (take c.loop-at.at frontier) c.index-v.result.now c.apply_to-applied.result c.loop-at.draft.carries.items c.loop-at.draft.values.items c.loop-at.draft.messages.items vertex c.apply_to-applied.ensures invariant.drafted);
      frontier = c.note.ensures.frontier ∙ invariant.frontier;
      same_frontier = c.note.ensures.frontier ∙ invariant.same_frontier;
      changes = c.note.ensures.changes ∙ invariant.changes;
    }
