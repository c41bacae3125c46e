use Rattle.std.proofs.Common.{◌++◌, [], ◌∷◌, sym, ◌∙◌}
use Rattle.std.proofs.lemmas.List.{map_more}
use Rattle.pg_meals.proofs.planning.plan.Goals as goal

pub plan_over-requires-clause-near : goal.plan_over-requires-clause-near
plan_over-requires-clause-near g c κs within =
    let at = c.edges_of-around.ensures.within c.loop-e.e-index 0 c.loop-e-test.true in
    λ t. c.requires.near _ at.0 at.1 t

pub plan_over-requires-clause-content : goal.plan_over-requires-clause-content
plan_over-requires-clause-content g c κs within =
    let at = c.edges_of-around.ensures.within c.loop-e.e-index 0 c.loop-e-test.true in
    c.requires.contents _ at.0 at.1

pub loop-e-preserved : goal.loop-e-preserved
loop-e-preserved g c =
    c.in_ok-push.ensures.items ∙ ((λ j. c.loop-e.invariant j ++ c.in_ok-plan_over.ensures j ∷ []) ∙ sym (map_more _ c.edges_of-around.result.now c.loop-e.e-index 0 c.loop-e-test.true))
