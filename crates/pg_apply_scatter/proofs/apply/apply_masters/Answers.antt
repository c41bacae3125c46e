use Rattle.std.proofs.Common.{◌++◌, [], ◌∷◌, take, sym, ◌∙◌, ap}
use Rattle.pg_apply_scatter.specs.Applying.{applied_by, applied_masters}
use Rattle.pg_apply_scatter.proofs.Reading.{map_more}
use Rattle.pg_apply_scatter.proofs.apply.apply_masters.Goals as goal

pub apply_at-became-requires-clause-sum : goal.apply_at-became-requires-clause-sum
apply_at-became-requires-clause-sum g c κs within = let p = g.P.VertexProgram.meaning c.args.program.now in
    rw c.index-sums-i.is (c.requires.sums c.loop-i.i c.index-sums-i.result c.loop-i-test.true)

pub loop-i-preserved : goal.loop-i-preserved
loop-i-preserved g c = let p = g.P.VertexProgram.meaning c.args.program.now in
    let applied = applied_by p c.args.graph.now c.args.values.now c.args.messages.now in
    let i = c.loop-i.i in
    let sum = c.index-sums-i.result in
    c.in_ok-push.ensures.items ∙ ap (λ xs. xs ++ (sum.0, c.apply_at-became.result) ∷ []) c.loop-i.invariant
    ∙ ap (λ a. applied_masters p c.args.graph.now c.args.values.now c.args.messages.now (take i c.args.sums.now) ++ (sum.0, a) ∷ []) c.apply_at-became.ensures
    ∙ ap (λ s. applied_masters p c.args.graph.now c.args.values.now c.args.messages.now (take i c.args.sums.now) ++ (s.0, applied s) ∷ []) c.index-sums-i.is
    ∙ sym (map_more (λ s. (s.0, applied s)) c.args.sums.now i sum c.loop-i-test.true)
