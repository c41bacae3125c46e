use Rattle.std.proofs.Common.{ℕ, arith, length, ◌∙◌}
use Rattle.pg_graph.proofs.Numbers.{grown, grown_all}
use Rattle.pg_rounds.proofs.gather.empty_accs.Goals as goal

pub loop-v-preserved : goal.loop-v-preserved
loop-v-preserved g c = c.in_ok-push.ensures.items ∙ grown (λ (_ : ℕ). (g.P.VertexProgram.meaning c.args.program.now).empty) c.loop-v.v c.loop-v.accs.items _ c.loop-v.invariant c.in_ok-empty.ensures

pub returns : goal.returns
returns g c = grown_all (λ (_ : ℕ). (g.P.VertexProgram.meaning c.args.program.now).empty) c.loop-v.v (length c.args.graph.now.ids) _ c.loop-v.invariant (omega arith)
