use Rattle.std.proofs.Common.{ap, ◌∙◌}
use Rattle.pg_graph.specs.declared.edge.Side.TheVariants.{Target}
use Rattle.pg_rounds.specs.Gathers.{acc_at, gather_end}
use Rattle.pg_rounds.proofs.Gathering.{both_ends}
use Rattle.pg_rounds.proofs.gather.gather_edge.Goals as goal

pub returns-clause-accs : goal.returns-clause-accs
returns-clause-accs g c = let p = g.P.VertexProgram.meaning c.args.program.now in
    let graph = c.args.graph.now in
    let state = c.args.state.now in
    λ v h runs. c.in_ok-target.ensures.accs v h ∙ ap (gather_end p graph state Target c.args.e v) (c.in_ok-source.ensures.accs v h)
    ∙ both_ends p graph state c.vertices.ensures.graph c.args.e v c.requires.e runs (acc_at p graph c.args.accs.now v)
