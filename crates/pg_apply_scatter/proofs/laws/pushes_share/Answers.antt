use Rattle.pg_apply_scatter.proofs.Applying.{pushes_share}
use Rattle.pg_apply_scatter.proofs.laws.pushes_share.Goals as goal

pub returns : goal.returns
returns g c = pushes_share (g.P.VertexProgram.meaning c.args.program.now)
