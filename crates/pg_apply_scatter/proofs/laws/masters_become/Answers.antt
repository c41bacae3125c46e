use Rattle.pg_apply_scatter.proofs.Applying.{masters_become}
use Rattle.pg_apply_scatter.proofs.laws.masters_become.Goals as goal

pub returns : goal.returns
returns g c = masters_become (g.P.VertexProgram.meaning c.args.program.now)
