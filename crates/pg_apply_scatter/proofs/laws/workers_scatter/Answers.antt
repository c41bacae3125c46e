use Rattle.pg_apply_scatter.proofs.Scattering.{workers_scatter}
use Rattle.pg_apply_scatter.proofs.laws.workers_scatter.Goals as goal

pub returns : goal.returns
returns g c = workers_scatter (g.P.VertexProgram.meaning c.args.program.now) c.laws_of.ensures
