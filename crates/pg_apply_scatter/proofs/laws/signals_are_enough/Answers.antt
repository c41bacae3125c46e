use Rattle.pg_apply_scatter.proofs.Listing.{signals_are_enough}
use Rattle.pg_apply_scatter.proofs.laws.signals_are_enough.Goals as goal

pub returns : goal.returns
returns g c = signals_are_enough (g.P.VertexProgram.meaning c.args.program.now)
