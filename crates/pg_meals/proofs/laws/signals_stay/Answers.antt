use Rattle.pg_meals.proofs.Settings.{signals_stay}
use Rattle.pg_meals.proofs.laws.signals_stay.Goals as goal

pub returns : goal.returns
returns g c = signals_stay (g.P.VertexProgram.meaning c.args.program.now) c.laws_of.ensures
