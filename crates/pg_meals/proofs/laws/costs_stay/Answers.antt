use Rattle.pg_meals.proofs.Settings.{costs_stay}
use Rattle.pg_meals.proofs.laws.costs_stay.Goals as goal

pub returns : goal.returns
returns g c = costs_stay (g.P.VertexProgram.meaning c.args.program.now) c.laws_of.ensures
