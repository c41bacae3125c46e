use Rattle.pg_meals.proofs.Carried.{kept_can_act}
use Rattle.pg_meals.proofs.laws.kept_can_act.Goals as goal

pub returns : goal.returns
returns g c = kept_can_act (g.P.VertexProgram.meaning c.args.program.now)
