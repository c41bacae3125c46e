use Rattle.pg_meals.proofs.Carried.{start_is_kept}
use Rattle.pg_meals.proofs.laws.start_is_kept.Goals as goal

pub returns : goal.returns
returns g c = start_is_kept (g.P.VertexProgram.meaning c.args.program.now) c.laws_of.ensures
