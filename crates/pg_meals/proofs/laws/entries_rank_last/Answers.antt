use Rattle.pg_meals.proofs.Settings.{entries_rank_last}
use Rattle.pg_meals.proofs.laws.entries_rank_last.Goals as goal

pub returns : goal.returns
returns g c = entries_rank_last (g.P.VertexProgram.meaning c.args.program.now) c.laws_of.ensures
