use Rattle.pg_apply_scatter.proofs.Rounding.{parts_are_a_round}
use Rattle.pg_apply_scatter.proofs.laws.parts_are_a_round.Goals as goal

pub returns : goal.returns
returns g c = parts_are_a_round (g.P.VertexProgram.meaning c.args.program.now) c.laws_of.ensures
