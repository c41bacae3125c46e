use Rattle.pg_check.proofs.Rights.{confirmed_is_right}
use Rattle.pg_check.proofs.laws.confirmed_texts_are_right.Goals as goal

pub returns : goal.returns
returns g c = confirmed_is_right (g.P.VertexProgram.meaning c.args._program.now)
