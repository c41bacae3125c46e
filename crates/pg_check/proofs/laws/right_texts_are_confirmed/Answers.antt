use Rattle.pg_check.proofs.Rights.{confirms_right}
use Rattle.pg_check.proofs.laws.right_texts_are_confirmed.Goals as goal

pub returns : goal.returns
returns g c = confirms_right (g.P.VertexProgram.meaning c.args._program.now)
