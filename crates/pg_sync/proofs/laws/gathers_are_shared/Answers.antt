use Rattle.pg_sync.proofs.Summing.{in_rounds}
use Rattle.pg_sync.proofs.laws.gathers_are_shared.Goals as goal

pub returns : goal.returns
returns g c = λ graph cut s limit is. in_rounds (g.P.VertexProgram.meaning c.args._program.now) graph cut is s limit
