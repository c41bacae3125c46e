use Rattle.pg_sync.proofs.Costs.{are_distinct}
use Rattle.pg_sync.proofs.laws.distinct_gathers.Goals as goal

pub returns : goal.returns
returns g c = are_distinct (g.P.VertexProgram.meaning c.args._program.now)
