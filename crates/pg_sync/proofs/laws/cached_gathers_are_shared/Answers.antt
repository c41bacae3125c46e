use Rattle.pg_sync.proofs.Costs.{are_shared}
use Rattle.pg_sync.proofs.laws.cached_gathers_are_shared.Goals as goal

pub returns : goal.returns
returns g c = are_shared (g.P.VertexProgram.meaning c.args._program.now)
