use Rattle.std.proofs.Common.{arith}
use Rattle.pg_virtual.proofs.Made.{made_if}
use Rattle.pg_virtual.proofs.single.turn.Goals as goal

pub returns-clause-made : goal.returns-clause-made
returns-clause-made g c = made_if (g.P.VertexProgram.meaning c.args.program.now) c.args.graph.now c.execute_least.result c.args.state c.args.fuel c.in_ok-closed.closed
    c.in_ok-closed.ensures.made (omega arith) c.requires.some c.execute_least.ensures.made
