use Rattle.pg_apply_scatter.proofs.Combining.{equal_signals_deliver_equally}
use Rattle.pg_apply_scatter.proofs.laws.equal_signals_deliver_equally.Goals as goal

pub returns : goal.returns
returns g c = equal_signals_deliver_equally (g.P.VertexProgram.meaning c.args.program.now) c.laws_of.ensures
