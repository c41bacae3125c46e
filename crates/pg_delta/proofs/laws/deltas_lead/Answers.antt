use Rattle.pg_delta.proofs.Joining.{deltas_lead_is}
use Rattle.pg_delta.proofs.laws.deltas_lead.Goals as goal

pub returns : goal.returns
returns g c = deltas_lead_is (g.P.VertexProgram.meaning c.args.program.now) c.laws_of.ensures
