use Rattle.pg_apply_scatter.proofs.Caching.{cells_follow}
use Rattle.pg_apply_scatter.proofs.laws.cells_follow.Goals as goal

pub returns : goal.returns
returns g c = cells_follow (g.P.VertexProgram.meaning c.args.program.now) c.laws_of.ensures c.cells_stay_true.ensures.posted_is
