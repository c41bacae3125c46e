use Rattle.pg_gather.proofs.Sharing.{readable}
use Rattle.pg_gather.proofs.laws.shares_are_readable.Goals as goal

pub returns : goal.returns
returns g c = λ graph cut worker s store mirrors ok is within fit share.
    readable (g.P.VertexProgram.meaning c.args.program.now) graph cut worker s store mirrors ok is within share fit
