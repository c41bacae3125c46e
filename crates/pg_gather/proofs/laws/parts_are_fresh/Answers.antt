use Rattle.pg_gather.proofs.Parting.{merged_are_fresh}
use Rattle.pg_gather.proofs.laws.parts_are_fresh.Goals as goal

pub returns : goal.returns
returns g c = λ graph cut s stores mirrors wanted ok is fit shares within apart.
    merged_are_fresh (g.P.VertexProgram.meaning c.args.program.now) c.laws_of.ensures graph cut s ok is fit wanted apart stores mirrors shares
