use Rattle.pg_meals.proofs.Carried.{acts_carry, halves_carry}
use Rattle.pg_meals.proofs.laws.acts_carry.Goals as goal

pub returns-clause-acts : goal.returns-clause-acts
returns-clause-acts g c = acts_carry (g.P.VertexProgram.meaning c.args.program.now) c.laws_of.ensures

pub returns-clause-halves : goal.returns-clause-halves
returns-clause-halves g c = halves_carry (g.P.VertexProgram.meaning c.args.program.now) c.laws_of.ensures
