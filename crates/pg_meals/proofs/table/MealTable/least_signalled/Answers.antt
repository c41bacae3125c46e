use Rattle.std.proofs.Common.{subst}
use Rattle.pg_meals.specs.Tables.{Table, IsQuietTable, IsFirstOf}
use Rattle.pg_meals.proofs.Carried.{board_is}
use Rattle.pg_meals.proofs.Seen.{quiet_there, first_there}
use Rattle.pg_meals.proofs.table.MealTable.least_signalled.Goals as goal

pub least_signalled-requires : goal.least_signalled-requires
least_signalled-requires g c = board_is (g.P.VertexProgram.meaning c.self.inside.program.now) c.self.inside.graph.now c.self.inside.opening c.self.inside.board c.self.invariant.0

pub returns-in-Some : goal.returns-in-Some
returns-in-Some g c =
    subst (λ (t : Table _ _). IsFirstOf (g.P.VertexProgram.meaning t.program) t c.in-Some.first.vertex) c.self.view_is
    (first_there (g.P.VertexProgram.meaning c.self.inside.program.now) c.laws_of.ensures c.self.inside.graph.now c.self.inside.opening c.self.inside.board c.self.invariant.0 c.in-Some.first c.in-Some.ensures)

pub returns-in-None : goal.returns-in-None
returns-in-None g c =
    subst (λ (t : Table _ _). IsQuietTable (g.P.VertexProgram.meaning t.program) t) c.self.view_is
    (λ v i. quiet_there (g.P.VertexProgram.meaning c.self.inside.program.now) c.laws_of.ensures c.self.inside.graph.now c.self.inside.opening c.self.inside.board c.self.invariant.0 v (c.in-None.ensures v i))
