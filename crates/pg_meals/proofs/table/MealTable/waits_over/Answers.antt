use Rattle.pg_meals.proofs.Carried.{board_is}
use Rattle.pg_meals.proofs.table.MealTable.waits_over.Goals as goal

pub content-requires-clause-board : goal.content-requires-clause-board
content-requires-clause-board g c = board_is (g.P.VertexProgram.meaning c.self.inside.program.now) c.self.inside.graph.now c.self.inside.opening c.self.inside.board c.self.invariant.0
