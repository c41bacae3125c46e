use Rattle.std.proofs.Common.{sym, subst}
use Rattle.pg_meals.specs.Tables.{Table, AreCaches}
use Rattle.pg_meals.specs.Closing.{AllFree, AreLeft}
use Rattle.pg_meals.proofs.Carried.{board_is}
use Rattle.pg_meals.proofs.Closed.{caches_left}
use Rattle.pg_meals.proofs.table.MealTable.close.Goals as goal

pub cells_left-caches-requires-clause-board : goal.cells_left-caches-requires-clause-board
cells_left-caches-requires-clause-board g c = board_is (g.P.VertexProgram.meaning c.self.inside.program.now) c.self.inside.graph.now c.self.inside.opening c.self.inside.board c.self.invariant.0

pub returns-clause-free : goal.returns-clause-free
returns-clause-free g c = λ t. subst (λ (x : Table _ _). AllFree x.board.actors.items) c.self.view_is c.if-not-is_free.ensures

pub returns-clause-cells : goal.returns-clause-cells
returns-clause-cells g c = subst (λ (x : Table _ _). AreLeft x.graph x.board c.cells_left-caches.result) c.self.view_is c.cells_left-caches.ensures.left

pub returns-clause-caches : goal.returns-clause-caches
returns-clause-caches g c = λ cut.
    let p = g.P.VertexProgram.meaning c.self.inside.program.now in
    let graph = c.self.inside.graph.now in
    let true_of = caches_left p c.laws_of.ensures graph c.self.inside.opening c.self.inside.board c.self.invariant.0 c.if-not-is_free.ensures c.cells_left-caches.result c.cells_left-caches.ensures.left cut in
    subst (λ (x : Table _ _). AreCaches (g.P.VertexProgram.meaning x.program) x.graph cut c.state_left-state.result c.cells_left-caches.result) c.self.view_is
    (subst (λ s. AreCaches p graph cut s c.cells_left-caches.result) (sym c.state_left-state.ensures) true_of)
