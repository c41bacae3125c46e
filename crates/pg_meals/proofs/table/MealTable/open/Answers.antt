use Rattle.std.proofs.Common.{sym, ◌∙◌}
use Rattle.pg_meals.specs.Opened.{cells_in}
use Rattle.pg_meals.proofs.Carried.{start_is_kept, deltas_of, cells_of}
use Rattle.pg_meals.proofs.table.MealTable.open.Goals as goal

pub invariant_of-result : goal.invariant_of-result
invariant_of-result g c =
    let p = g.P.VertexProgram.meaning c.args.program.now in
    let graph = c.args.graph.now in
    let board = c.in_ok-board.board in (
      start_is_kept p c.laws_of.ensures graph c.args.cut.now c.args.state (cells_in c.args.caches) board c.vertices.ensures.graph c.requires.cut c.requires.fit
          (λ t. deltas_of p graph c.args.cut.now c.args.state c.args.caches c.requires.caches (sym c.in_ok-board.ensures.caches ∙ t))
          (cells_of p graph c.args.cut.now c.args.state board c.args.caches c.requires.caches c.in_ok-board.ensures.caches)
          c.in_ok-board.ensures.opened c.in_ok-board.ensures.board,
      c.in_ok-room.ensures,
    )
