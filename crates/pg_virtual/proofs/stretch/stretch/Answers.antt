use Rattle.std.proofs.Common.{subst}
use Rattle.pg_meals.specs.Tables.{Table}
use Rattle.pg_meals.specs.Carrying.{IsKept}
use Rattle.pg_virtual.proofs.Made.{stretch_of}
use Rattle.pg_virtual.proofs.Seated.{few_opened, some_in, closes}
use Rattle.pg_virtual.proofs.stretch.stretch.Goals as goal

pub play_on-requires-clause-seated : goal.play_on-requires-clause-seated
play_on-requires-clause-seated g c κs within = record {
  graph = c.in_ok-table.ensures.graph;
  actors = c.in_ok-table.ensures.actors;
  workers = few_opened c.args.graph.now c.args.cut.now c.args.state _ c.in_ok-table.table.board c.requires.cut c.in_ok-table.ensures.opened;
}

pub unwrap-requires : goal.unwrap-requires
unwrap-requires g c = closes c.close.result c.play_on.new.table.board.actors.items c.in_ok-play_on.ensures.free c.close.ensures.busy

pub returns-clause-made : goal.returns-clause-made
returns-clause-made g c = stretch_of g.P.VertexProgram.meaning c.args.program.now c.args.graph.now c.args.state c.args.fuel c.in_ok-table.table c.play_on.new.table c.unwrap.result
    c.in_ok-table.ensures.program c.in_ok-table.ensures.graph c.in_ok-table.ensures.opening c.in_ok-table.ensures.fuel c.in_ok-play_on.ensures.played (subst (λ (t : Table _ _). IsKept (g.P.VertexProgram.meaning t.program) t.graph t.opening t.board) c.table.view_is c.table.invariant.0)
    (some_in _ _ _ c.unwrap.ensures c.close.ensures.journal) (some_in _ _ _ c.unwrap.ensures c.close.ensures.state) (some_in _ _ _ c.unwrap.ensures c.close.ensures.fit)
    (some_in _ _ _ c.unwrap.ensures c.close.ensures.legal) (some_in _ _ _ c.unwrap.ensures c.close.ensures.caches)
