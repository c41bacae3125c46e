use Rattle.std.proofs.Common.{ℕ, ◌≡◌, slice_index_or, None, arith}
use Rattle.pg_meals.specs.Entries.{actor_at}
use Rattle.pg_meals.specs.declared.act.Act.TheVariants.{Drop, Back, Give, WriteMirror}
use Rattle.pg_virtual.proofs.Same.{played_none, played_then, played_by, few_same}
use Rattle.pg_virtual.proofs.Retired.{Others, tried, gives, writes, wrote, backs, drops}
use Rattle.pg_virtual.proofs.retire.retire.Goals as goal

pub loop-worker-init : goal.loop-worker-init
loop-worker-init g c =
    let m = g.P.VertexProgram.meaning in
    let t = c.args.table.now in
    let played = played_by c.step.ensures.same c.step.ensures.frame in
    let is = tried m t c.args.actor Give c.step.result t c.step.new.self (played_none t) played c.step.ensures.frame c.step.ensures.acts c.step.ensures.refused c.step.ensures.kept in record {
      played = played;
      writing = gives m t c.args.actor c.in-Some.vertex c.step.new.self.board c.vertex_of.result is c.vertex_of.ensures.value c.in-Some.is;
    }

pub loop-worker-preserved : goal.loop-worker-preserved
loop-worker-preserved g c =
    let m = g.P.VertexProgram.meaning in
    let t = c.args.table.now in
    let n : ℕ = c.loop-worker.worker in
    let step = c.step-in-loop-worker in
    let played = played_then c.loop-worker.invariant.played (played_by step.ensures.same step.ensures.frame) in
    let is = tried m t c.args.actor (WriteMirror n) step.result c.loop-worker.table step.new.self c.loop-worker.invariant.played played step.ensures.frame step.ensures.acts step.ensures.refused step.ensures.kept in record {
      played = played;
      writing = writes m t c.args.actor c.in-Some.vertex n c.loop-worker.table.board step.new.self.board c.loop-worker.invariant.writing is;
    }

pub loop-edge-init : goal.loop-edge-init
loop-edge-init g c = record {
  played = c.loop-worker.invariant.played;
  backing = wrote g.P.VertexProgram.meaning c.args.table.now c.args.actor c.in-Some.vertex c.loop-worker.worker c.loop-worker.table.board (omega (arith, c.loop-worker-test.false))
      (few_same c.requires.workers c.loop-worker.invariant.played.frame) c.loop-worker.invariant.writing;
}

pub loop-edge-preserved : goal.loop-edge-preserved
loop-edge-preserved g c =
    let m = g.P.VertexProgram.meaning in
    let t = c.args.table.now in
    let n : ℕ = c.loop-edge.edge-index in
    let e : ℕ = slice_index_or c.edges_of-edge-items.result.now n 0 in
    let step = c.step-in-loop-edge in
    let played = played_then c.loop-edge.invariant.played (played_by step.ensures.same step.ensures.frame) in
    let is = tried m t c.args.actor (Back e) step.result c.loop-edge.table step.new.self c.loop-edge.invariant.played played step.ensures.frame step.ensures.acts step.ensures.refused step.ensures.kept in record {
      played = played;
      backing = backs m t c.args.actor c.in-Some.vertex n c.args.graph.now c.edges_of-edge-items.result.now c.loop-edge.table.board step.new.self.board c.loop-edge.invariant.backing
          c.requires.graph c.edges_of-edge-items.ensures.value is;
    }

abbrev last : (g : _) (c : goal.After-step-2 g) → ((actor_at c.step-2.new.self.board.actors.items c.args.actor).vertex ≡ None) × Others g.P.VertexProgram.meaning c.args.table.now c.args.actor c.step-2.new.self.board
last g c =
    let m = g.P.VertexProgram.meaning in
    let t = c.args.table.now in
    let played = played_then c.loop-edge.invariant.played (played_by c.step-2.ensures.same c.step-2.ensures.frame) in
    drops m t c.args.actor c.in-Some.vertex c.loop-edge.edge-index c.args.graph.now c.edges_of-edge-items.result.now c.loop-edge.table.board c.step-2.new.self.board
    (omega (arith, c.loop-edge-test.false)) c.requires.graph c.edges_of-edge-items.ensures.value c.loop-edge.invariant.backing
    (tried m t c.args.actor Drop c.step-2.result c.loop-edge.table c.step-2.new.self c.loop-edge.invariant.played played c.step-2.ensures.frame c.step-2.ensures.acts c.step-2.ensures.refused c.step-2.ensures.kept)

pub returns-clause-free : goal.returns-clause-free
returns-clause-free g c = (last g c).0

pub returns-clause-others : goal.returns-clause-others
returns-clause-others g c = (last g c).1
