use Rattle.std.proofs.Common.{ℕ, length, sym, subst, ap, arith}
use Rattle.std.specs.Prelude.{All}
use Rattle.std.specs.Vec.Iter.{into_iter_items}
use Rattle.pg_law.specs.Configuration.{message_in}
use Rattle.pg_cut.specs.ByWorker.{lists_in}
use Rattle.pg_apply_scatter.specs.Sending.{IsSentIn}
use Rattle.pg_apply_scatter.specs.Delivering.{signals_of, deltas_of, message_from, cell_from, cell_in}
use Rattle.pg_apply_scatter.proofs.Receiving.{at_end, after_first, first_one, received_more, received_all}
use Rattle.pg_apply_scatter.proofs.delivery.deliver.Goals as goal

pub receive_all-requires-clause-sent : goal.receive_all-requires-clause-sent
receive_all-requires-clause-sent g c κs within = let p = g.P.VertexProgram.meaning c.args.program.now in
    let Own = All (IsSentIn p (length c.loop-list.messages)) in
    first_one Own c.in-Some.list.items (lists_in (into_iter_items c.next.new.self)) (lists_in (into_iter_items c.loop-list.list-iterator)) (ap lists_in c.in-Some.ensures.steps.0) c.loop-list.invariant.sent

pub loop-list-preserved : goal.loop-list-preserved
loop-list-preserved g c = let p = g.P.VertexProgram.meaning c.args.program.now in
    let left = lists_in (into_iter_items c.next.new.self) in
    let step = ap lists_in c.in-Some.ensures.steps.0 in
    let Own : ℕ → Type 0 = λ n. All (All (IsSentIn p n)) left in
    record {
      messages = λ v h. received_more (signals_of p v) (message_from p v (message_in c.args.messages.now v) (lists_in c.args.sent.items)) (message_in c.loop-list.messages v) (message_in c.receive_all.new.messages v) c.in-Some.list.items left
          (lists_in (into_iter_items c.loop-list.list-iterator)) step (c.loop-list.invariant.messages v h) (c.in_ok-receive_all.ensures.messages v (omega (arith, h, c.loop-list.auto.messages)));
      cells = λ v h. received_more (deltas_of p v) (cell_from p v (cell_in c.args.cells.now v) (lists_in c.args.sent.items)) (cell_in c.loop-list.cells v) (cell_in c.receive_all.new.cells v) c.in-Some.list.items left
          (lists_in (into_iter_items c.loop-list.list-iterator)) step (c.loop-list.invariant.cells v h) (c.in_ok-receive_all.ensures.cells v (omega (arith, h, c.loop-list.auto.cells)));
      sent = subst Own (sym c.receive_all.auto.messages) (after_first (All (IsSentIn p (length c.loop-list.messages))) c.in-Some.list.items left (lists_in (into_iter_items c.loop-list.list-iterator)) step c.loop-list.invariant.sent);
      own = c.in_ok-receive_all.ensures.own;
      own_cells = c.in_ok-receive_all.ensures.own_cells;
    }

pub returns-clause-messages : goal.returns-clause-messages
returns-clause-messages g c = let p = g.P.VertexProgram.meaning c.args.program.now in λ v h. received_all (signals_of p v) (message_from p v (message_in c.args.messages.now v) (lists_in c.args.sent.items)) (message_in c.loop-list.messages v)
    (lists_in (into_iter_items c.loop-list.list-iterator)) (ap lists_in (at_end c.loop-list.list-iterator c.in-None.ensures.steps.0)) (c.loop-list.invariant.messages v h)

pub returns-clause-cells : goal.returns-clause-cells
returns-clause-cells g c = let p = g.P.VertexProgram.meaning c.args.program.now in λ v h. received_all (deltas_of p v) (cell_from p v (cell_in c.args.cells.now v) (lists_in c.args.sent.items)) (cell_in c.loop-list.cells v)
    (lists_in (into_iter_items c.loop-list.list-iterator)) (ap lists_in (at_end c.loop-list.list-iterator c.in-None.ensures.steps.0)) (c.loop-list.invariant.cells v h)
