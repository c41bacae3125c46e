use Rattle.std.proofs.Common.{ℕ, length, sym, subst, arith}
use Rattle.std.specs.Prelude.{All}
use Rattle.std.specs.Vec.Iter.{into_iter_items}
use Rattle.pg_law.specs.Configuration.{message_in}
use Rattle.pg_apply_scatter.specs.Sending.{IsSentIn}
use Rattle.pg_apply_scatter.specs.Delivering.{with_signal, with_delta, signals_of, deltas_of, cell_in}
use Rattle.pg_apply_scatter.proofs.Receiving.{at_end, after_first, received_more, received_all}
use Rattle.pg_apply_scatter.proofs.delivery.receive_all.Goals as goal

pub loop-sent-preserved : goal.loop-sent-preserved
loop-sent-preserved g c = let p = g.P.VertexProgram.meaning c.args.program.now in
    let left = into_iter_items c.next.new.self in
    let step = c.in-Some.ensures.steps.0 in
    let Own : ℕ → Type 0 = λ n. All (IsSentIn p n) left in
    record {
      messages = λ v h. received_more (with_signal p v) (signals_of p v (message_in c.args.messages.now v) c.args.list.items) (message_in c.loop-sent.messages v) (message_in c.receive.new.messages v) c.in-Some.sent left
          (into_iter_items c.loop-sent.sent-iterator) step (c.loop-sent.invariant.messages v h) (c.in_ok-receive.ensures.messages v (omega (arith, h, c.loop-sent.auto.messages)));
      cells = λ v h. received_more (with_delta p v) (deltas_of p v (cell_in c.args.cells.now v) c.args.list.items) (cell_in c.loop-sent.cells v) (cell_in c.receive.new.cells v) c.in-Some.sent left
          (into_iter_items c.loop-sent.sent-iterator) step (c.loop-sent.invariant.cells v h) (c.in_ok-receive.ensures.cells v (omega (arith, h, c.loop-sent.auto.cells)));
      sent = subst Own (sym c.receive.auto.messages) (after_first (IsSentIn p (length c.loop-sent.messages)) c.in-Some.sent left (into_iter_items c.loop-sent.sent-iterator) step c.loop-sent.invariant.sent);
      own = c.in_ok-receive.ensures.own;
      own_cells = c.in_ok-receive.ensures.own_cells;
    }

pub returns-clause-messages : goal.returns-clause-messages
returns-clause-messages g c = let p = g.P.VertexProgram.meaning c.args.program.now in λ v h. received_all (with_signal p v) (signals_of p v (message_in c.args.messages.now v) c.args.list.items) (message_in c.loop-sent.messages v)
    (into_iter_items c.loop-sent.sent-iterator) (at_end c.loop-sent.sent-iterator c.in-None.ensures.steps.0) (c.loop-sent.invariant.messages v h)

pub returns-clause-cells : goal.returns-clause-cells
returns-clause-cells g c = let p = g.P.VertexProgram.meaning c.args.program.now in λ v h. received_all (with_delta p v) (deltas_of p v (cell_in c.args.cells.now v) c.args.list.items) (cell_in c.loop-sent.cells v)
    (into_iter_items c.loop-sent.sent-iterator) (at_end c.loop-sent.sent-iterator c.in-None.ensures.steps.0) (c.loop-sent.invariant.cells v h)
