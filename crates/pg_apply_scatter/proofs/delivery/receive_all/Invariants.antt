use Rattle.std.proofs.Common.{◌≡◌, ℕ, ◌<◌, length}
use Rattle.std.specs.Prelude.{All}
use Rattle.std.specs.Vec.Iter.{into_iter_items}
use Rattle.pg_law.specs.Configuration.{message_in}
use Rattle.pg_apply_scatter.specs.Sending.{IsSentIn}
use Rattle.pg_apply_scatter.specs.Delivering.{signals_of, deltas_of, cell_in, AreMessagesOf, AreCellsOf}
use Rattle.pg_apply_scatter.proofs.delivery.receive_all.Given as goal

-- what is left of the list, received from here on, comes to the whole list
abbrev pub invariant-loop-sent : goal.invariant-loop-sent
invariant-loop-sent g l = let p = g.P.VertexProgram.meaning l.program in
    let left = into_iter_items l.sent-iterator in
    record {
      messages : (v : ℕ) → v < length l.initial.messages → signals_of p v (message_in l.messages v) left ≡ signals_of p v (message_in l.initial.messages v) l.fn.list.items;
      cells : (v : ℕ) → v < length l.initial.cells → deltas_of p v (cell_in l.cells v) left ≡ deltas_of p v (cell_in l.initial.cells v) l.fn.list.items;
      sent : All (IsSentIn p (length l.messages)) left;
      own : AreMessagesOf p l.messages;
      own_cells : AreCellsOf p l.cells;
    }
