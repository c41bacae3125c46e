use Rattle.std.proofs.Common.{◌≡◌, ℕ, ◌<◌, length}
use Rattle.std.specs.Prelude.{All}
use Rattle.std.specs.Vec.Iter.{into_iter_items}
use Rattle.pg_law.specs.Configuration.{message_in}
use Rattle.pg_cut.specs.ByWorker.{lists_in}
use Rattle.pg_apply_scatter.specs.Sending.{IsSentIn}
use Rattle.pg_apply_scatter.specs.Delivering.{message_from, cell_from, cell_in, AreMessagesOf, AreCellsOf}
use Rattle.pg_apply_scatter.proofs.delivery.deliver.Given as goal

-- what is left of the lists, received from here on, comes to all lists
abbrev pub invariant-loop-list : goal.invariant-loop-list
invariant-loop-list g l = let p = g.P.VertexProgram.meaning l.program in
    let left = lists_in (into_iter_items l.list-iterator) in
    record {
      messages : (v : ℕ) → v < length l.initial.messages → message_from p v (message_in l.messages v) left ≡ message_from p v (message_in l.initial.messages v) (lists_in l.fn.sent.items);
      cells : (v : ℕ) → v < length l.initial.cells → cell_from p v (cell_in l.cells v) left ≡ cell_from p v (cell_in l.initial.cells v) (lists_in l.fn.sent.items);
      sent : All (All (IsSentIn p (length l.messages))) left;
      own : AreMessagesOf p l.messages;
      own_cells : AreCellsOf p l.cells;
    }
