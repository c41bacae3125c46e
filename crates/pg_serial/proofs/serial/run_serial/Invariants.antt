use Rattle.std.proofs.Common.{◌≡◌, ◌+◌, ◌*◌, ◌^◌, ◌≤◌, length}
use Rattle.pg_law.specs.Configuration.{IsFit}
use Rattle.pg_serial.specs.Queue.{HasSignalled}
use Rattle.pg_serial.proofs.Running.{SoFar}
use Rattle.pg_serial.proofs.serial.run_serial.Given as goal

abbrev pub invariant-loop-u : goal.invariant-loop-u
invariant-loop-u g l = let p = g.P.VertexProgram.meaning l.program in
    record {
      fit : IsFit p l.graph l.state;
      room : length l.graph.ids ≤ 64 * length l.queue;
      queue : HasSignalled l.queue l.state;
      so_far : SoFar p l.graph (g.T.EntryText.text l.text l.graph) l.fuel l.fn.state l.state l.left l.gathers
          (g.K.Sink.written l.fn.journal) (g.K.Sink.written l.journal) l.waiting.items;
      counted : l.steps ≡ l.fn.steps + l.gathers;
      few : l.gathers + 2 ^ 24 * l.left ≤ 2 ^ 24 * l.fuel;
      later : g.K.Sink.faults l.fn.journal ≤ g.K.Sink.faults l.journal;
    }

abbrev pub decreases-loop-u : goal.decreases-loop-u
decreases-loop-u g l = l.left
