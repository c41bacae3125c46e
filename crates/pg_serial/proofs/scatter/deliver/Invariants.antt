use Rattle.std.proofs.Common.{◌≡◌, ◌<◌, length, take}
use Rattle.pg_law.specs.Laws.{IsOptional}
use Rattle.pg_law.specs.Configuration.{message_in}
use Rattle.pg_serial.specs.Sending.{message_with}
use Rattle.pg_serial.proofs.scatter.deliver.Given as goal

-- what was sent so far is delivered
abbrev pub invariant-loop-sent : goal.invariant-loop-sent
invariant-loop-sent g l = let p = g.P.VertexProgram.meaning l.program in
    record {
      messages : (v : _) → v < length l.messages → message_in l.messages v ≡ message_with p v (message_in l.initial.messages v) (take l.sent-index l.sents);
      own : (v : _) → v < length l.messages → IsOptional p.IsMessage (message_in l.messages v);
    }
