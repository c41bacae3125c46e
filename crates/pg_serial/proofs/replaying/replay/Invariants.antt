use Rattle.std.proofs.Common.{◌≡◌, ◌+◌, take}
use Rattle.pg_law.specs.Configuration.{IsFit}
use Rattle.pg_law.specs.Journal.{IsLegal}
use Rattle.pg_serial.specs.Journals.{state_at, gathers_over}
use Rattle.pg_serial.proofs.replaying.replay.Given as goal

-- the entries so far are legal
abbrev pub invariant-loop-at : goal.invariant-loop-at
invariant-loop-at g l = let p = g.P.VertexProgram.meaning l.program in
    record {
      fit : IsFit p l.graph l.state;
      state : l.state ≡ state_at p l.graph l.initial.state l.journal l.at;
      legal : IsLegal p l.graph l.initial.state (take l.at l.journal);
      counted : l.steps ≡ l.fn.steps + gathers_over p l.graph (take l.at l.journal);
    }
