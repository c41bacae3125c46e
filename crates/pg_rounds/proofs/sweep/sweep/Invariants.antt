use Rattle.std.specs.List.{range_with_len}
use Rattle.pg_law.specs.Configuration.{AreMessages}
use Rattle.pg_rounds.specs.Carries.{outcomes_with}
use Rattle.pg_rounds.specs.Visits.{IsVisited}
use Rattle.pg_rounds.proofs.sweep.sweep.Given as goal

-- the edges so far are visited
abbrev pub invariant-loop-e : goal.invariant-loop-e
invariant-loop-e g l = let p = g.P.VertexProgram.meaning l.program in
    record {
      visited : IsVisited p l.graph l.values l.words (outcomes_with p l.graph l.carries) (range_with_len 0 l.e) l.initial.messages l.messages l.initial.changes.items l.changes.items;
      own : AreMessages p l.graph l.messages;
    }
