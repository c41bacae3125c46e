use Rattle.std.proofs.Common.{take}
use Rattle.pg_law.specs.Configuration.{AreMessages}
use Rattle.pg_law.specs.Monoid.{part}
use Rattle.pg_rounds.specs.Carries.{outcomes_with}
use Rattle.pg_rounds.specs.Visits.{visitor, IsVisited}
use Rattle.pg_rounds.proofs.sweep.visit_around.Given as goal

-- the edges so far are visited, where they are to be visited from here
abbrev pub invariant-loop-e : goal.invariant-loop-e
invariant-loop-e g l = let p = g.P.VertexProgram.meaning l.program in
    record {
      visited : IsVisited p l.graph l.values l.words (outcomes_with p l.graph l.carries) (part (visitor l.graph (outcomes_with p l.graph l.carries)) l.v (take l.e-index l.around)) l.initial.messages l.messages l.initial.changes.items l.changes.items;
      own : AreMessages p l.graph l.messages;
    }
