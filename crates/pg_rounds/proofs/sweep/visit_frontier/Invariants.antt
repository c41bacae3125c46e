use Rattle.std.proofs.Common.{take}
use Rattle.pg_law.specs.Configuration.{AreMessages}
use Rattle.pg_rounds.specs.Carries.{outcomes_with}
use Rattle.pg_rounds.specs.Visits.{visits, IsVisited}
use Rattle.pg_rounds.proofs.sweep.visit_frontier.Given as goal

-- the vertices so far have visited their edges
abbrev pub invariant-loop-v : goal.invariant-loop-v
invariant-loop-v g l = let p = g.P.VertexProgram.meaning l.program in
    record {
      visited : IsVisited p l.graph l.values l.words (outcomes_with p l.graph l.carries) (visits l.graph (outcomes_with p l.graph l.carries) (take l.v-index l.frontier)) l.initial.messages l.messages l.initial.changes.items l.changes.items;
      own : AreMessages p l.graph l.messages;
    }
