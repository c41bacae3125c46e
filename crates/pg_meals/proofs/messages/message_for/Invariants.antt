use Rattle.std.proofs.Common.{◌≡◌, take}
use Rattle.pg_law.specs.Laws.{IsOptional}
use Rattle.pg_meals.specs.Plans.{message_along}
use Rattle.pg_meals.proofs.messages.message_for.Given as goal

-- what waits on the forks so far is joined
abbrev pub invariant-loop-e : goal.invariant-loop-e
invariant-loop-e g l = let p = g.P.VertexProgram.meaning l.program in
    record {
      value : l.message ≡ message_along p.combine l.graph l.forks l.vertex l.fn.own (take l.e-index l.around);
      own : IsOptional p.IsMessage l.message;
    }
