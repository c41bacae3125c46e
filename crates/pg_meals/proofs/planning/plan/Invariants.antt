use Rattle.std.proofs.Common.{◌≡◌, take}
use Rattle.std.specs.Prelude.{map}
use Rattle.pg_meals.specs.Plans.{planned_over}
use Rattle.pg_meals.proofs.planning.plan.Given as goal

-- the forks so far are planned
abbrev pub invariant-loop-e : goal.invariant-loop-e
invariant-loop-e g l = let p = g.P.VertexProgram.meaning l.program in
    l.plans.items ≡ map (planned_over p l.graph l.forks l.vertex l.applied) (take l.e-index l.around)
