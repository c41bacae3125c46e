use Rattle.std.proofs.Common.{sym, subst}
use Rattle.pg_meals.specs.Tables.{Table}
use Rattle.pg_meals.specs.Closing.{HasRoom}
use Rattle.pg_meals.specs.Steps.{RefusesOn}
use Rattle.pg_meals.proofs.Carried.{board_is, step_carries}
use Rattle.pg_meals.proofs.table.MealTable.step.Goals as goal

pub step-requires-clause-board : goal.step-requires-clause-board
step-requires-clause-board g c = board_is (g.P.VertexProgram.meaning c.self.inside.program.now) c.self.inside.graph.now c.self.inside.opening c.self.inside.board c.self.invariant.0

pub invariant_of-self : goal.invariant_of-self
invariant_of-self g c = (
  step_carries (g.P.VertexProgram.meaning c.self.inside.program.now) c.laws_of.ensures c.self.inside.graph.now c.self.inside.opening c.self.inside.board c.step.new.self c.args.actor c.args.act c.step.result c.self.invariant.0 c.step.ensures.acts c.step.ensures.frame c.step.ensures.tallied,
  subst (λ k. HasRoom c.self.inside.graph.now k c.self.inside.room) (sym c.step.ensures.frame.caches) c.self.invariant.1,
)

pub returns-clause-refused : goal.returns-clause-refused
returns-clause-refused g c = λ n h.
    subst (λ (t : Table _ _). RefusesOn t.graph t.board c.args.actor c.args.act) c.self.view_is (c.step.ensures.refused n) h

pub returns-clause-kept : goal.returns-clause-kept
returns-clause-kept g c = (invariant_of-self g c).0
