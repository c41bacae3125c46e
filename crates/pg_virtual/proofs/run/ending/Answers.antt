use Rattle.std.proofs.Common.{cond, sym, ap}
use Rattle.pg_law.specs.declared.values.End.TheVariants.{Quiescent, Spent}
use Rattle.pg_virtual.proofs.Course.{not_quiet}
use Rattle.pg_virtual.proofs.run.ending.Goals as goal

pub returns-in-Some : goal.returns-in-Some
returns-in-Some c = sym (ap (λ b. cond b Quiescent Spent) (not_quiet c.args.graph.now c.args.state.now _ c.in-Some.ensures.0 c.in-Some.ensures.1))
