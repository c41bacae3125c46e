use Rattle.std.proofs.Common.{length, arith}
use Rattle.std.specs.Prelude.{None}
use Rattle.pg_meals.proofs.Left.{filled_all}
use Rattle.pg_meals.proofs.closing.write_messages.Goals as goal

pub returns : goal.returns
returns g c = filled_all _ c.loop-v.v (length c.args.seats.now) None c.loop-v.messages.items c.loop-v.invariant (omega arith)
