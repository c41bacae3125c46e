use Rattle.std.proofs.Common.{length, arith}
use Rattle.pg_law.specs.Values.{two}
use Rattle.pg_meals.proofs.Left.{filled_all}
use Rattle.pg_meals.proofs.closing.write_data.Goals as goal

pub returns : goal.returns
returns g c = filled_all _ c.loop-v.v (length c.args.seats.now) (two 0 0) c.loop-v.values.items c.loop-v.invariant (omega arith)
