use Rattle.std.proofs.Common.{ℕ, List, length, ap, arith}
use Rattle.std.specs.Prelude.{◌==◌}
use Rattle.pg_law.specs.Configuration.{is_signalled}
use Rattle.pg_serial.proofs.Queues.{none_pass}
use Rattle.pg_virtual.proofs.single.least_of.Goals as goal

pub returns : goal.returns
returns c = ap (λ (xs : List ℕ). length xs == 0) (none_pass (is_signalled c.args.state.now) (length c.args.graph.now.ids) (λ v i. c.loop-v.invariant v (omega arith)))
