use Rattle.std.proofs.Common.{arith}
use Rattle.pg_serial.proofs.Summaries.{zeros_none, summaries_made}
use Rattle.pg_serial.proofs.signal_set.SignalSet.new.Goals as goal

pub invariant_of-result : goal.invariant_of-result
invariant_of-result c = summaries_made _ _ _ _ c.in_ok-bits.ensures c.in_ok-groups.ensures c.in_ok-blocks.ensures (omega (arith, c.requires))

pub returns-clause-none : goal.returns-clause-none
returns-clause-none c = rw c.in_ok-bits.ensures (zeros_none _)
