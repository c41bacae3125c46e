use Rattle.std.proofs.Common.{arith}
use Rattle.pg_serial.proofs.Words.{has_more, taken_more}
use Rattle.pg_serial.proofs.bits.add.Goals as goal

pub returns-clause-has : goal.returns-clause-has
returns-clause-has c = has_more c.args.words.now c.args.k (omega arith)

pub returns-clause-taken : goal.returns-clause-taken
returns-clause-taken c = taken_more c.args.words.now c.args.k (omega arith)
