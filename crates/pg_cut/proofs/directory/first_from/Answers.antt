use Rattle.std.proofs.Common.{arith}
use Rattle.pg_cut.proofs.Blocks.{one_more, no_more}
use Rattle.pg_cut.proofs.directory.first_from.Goals as goal

pub loop-place-preserved : goal.loop-place-preserved
loop-place-preserved c = one_more c.args.keys.now c.requires.ascending c.args.x c.loop-place.place (omega arith) (omega arith)

pub returns-else-keys-place : goal.returns-else-keys-place
returns-else-keys-place c = omega (arith, c.loop-place.invariant, no_more c.args.keys.now c.requires.ascending c.args.x c.loop-place.place (omega arith))
