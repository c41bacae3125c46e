use Rattle.std.proofs.Common.{arith}
use Rattle.std.proofs.lemmas.List.Kept.{AllPairs-from_increasing}
use Rattle.pg_gather.proofs.sweep.is_for_a_sweep.Goals as goal

pub returns-then-is_dense : goal.returns-then-is_dense
returns-then-is_dense c = λ yes i j d lt below same. absurd (omega (arith, AllPairs-from_increasing c.args.wanted.now (c.ascends.ensures yes) i j d lt below, same))
