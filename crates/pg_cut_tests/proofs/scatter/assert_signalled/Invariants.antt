use Rattle.std.proofs.Common.{ℕ, ◌<◌, get_or}
use Rattle.pg_paths.specs.Components.{components}
use Rattle.pg_apply_scatter.specs.Applying.{IsMastered}
use Rattle.pg_cut_tests.proofs.scatter.assert_signalled.Given as goal

abbrev pub invariant-loop-i : goal.invariant-loop-i
invariant-loop-i g l = (k : ℕ) → k < l.i → IsMastered components l.graph l.messages (get_or l.sums k (0, 0))
