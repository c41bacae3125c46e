use Rattle.std.proofs.Common.{◌+◌, ◌<◌}
use Rattle.std.specs.Prelude.{slice_index}
use Rattle.pg_cut_tests.proofs.cut.keys_of.Given as goal

-- the numbers so far ascend
abbrev pub invariant-loop-i : goal.invariant-loop-i
invariant-loop-i g l = (k : _) → k + 1 < l.i → slice_index l.numbers k < slice_index l.numbers (k + 1)
