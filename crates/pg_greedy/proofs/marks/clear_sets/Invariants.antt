use Rattle.std.proofs.Common.{◌≡◌, ◌<◌, length}
use Rattle.std.specs.Prelude.{slice_index}
use Rattle.pg_greedy.proofs.marks.clear_sets.Given as goal

abbrev pub invariant-loop-v : goal.invariant-loop-v
invariant-loop-v l = record {
  count : length l.sets.items ≡ length l.fn.sets.items;
  zero : (k : _) → k < l.v → slice_index l.sets.items k ≡ 0;
}
