use Rattle.std.proofs.Common.{◌≡◌, ◌<◌, length}
use Rattle.std.specs.Prelude.{slice_index}
use Rattle.pg_greedy.proofs.marks.clear_counts.Given as goal

abbrev pub invariant-loop-i : goal.invariant-loop-i
invariant-loop-i l = record {
  count : length l.counts.items ≡ length l.fn.counts.items;
  zero : (k : _) → k < l.i → slice_index l.counts.items k ≡ 0;
}
