use Rattle.std.proofs.Common.{◌≡◌, ◌+◌, ◌<◌, true, cond, length}
use Rattle.std.specs.Prelude.{slice_index}
use Rattle.pg_cut.specs.WorkerSet.{has}
use Rattle.pg_cut.proofs.tally.count_each.Given as goal

-- the workers that are no longer among the rest are counted
abbrev pub invariant-loop-rest : goal.invariant-loop-rest
invariant-loop-rest l = record {
  among : (w : _) → has l.rest w ≡ true → has l.set w ≡ true;
  count : length l.counts.items ≡ length l.initial.counts.items;
  each : (w : _) → w < length l.initial.counts.items → slice_index l.counts.items w + cond (has l.rest w) 1 0 ≡ slice_index l.initial.counts.items w + cond (has l.set w) 1 0;
}

abbrev pub decreases-loop-rest : goal.decreases-loop-rest
decreases-loop-rest l = l.rest
