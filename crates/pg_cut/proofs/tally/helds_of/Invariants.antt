use Rattle.std.proofs.Common.{◌≡◌, ◌<◌, length, take, count_by}
use Rattle.std.specs.Prelude.{slice_index}
use Rattle.pg_cut.specs.WorkerSet.{has}
use Rattle.pg_cut.proofs.tally.helds_of.Given as goal

-- the replicas of the vertices so far
abbrev pub invariant-loop-v : goal.invariant-loop-v
invariant-loop-v l = record {
  count : length l.held.items ≡ l.workers;
  each : (w : _) → w < l.workers → slice_index l.held.items w ≡ count_by (λ bits. has bits w) (take l.v l.spans);
}
