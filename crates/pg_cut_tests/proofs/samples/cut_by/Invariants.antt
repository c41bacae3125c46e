use Rattle.std.proofs.Common.{◌≡◌, ◌<◌, length}
use Rattle.std.specs.Prelude.{All}
use Rattle.pg_cut_tests.proofs.samples.cut_by.Given as goal

abbrev pub invariant-loop-worker : goal.invariant-loop-worker
invariant-loop-worker g l = record {
  count : length l.place.items ≡ l.worker-index;
  each : All (λ w. w < l.workers) l.place.items;
}
