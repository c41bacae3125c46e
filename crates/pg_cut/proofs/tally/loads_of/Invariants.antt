use Rattle.std.proofs.Common.{◌≡◌, ◌<◌, length, take, count_by, ◌==◌}
use Rattle.std.specs.Prelude.{slice_index}
use Rattle.pg_cut.proofs.tally.loads_of.Given as goal

abbrev pub invariant-loop-e : goal.invariant-loop-e
invariant-loop-e l = record {
  count : length l.loads.items ≡ l.workers;
  each : (w : _) → w < l.workers → slice_index l.loads.items w ≡ count_by (λ x. x == w) (take l.e l.place);
}
