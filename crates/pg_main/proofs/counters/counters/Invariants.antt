use Rattle.std.proofs.Common.{◌≡◌, length}
use Rattle.pg_main.specs.Counters.{ArePresent}
use Rattle.pg_main.proofs.counters.counters.Given as goal

-- one for each worker so far
abbrev pub invariant-loop-worker : goal.invariant-loop-worker
invariant-loop-worker g l = record {
  count : length l.counters.items ≡ l.worker;
  present : ArePresent l.counters.items;
}
