use Rattle.std.proofs.Common.{◌≡◌, length}
use Rattle.std.specs.Prelude.{All, IsSome}
use Rattle.pg_cut_tests.proofs.sync.counters.Given as goal

-- one for each worker so far
abbrev pub invariant-loop-worker : goal.invariant-loop-worker
invariant-loop-worker g l = record {
  count : length l.counters.items ≡ l.worker;
  present : All IsSome l.counters.items;
}
