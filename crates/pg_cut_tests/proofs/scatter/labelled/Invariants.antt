use Rattle.std.proofs.Common.{◌≡◌, ℕ, ◌<◌, length}
use Rattle.pg_law.specs.Words.{IsU64}
use Rattle.pg_law.specs.Configuration.{datum_in}
use Rattle.pg_cut_tests.proofs.scatter.labelled.Given as goal

abbrev pub invariant-loop-label : goal.invariant-loop-label
invariant-loop-label g l = record {
  count : length l.values.items ≡ l.label-index;
  each : (v : ℕ) → v < length l.values.items → IsU64 (datum_in l.values.items v).first;
}
