use Rattle.std.proofs.Common.{◌≡◌, ◌+◌, ◌-◌, ◌≤◌, length, drop}
use Rattle.pg_journal.specs.Fronts.{digits_at}
use Rattle.pg_journal.proofs.fronts.digits_at.Given as goal

abbrev pub decreases-loop-count : goal.decreases-loop-count
decreases-loop-count l = length l.bytes - l.count

abbrev pub invariant-loop-count : goal.invariant-loop-count
invariant-loop-count l = record {
  within : l.count ≤ length l.bytes;
  count : l.count + digits_at (drop l.count l.bytes) ≡ digits_at l.bytes;
}
