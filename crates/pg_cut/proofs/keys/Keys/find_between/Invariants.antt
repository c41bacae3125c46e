use Rattle.std.proofs.Common.{◌+◌, ◌-◌, ◌*◌, ◌<◌, ◌≤◌, ◌^◌, length}
use Rattle.std.specs.Prelude.{slice_index}
use Rattle.pg_cut.proofs.keys.Keys.find_between.Given as goal

-- the key is in no place outside, and what is left shrinks to half with each step
abbrev pub invariant-loop-low : goal.invariant-loop-low
invariant-loop-low g l = record {
  within : l.high ≤ length l.self;
  before : (i : _) → i < l.low → slice_index l.self i < l.key;
  after : (i : _) → l.high ≤ i → i < length l.self → l.key < slice_index l.self i;
  counted : l.initial.steps ≤ l.steps;
  cost : 2 ^ (l.steps - l.initial.steps) * (2 * (l.high - l.low)) ≤ 2 * (l.initial.high - l.initial.low);
  total : 2 ^ (l.steps - l.initial.steps) ≤ 2 * (l.initial.high - l.initial.low) + 1;
}

abbrev pub decreases-loop-low : goal.decreases-loop-low
decreases-loop-low g l = l.high - l.low
