use Rattle.std.proofs.Common.{◌≡◌, ℕ, ◌<◌, None, length}
use Rattle.pg_law.specs.Carries.{carry_at}
use Rattle.pg_sync.proofs.masters.Masters.clear.Given as goal

-- the carries so far are gone
abbrev pub invariant-loop-v : goal.invariant-loop-v
invariant-loop-v g l = record {
  values : l.self.values ≡ l.initial.self.values;
  messages : l.self.messages ≡ l.initial.self.messages;
  count : length l.self.carries.items ≡ length l.initial.self.carries.items;
  each : (k : ℕ) → k < l.v → carry_at l.self.carries.items k ≡ None;
}
