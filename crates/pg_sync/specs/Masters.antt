-- What the masters keep, as those that applied write it.
use Rattle.std.specs.Prelude.{◌≡◌, ◌≢◌, ℕ, ◌<◌, None, Some, List, length}
use Rattle.pg_law.specs.declared.values.Applied.{Applied}
use Rattle.pg_law.specs.Configuration.{datum_in, message_in}
use Rattle.pg_law.specs.Carries.{carry_at, carry_in}
use Rattle.pg_law.specs.Round.{datum_after, message_after}
use Rattle.pg_apply_scatter.specs.Halves.{entry_of}
use Rattle.pg_sync.specs.declared.masters.Masters.{Masters}

-- each vertex that applied has its new datum, its message to itself and its carry; the others have
-- what they had, and no carry
pub record IsWritten {Carry : Type 0} (applied : List (ℕ × Applied Carry))
    (old new : Masters Carry) : Type 0 where
  pub data_count : length new.values.items ≡ length old.values.items
  pub message_count : length new.messages.items ≡ length old.messages.items
  pub carry_count : length new.carries.items ≡ length old.carries.items
  pub each_datum : (v : ℕ) → v < length old.values.items
      → datum_in new.values.items v ≡ datum_after (datum_in old.values.items v) (entry_of applied v)
  pub each_message : (v : ℕ) → v < length old.messages.items
      → message_in new.messages.items v
      ≡ message_after (message_in old.messages.items v) (entry_of applied v)
  pub each_carry : (v : ℕ) → v < length old.carries.items
      → carry_at new.carries.items v ≡ carry_in (entry_of applied v)

-- the carries are gone, and all else is as before
pub record HaveNone {Carry : Type 0} (old new : Masters Carry) : Type 0 where
  pub values : new.values ≡ old.values
  pub messages : new.messages ≡ old.messages
  pub count : length new.carries.items ≡ length old.carries.items
  pub each : (v : ℕ) → v < length old.carries.items → carry_at new.carries.items v ≡ None

-- this vertex has what it became, and all others have what they had
pub record WritesOne {Carry : Type 0} (v : ℕ) (became : Applied Carry)
    (old new : Masters Carry) : Type 0 where
  pub data_count : length new.values.items ≡ length old.values.items
  pub message_count : length new.messages.items ≡ length old.messages.items
  pub carry_count : length new.carries.items ≡ length old.carries.items
  pub datum : datum_in new.values.items v ≡ became.datum
  pub message : message_in new.messages.items v ≡ became.again
  pub carry : carry_at new.carries.items v ≡ Some became.carry
  pub other_datum : (u : ℕ) → u ≢ v → datum_in new.values.items u ≡ datum_in old.values.items u
  pub other_message : (u : ℕ) → u ≢ v
      → message_in new.messages.items u ≡ message_in old.messages.items u
  pub other_carry : (u : ℕ) → u ≢ v → carry_at new.carries.items u ≡ carry_at old.carries.items u
