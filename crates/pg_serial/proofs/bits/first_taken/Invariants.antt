use Rattle.std.proofs.Common.{◌≡◌, ℕ, ◌<◌, false}
use Rattle.pg_serial.specs.Bits.{is_taken}
use Rattle.pg_serial.proofs.bits.first_taken.Given as goal

-- the words so far are 0
abbrev pub invariant-loop-at : goal.invariant-loop-at
invariant-loop-at l = (i : ℕ) → i < l.at → is_taken l.words i ≡ false
