use Rattle.std.proofs.Common.{◌≡◌, ◌≤◌, ◌-◌, length, drop}
use Rattle.pg_readers.specs.Tokens.{behind_token}
use Rattle.pg_readers.proofs.TokenLemmas.{number_from}
use Rattle.pg_readers.proofs.tokens.number_token.Given as goal

-- what is left of the token completes the number
abbrev pub invariant-loop-at : goal.invariant-loop-at
invariant-loop-at l = record {
  within : l.at ≤ length l.bytes;
  number : number_from l.number (drop l.at l.bytes) ≡ number_from 0 l.bytes;
  behind : behind_token (drop l.at l.bytes) ≡ behind_token l.bytes;
}

abbrev pub decreases-loop-at : goal.decreases-loop-at
decreases-loop-at l = length l.bytes - l.at
