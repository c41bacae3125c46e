use Rattle.std.proofs.Common.{◌≡◌, ◌≤◌, length}
use Rattle.pg_readers.specs.Tokens.{tokens}
use Rattle.pg_readers.proofs.tokens.from_token.Given as goal

abbrev pub decreases-loop-rest : goal.decreases-loop-rest
decreases-loop-rest l = length l.rest

-- only blanks were passed
abbrev pub invariant-loop-rest : goal.invariant-loop-rest
invariant-loop-rest l = record {
  same : tokens l.rest ≡ tokens l.fn.bytes;
  shorter : length l.rest ≤ length l.fn.bytes;
}
