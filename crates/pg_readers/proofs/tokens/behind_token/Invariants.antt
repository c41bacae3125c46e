use Rattle.std.proofs.Common.{◌≡◌, length}
use Rattle.pg_readers.specs.Tokens.{behind_token}
use Rattle.pg_readers.proofs.tokens.behind_token.Given as goal

abbrev pub decreases-loop-rest : goal.decreases-loop-rest
decreases-loop-rest l = length l.rest

-- only bytes of the token were passed
abbrev pub invariant-loop-rest : goal.invariant-loop-rest
invariant-loop-rest l = behind_token l.rest ≡ behind_token l.fn.bytes
