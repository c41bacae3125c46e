use Rattle.pg_law.specs.Configuration.{IsFit}
use Rattle.pg_tests.specs.Rising.{rising}
use Rattle.pg_tests.proofs.rounds.after_plain_rounds.Given as goal

-- the state fits
abbrev pub invariant-loop-round : goal.invariant-loop-round
invariant-loop-round l = IsFit rising l.graph l.state
