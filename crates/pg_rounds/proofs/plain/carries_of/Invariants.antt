use Rattle.std.proofs.Common.{◌≡◌, take}
use Rattle.std.specs.Prelude.{map}
use Rattle.pg_law.specs.Carries.{carry_in}
use Rattle.pg_rounds.proofs.plain.carries_of.Given as goal

-- those so far
abbrev pub invariant-loop-applied : goal.invariant-loop-applied
invariant-loop-applied g l = l.carries.items ≡ map carry_in (take l.applied-index l.became)
