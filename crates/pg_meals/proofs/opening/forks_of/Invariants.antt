use Rattle.std.specs.Prelude.{◌≡◌, map}
use Rattle.std.specs.List.{range_with_len}
use Rattle.pg_meals.specs.Opening.{fork_on}
use Rattle.pg_meals.proofs.opening.forks_of.Given as goal

-- the forks so far
abbrev pub invariant-loop-e : goal.invariant-loop-e
invariant-loop-e g l = l.forks.items ≡ map (fork_on l.graph l.words) (range_with_len 0 l.e)
