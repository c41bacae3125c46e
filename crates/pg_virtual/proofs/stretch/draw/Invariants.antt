use Rattle.std.proofs.Common.{◌≤◌}
use Rattle.pg_virtual.specs.Stretches.{IsPlayed}
use Rattle.pg_virtual.proofs.stretch.draw.Given as goal

abbrev pub invariant-loop : goal.invariant-loop
invariant-loop g l = record { played : IsPlayed l.fn.table l.table; counted : l.fn.steps ≤ l.steps }
