use Rattle.pg_virtual.specs.Stretches.{IsPlayed}
use Rattle.pg_virtual.proofs.Retired.{FreeBelow}
use Rattle.pg_virtual.proofs.retire.retire_all.Given as goal

-- the actors so far have no vertex in hand
abbrev pub invariant-loop-actor : goal.invariant-loop-actor
invariant-loop-actor g l = record { played : IsPlayed l.fn.table l.table; free : FreeBelow l.actor l.table.board }
