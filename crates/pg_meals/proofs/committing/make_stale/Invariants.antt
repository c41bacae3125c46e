use Rattle.std.proofs.Common.{◌≡◌, ◌++◌, take, drop}
use Rattle.std.specs.Prelude.{map}
use Rattle.pg_meals.specs.Entries.{made_stale}
use Rattle.pg_meals.proofs.committing.make_stale.Given as goal

-- the replicas so far are stale
abbrev pub invariant-loop-place : goal.invariant-loop-place
invariant-loop-place l = l.row.items ≡ map made_stale (take l.place l.fn.row.items) ++ drop l.place l.fn.row.items
