use Rattle.std.proofs.Common.{◌≡◌, take}
use Rattle.pg_apply_scatter.specs.Halves.{data_of}
use Rattle.pg_sync.proofs.masters.data_of_applied.Given as goal

-- the data so far
abbrev pub invariant-loop-i : goal.invariant-loop-i
invariant-loop-i g l = l.pairs.items ≡ data_of (take l.i l.applied)
