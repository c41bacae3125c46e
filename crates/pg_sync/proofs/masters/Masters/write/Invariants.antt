use Rattle.std.proofs.Common.{take}
use Rattle.pg_sync.specs.Masters.{IsWritten}
use Rattle.pg_sync.proofs.masters.Masters.write.Given as goal

-- those so far are written
abbrev pub invariant-loop-i : goal.invariant-loop-i
invariant-loop-i g l = IsWritten (take l.i l.applied) l.fn.self l.self
