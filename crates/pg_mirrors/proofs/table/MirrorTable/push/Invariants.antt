use Rattle.std.proofs.Common.{take}
use Rattle.pg_mirrors.specs.Mirrors.{Pushes}
use Rattle.pg_mirrors.proofs.table.MirrorTable.push.Given as goal

-- the masters so far are pushed
abbrev pub invariant-loop-master : goal.invariant-loop-master
invariant-loop-master l = Pushes l.initial.self l.self (take l.master-index l.masters)
