use Rattle.std.proofs.Common.{◌≡◌, map, take}
use Rattle.pg_serial.specs.Sending.{change_of}
use Rattle.pg_serial.proofs.writing.changes_of.Given as goal

-- a change for each that was sent so far
abbrev pub invariant-loop-sent : goal.invariant-loop-sent
invariant-loop-sent l = l.changes.items ≡ map change_of (take l.sent-index l.sents)
