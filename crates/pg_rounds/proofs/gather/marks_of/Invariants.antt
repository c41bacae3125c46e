use Rattle.std.proofs.Common.{◌≡◌, take}
use Rattle.std.specs.Prelude.{map, is_some}
use Rattle.pg_rounds.proofs.gather.marks_of.Given as goal

-- the marks so far
abbrev pub invariant-loop-message : goal.invariant-loop-message
invariant-loop-message l = l.marks.items ≡ map is_some (take l.message-index l.messages)
