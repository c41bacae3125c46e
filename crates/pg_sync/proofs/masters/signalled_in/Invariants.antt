use Rattle.std.proofs.Common.{◌≡◌}
use Rattle.std.specs.Prelude.{filter, is_some}
use Rattle.std.specs.List.{range_with_len}
use Rattle.pg_law.specs.Configuration.{message_in}
use Rattle.pg_sync.proofs.masters.signalled_in.Given as goal

-- the vertices with a message so far
abbrev pub invariant-loop-v : goal.invariant-loop-v
invariant-loop-v l = l.wanted.items ≡ filter (λ v. is_some (message_in l.messages v)) (range_with_len 0 l.v)
