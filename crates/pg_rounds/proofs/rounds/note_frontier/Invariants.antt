use Rattle.std.proofs.Common.{◌≡◌}
use Rattle.std.specs.Prelude.{filter}
use Rattle.std.specs.List.{range_with_len}
use Rattle.pg_law.specs.Configuration.{is_signalled}
use Rattle.pg_rounds.proofs.rounds.note_frontier.Given as goal

-- the signalled vertices so far
abbrev pub invariant-loop-v : goal.invariant-loop-v
invariant-loop-v l = l.frontier.items ≡ filter (is_signalled l.state) (range_with_len 0 l.v)
