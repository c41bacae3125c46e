use Rattle.std.proofs.Common.{◌≡◌}
use Rattle.pg_apply_scatter.specs.Sending.{one_each}
use Rattle.pg_apply_scatter.specs.Desks.{signal_of}
use Rattle.pg_apply_scatter.proofs.desk.list_desks.Given as goal

-- the signals of the vertices so far
abbrev pub invariant-loop-v : goal.invariant-loop-v
invariant-loop-v g l = l.sent.items ≡ one_each (signal_of l.mirrors l.desks) l.v
