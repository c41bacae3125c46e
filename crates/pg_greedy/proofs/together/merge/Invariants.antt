use Rattle.std.proofs.Common.{◌≡◌}
use Rattle.std.specs.List.{range_with_len}
use Rattle.pg_greedy.specs.Loaders.{table_after}
use Rattle.pg_greedy.proofs.together.merge.Given as goal

abbrev pub invariant-loop-e : goal.invariant-loop-e
invariant-loop-e l = l.table ≡ table_after l.graph l.fn.table.workers l.fn.table.first l.place (range_with_len 0 l.e)
