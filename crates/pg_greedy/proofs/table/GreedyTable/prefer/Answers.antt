use Rattle.std.proofs.Common.{refl}
use Rattle.pg_greedy.specs.Batches.{with_first}
use Rattle.pg_greedy.proofs.table.GreedyTable.prefer.Goals as goal

pub returns : goal.returns
unfolding with_first
returns c = rw (← c.self.view_is) refl
