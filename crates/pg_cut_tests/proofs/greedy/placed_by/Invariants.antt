use Rattle.pg_greedy.proofs.Tables.{IsTableOf}
use Rattle.pg_cut_tests.proofs.greedy.placed_by.Given as goal

-- no count is above the number of edges so far
abbrev pub invariant-loop-e : goal.invariant-loop-e
invariant-loop-e g l = IsTableOf l.graph l.workers l.first l.e l.table
