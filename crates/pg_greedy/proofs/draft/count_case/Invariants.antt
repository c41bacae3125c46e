use Rattle.std.proofs.Common.{◌≡◌, take, count_by, ◌==◌}
use Rattle.pg_greedy.proofs.draft.count_case.Given as goal

abbrev pub invariant-loop-c : goal.invariant-loop-c
invariant-loop-c l = l.count ≡ count_by (λ c. c == l.case) (take l.c-index l.cases)
