use Rattle.std.proofs.Common.{refl}
use Rattle.pg_cut.specs.WorkerSet.{all_workers}
use Rattle.pg_greedy.specs.Greedy.{greedy, with_edge}
use Rattle.pg_greedy.specs.Loaders.{placing, with_next, table_after}
use Rattle.pg_greedy.proofs.laws.the_end_with_more_to_come_decides.Goals as goal

pub returns-clause-tie_places : goal.returns-clause-tie_places
unfolding placing with_next table_after greedy with_edge all_workers
returns-clause-tie_places c = refl

pub returns-clause-tie_cases : goal.returns-clause-tie_cases
unfolding placing with_next table_after greedy with_edge all_workers
returns-clause-tie_cases c = refl

pub returns-clause-more_places : goal.returns-clause-more_places
unfolding placing with_next table_after greedy with_edge all_workers
returns-clause-more_places c = refl

pub returns-clause-more_cases : goal.returns-clause-more_cases
unfolding placing with_next table_after greedy with_edge all_workers
returns-clause-more_cases c = refl
