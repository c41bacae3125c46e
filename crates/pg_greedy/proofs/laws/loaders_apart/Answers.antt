use Rattle.std.proofs.Common.{refl}
use Rattle.pg_cut.specs.WorkerSet.{all_workers}
use Rattle.pg_greedy.specs.Greedy.{greedy, with_edge}
use Rattle.pg_greedy.specs.Loaders.{placing, with_next, table_after}
use Rattle.pg_greedy.proofs.laws.loaders_apart.Goals as goal

pub returns-clause-path_places : goal.returns-clause-path_places
unfolding placing with_next table_after greedy with_edge all_workers
returns-clause-path_places c = refl

pub returns-clause-path_cases : goal.returns-clause-path_cases
unfolding placing with_next table_after greedy with_edge all_workers
returns-clause-path_cases c = refl

pub returns-clause-claw_places : goal.returns-clause-claw_places
unfolding placing with_next table_after greedy with_edge all_workers
returns-clause-claw_places c = refl

pub returns-clause-claw_cases : goal.returns-clause-claw_cases
unfolding placing with_next table_after greedy with_edge all_workers
returns-clause-claw_cases c = refl
