use Rattle.pg_law.specs.Configuration.{start_state}
use Rattle.pg_paths.specs.Components.{components}
use Rattle.pg_paths.proofs.Hearing.{start_heard}
use Rattle.pg_paths.proofs.Labelling.{rounds_heard, replay_heard, quiet_least}
use Rattle.pg_paths.proofs.laws.components_find_least_ids.Goals as goal

pub returns-clause-rounds : goal.returns-clause-rounds
returns-clause-rounds c = λ g limit graph quiet. quiet_least g graph _
    (rounds_heard g graph limit (start_state components g) (start_heard g graph)) quiet

pub returns-clause-executions : goal.returns-clause-executions
returns-clause-executions c = λ g journal graph quiet. quiet_least g graph _
    (replay_heard g graph journal) quiet
