use Rattle.pg_paths.proofs.Reaching.{rounds_reached, replay_reached, quiet_shortest}
use Rattle.pg_paths.proofs.laws.shortest_paths_find_least_weights.Goals as goal

pub returns-clause-rounds : goal.returns-clause-rounds
returns-clause-rounds c = λ g source limit graph quiet. quiet_shortest g graph source _
    (rounds_reached g graph source limit) quiet

pub returns-clause-executions : goal.returns-clause-executions
returns-clause-executions c = λ g source journal graph quiet. quiet_shortest g graph source _
    (replay_reached g graph source journal) quiet
