use Rattle.pg_steps.specs.Reached.{after_rounds, after_journal}
use Rattle.pg_colour.specs.Colouring.{colouring}
use Rattle.pg_colour.proofs.Waking.{rounds_wake, replay_wakes, quiet_proper}
use Rattle.pg_colour.proofs.laws.colourings_are_proper.Goals as goal

pub returns-clause-rounds : goal.returns-clause-rounds
returns-clause-rounds c = λ g limit graph quiet. quiet_proper g graph
    (after_rounds colouring g limit) (rounds_wake g graph limit) quiet

pub returns-clause-executions : goal.returns-clause-executions
returns-clause-executions c = λ g journal graph quiet. quiet_proper g graph
    (after_journal colouring g journal) (replay_wakes g graph journal) quiet
