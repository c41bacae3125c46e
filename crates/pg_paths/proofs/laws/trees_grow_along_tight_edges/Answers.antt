use Rattle.pg_steps.specs.Reached.{after_rounds, after_journal}
use Rattle.pg_paths.specs.Trees.{tree}
use Rattle.pg_paths.proofs.Branching.{rounds_grown, replay_grown, quiet_branch}
use Rattle.pg_paths.proofs.laws.trees_grow_along_tight_edges.Goals as goal

pub returns-clause-rounds : goal.returns-clause-rounds
returns-clause-rounds c = λ g source limit graph quiet. quiet_branch g graph source
    (after_rounds (tree source) g limit) (rounds_grown g graph source limit) quiet

pub returns-clause-executions : goal.returns-clause-executions
returns-clause-executions c = λ g source journal graph quiet. quiet_branch g graph source
    (after_journal (tree source) g journal) (replay_grown g graph source journal) quiet
