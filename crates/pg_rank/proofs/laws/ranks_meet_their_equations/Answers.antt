use Rattle.pg_steps.specs.Reached.{after_rounds, after_journal}
use Rattle.pg_rank.specs.PageRank.{page_rank}
use Rattle.pg_rank.proofs.Ranking.{rounds_settled, replay_settled, quiet_meets}
use Rattle.pg_rank.proofs.laws.ranks_meet_their_equations.Goals as goal

pub returns-clause-rounds : goal.returns-clause-rounds
returns-clause-rounds c = λ g limit graph quiet. quiet_meets g graph
    (after_rounds (page_rank 0) g limit) (rounds_settled g graph limit) quiet

pub returns-clause-executions : goal.returns-clause-executions
returns-clause-executions c = λ g journal graph quiet. quiet_meets g graph
    (after_journal (page_rank 0) g journal) (replay_settled g graph journal) quiet
