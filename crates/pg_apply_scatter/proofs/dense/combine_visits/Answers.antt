use Rattle.pg_apply_scatter.proofs.dense.combine_visits.Goals as goal

pub returns-clause-desks : goal.returns-clause-desks
returns-clause-desks g c = λ m carries below are. c.combine_sent-2.ensures.desks m carries below (c.combine_sent.ensures.desks m carries below are)
