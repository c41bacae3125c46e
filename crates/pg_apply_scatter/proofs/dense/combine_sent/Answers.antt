use Rattle.pg_apply_scatter.proofs.Seating.{own_set, desks_set}
use Rattle.pg_apply_scatter.proofs.dense.combine_sent.Goals as goal

pub returns-in-Some-clause-own : goal.returns-in-Some-clause-own
returns-in-Some-clause-own g c = own_set (g.P.VertexProgram.meaning c.args.program.now) c.laws_of.ensures c.args.desks.now c.args.to c.index-desks-replica.result _ c.args.scattered.now c.in-Some.scattered c.requires.to c.in-Some.is c.requires.sent c.join.ensures c.requires.signals

pub returns-in-Some-clause-desks : goal.returns-in-Some-clause-desks
returns-in-Some-clause-desks g c = λ m carries below are. desks_set m carries below c.args.to c.args.desks.now c.index-desks-replica-in-Some.result c.join.result c.requires.to are
