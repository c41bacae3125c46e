use Rattle.std.proofs.Common.{None, ap, ◌∙◌}
use Rattle.pg_graph.proofs.Numbers.{grown}
use Rattle.pg_mirrors.specs.Mirrors.{datum_at}
use Rattle.pg_gather.specs.Desks.{desk}
use Rattle.pg_gather.proofs.desk.blank_desks.Goals as goal

pub loop-replica-preserved : goal.loop-replica-preserved
loop-replica-preserved g c = c.in_ok-push.ensures.items
    ∙ grown (λ r. desk (datum_at c.args.mirrors.now.values r) None) c.loop-replica.replica c.loop-replica.desks.items _ c.loop-replica.invariant (ap (λ datum. desk datum None) c.datum.ensures)
