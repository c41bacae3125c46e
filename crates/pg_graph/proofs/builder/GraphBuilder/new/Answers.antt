use Rattle.pg_graph.proofs.Placed.{nothing_built}
use Rattle.pg_graph.proofs.builder.GraphBuilder.new.Goals as goal

pub invariant_of-result : goal.invariant_of-result
invariant_of-result c = rw (c.in_ok-new.ensures, c.in_ok-with_capacity.ensures.items) (nothing_built c.args.limits c.requires)
