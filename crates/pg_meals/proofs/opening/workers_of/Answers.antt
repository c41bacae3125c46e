use Rattle.std.proofs.Common.{◌∙◌}
use Rattle.std.specs.Prelude.{slice_index}
use Rattle.pg_graph.proofs.Numbers.{grown}
use Rattle.pg_meals.proofs.opening.workers_of.Goals as goal

pub loop-e-preserved : goal.loop-e-preserved
loop-e-preserved c = c.in_ok-push.ensures.items ∙ grown (slice_index c.args.cut.now.place) c.loop-e.e _ _ c.loop-e.invariant c.place.ensures.value
