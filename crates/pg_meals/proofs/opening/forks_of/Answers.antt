use Rattle.std.proofs.Common.{◌∙◌}
use Rattle.std.specs.Prelude.{slice_index_or}
use Rattle.pg_graph.specs.Multigraph.{no_edge}
use Rattle.pg_graph.proofs.Numbers.{grown}
use Rattle.pg_meals.specs.Opening.{new_fork, fork_on}
use Rattle.pg_meals.proofs.opening.forks_of.Goals as goal

pub loop-e-preserved : goal.loop-e-preserved
loop-e-preserved g c =
    c.in_ok-push.ensures.items
    ∙ grown (fork_on c.args.graph.now c.args.words.now) c.loop-e.e _ _ c.loop-e.invariant
    (c.new_fork.ensures ∙ (λ j. new_fork (slice_index_or (c.edges-edges.ensures.value j) c.loop-e.e no_edge) (c.word.ensures j)))
