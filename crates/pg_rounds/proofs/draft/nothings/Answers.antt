use Rattle.std.proofs.Common.{◌∙◌, None, refl}
use Rattle.pg_graph.proofs.Numbers.{grown}
use Rattle.pg_rounds.proofs.draft.nothings.Goals as goal

pub loop-at-preserved : goal.loop-at-preserved
loop-at-preserved g c = c.in_ok-push.ensures.items ∙ grown (λ v. None) c.loop-at.at c.loop-at.list.items None c.loop-at.invariant refl
