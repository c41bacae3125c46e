use Rattle.std.proofs.Common.{length}
use Rattle.pg_steps.specs.Reached.{after_journal}
use Rattle.pg_paths.specs.Components.{components}
use Rattle.pg_paths.proofs.Labelling.{rounds_heard, replay_heard, quiet_least}
use Rattle.pg_paths.proofs.Settling.{settles}
use Rattle.pg_paths.proofs.laws.components_settle.Goals as goal

pub returns-clause-quiet : goal.returns-clause-quiet
returns-clause-quiet c = λ g journal graph. settles g graph _ (replay_heard g graph journal)

pub returns-clause-least : goal.returns-clause-least
returns-clause-least c = λ g journal graph. let heard = replay_heard g graph journal in
    quiet_least g graph _
    (rounds_heard g graph (length g.ids) (after_journal components g journal) heard)
    (settles g graph (after_journal components g journal) heard)
