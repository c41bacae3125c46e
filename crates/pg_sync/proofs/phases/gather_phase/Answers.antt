use Rattle.pg_sync.proofs.phases.gather_phase.Goals as goal

pub returns-then-not-is_empty : goal.returns-then-not-is_empty
returns-then-not-is_empty g c = λ w d e h. let at = (c.for_each_mut.ensures w d h).1 in rw (← at.argument_is, ← at.left) (at.call e)
