use Rattle.std.proofs.Common.{arith}
use Rattle.pg_virtual.proofs.Same.{played_then, few_same}
use Rattle.pg_virtual.proofs.Retired.{free_more, all_free}
use Rattle.pg_virtual.proofs.retire.retire_all.Goals as goal

pub retire-requires-clause-workers : goal.retire-requires-clause-workers
retire-requires-clause-workers g c κs within = few_same c.requires.seated.workers c.loop-actor.invariant.played.frame

pub loop-actor-preserved : goal.loop-actor-preserved
loop-actor-preserved g c = record {
  played = played_then c.loop-actor.invariant.played c.retire.ensures.played;
  free = free_more c.loop-actor.actor c.loop-actor.table.board c.retire.new.table.board c.loop-actor.invariant.free c.retire.ensures.free c.retire.ensures.others;
}

pub returns-clause-free : goal.returns-clause-free
returns-clause-free g c = all_free c.loop-actor.actor c.loop-actor.table.board
    (omega (arith, c.loop-actor-test.false, c.requires.seated.actors, c.loop-actor.invariant.played.frame.actors)) c.loop-actor.invariant.free
