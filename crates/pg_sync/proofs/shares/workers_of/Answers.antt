use Rattle.std.specs.Vec.Iter.{into_iter_items}
use Rattle.pg_apply_scatter.proofs.Receiving.{at_end}
use Rattle.pg_sync.proofs.Sharing.{none_taken, taken_more, all_taken}
use Rattle.pg_sync.proofs.shares.workers_of.Goals as goal

pub loop-one-init : goal.loop-one-init
loop-one-init g c = none_taken c.args.graph.now c.args.cut.now c.args.words.now c.in_ok-workers.workers.items c.in_ok-made.made.items (into_iter_items c.into_iter-one-iterator.result) c.in_ok-workers.ensures.items c.into_iter-one-iterator.ensures.into_iter_gives.0 c.in_ok-made.ensures.count c.in_ok-made.ensures.each

pub loop-one-preserved : goal.loop-one-preserved
loop-one-preserved g c = taken_more c.args.graph.now c.args.cut.now c.args.words.now c.loop-one.workers.items _ c.push.new.self.items c.in-Some.one (into_iter_items c.next.new.self) (into_iter_items c.loop-one.one-iterator) c.in-Some.ensures.steps.0 c.in_ok-store.was c.in_ok-push.ensures.items c.loop-one.invariant

pub returns : goal.returns
returns g c = all_taken c.args.graph.now c.args.cut.now c.args.words.now c.loop-one.workers.items (into_iter_items c.loop-one.one-iterator) (at_end c.loop-one.one-iterator c.in-None.ensures.steps.0) c.loop-one.invariant
