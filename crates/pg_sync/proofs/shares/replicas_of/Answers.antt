use Rattle.std.specs.Vec.Iter.{into_iter_items}
use Rattle.pg_apply_scatter.proofs.Receiving.{at_end}
use Rattle.pg_sync.proofs.Sharing.{no_table_taken, table_taken, all_tables_taken}
use Rattle.pg_sync.proofs.shares.replicas_of.Goals as goal

pub loop-one-init : goal.loop-one-init
loop-one-init g c = no_table_taken c.args.cut.now c.args.values.now c.in_ok-tables.tables.items c.in_ok-made.made.items (into_iter_items c.into_iter-one-iterator.result) c.in_ok-tables.ensures.items c.into_iter-one-iterator.ensures.into_iter_gives.0 c.in_ok-made.ensures.count c.in_ok-made.ensures.each

pub loop-one-preserved : goal.loop-one-preserved
loop-one-preserved g c = table_taken c.args.cut.now c.args.values.now c.loop-one.tables.items _ c.push.new.self.items c.in-Some.one (into_iter_items c.next.new.self) (into_iter_items c.loop-one.one-iterator) c.in-Some.ensures.steps.0 c.in_ok-one.was c.in_ok-push.ensures.items c.loop-one.invariant

pub returns : goal.returns
returns g c = all_tables_taken c.args.cut.now c.args.values.now c.loop-one.tables.items (into_iter_items c.loop-one.one-iterator) (at_end c.loop-one.one-iterator c.in-None.ensures.steps.0) c.loop-one.invariant
