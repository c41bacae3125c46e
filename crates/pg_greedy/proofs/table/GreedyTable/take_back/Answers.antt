use Rattle.pg_greedy.proofs.Stepping.{back_is}
use Rattle.pg_greedy.proofs.table.GreedyTable.take_back.Goals as goal

pub returns : goal.returns
returns c = rw (← c.self.view_is) (back_is c.self.inside.graph.now c.self.inside.workers c.self.inside.first c.self.inside.sets.items c.self.inside.placed.items c.self.inside.loads.items c.self.invariant
    c.args.edge c.args.worker c.args.us c.args.vs
    c.set_ends.new.sets.items c.uncount_ends.new.placed.items c.uncount_load.new.loads.items c.set_ends.ensures.len c.uncount_ends.ensures.len c.uncount_load.ensures.len c.set_ends.ensures.each c.uncount_ends.ensures.each c.uncount_load.ensures.each)
