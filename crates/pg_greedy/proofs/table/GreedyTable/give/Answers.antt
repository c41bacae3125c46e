use Rattle.pg_greedy.proofs.Stepping.{step_is}
use Rattle.pg_greedy.proofs.table.GreedyTable.give.Goals as goal

pub returns : goal.returns
returns c = let room = rw (← c.self.view_is) at c.requires.room in
    let own = rw (← c.self.view_is) at c.requires.edge in
    let within = rw (← c.self.view_is) at c.requires.worker in
    rw (← c.self.view_is) (step_is c.self.inside.graph.now c.self.inside.workers c.self.inside.first c.self.inside.sets.items c.self.inside.placed.items c.self.inside.loads.items c.self.invariant
    c.args.edge c.args.worker within room.placed room.loads
    c.join.new.sets.items c.count_ends.new.placed.items c.count_load.new.loads.items c.join.ensures.len c.count_ends.ensures.len c.count_load.ensures.len c.join.ensures.each c.count_ends.ensures.each c.count_load.ensures.each)
