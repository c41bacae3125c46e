use Rattle.pg_greedy.proofs.Chosen.{held_set, held_within}
use Rattle.pg_greedy.proofs.table.GreedyTable.held.Goals as goal

pub returns-clause-value : goal.returns-clause-value
returns-clause-value c = let h = rw (← c.self.view_is) at c.requires in
    rw (← c.self.view_is) (held_set c.self.inside.graph.now c.self.inside.workers c.self.inside.first c.self.inside.sets.items c.self.inside.placed.items c.self.inside.loads.items c.self.invariant c.args.v c.index.result.now h c.index.ensures)

pub returns-clause-within : goal.returns-clause-within
returns-clause-within c = let h = rw (← c.self.view_is) at c.requires in
    rw (← c.self.view_is) (held_within c.self.inside.graph.now c.self.inside.workers c.self.inside.first c.self.inside.sets.items c.self.inside.placed.items c.self.inside.loads.items c.self.invariant c.args.v c.index.result.now h c.index.ensures)
