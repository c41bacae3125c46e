use Rattle.std.proofs.Common.{◌≡◌, ℕ, length, replicate, ap, ◌∙◌}
use Rattle.pg_greedy.proofs.Stepping.{empty_is}
use Rattle.pg_greedy.proofs.table.GreedyTable.restart.Goals as goal

pub returns : goal.returns
returns c = let g = c.self.inside.graph.now in
    let zeros = λ (n : ℕ). replicate {A = ℕ} n 0 in
    let sets : c.clear_sets.new.sets.items ≡ replicate (length g.ids) 0 = c.clear_sets.ensures ∙ ap zeros c.self.invariant.sets_count in
    let placed : c.clear_counts.new.counts.items ≡ replicate (length g.ids) 0 = c.clear_counts.ensures ∙ ap zeros c.self.invariant.placed_count in
    let loads : c.clear_counts-2.new.counts.items ≡ replicate c.self.inside.workers 0 = c.clear_counts-2.ensures ∙ ap zeros c.self.invariant.loads_count in
    rw (← c.self.view_is) (rw (sets, placed, loads) (empty_is g c.self.inside.workers c.args.first))
