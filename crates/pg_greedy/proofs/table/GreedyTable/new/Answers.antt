use Rattle.std.proofs.Common.{◌≡◌, length, replicate, rules}
use Rattle.pg_greedy.proofs.Stepping.{empty_is}
use Rattle.pg_greedy.proofs.table.GreedyTable.new.Goals as goal

pub returns : goal.returns
returns c = let g = c.args.graph.now in
    let sets : c.in_ok-vec.field-0.items ≡ replicate (length g.ids) 0 = search rules in
    let placed : c.in_ok-vec-2.field-0.items ≡ replicate (length g.ids) 0 = search rules in
    let loads : c.in_ok-vec-3.field-0.items ≡ replicate c.args.workers 0 = search rules in
    rw (sets, placed, loads) (empty_is g c.args.workers c.args.first)
