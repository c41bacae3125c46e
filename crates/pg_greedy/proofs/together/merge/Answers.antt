use Rattle.std.proofs.Common.{◌≡◌, length, get_or, ap, ◌∙◌, sym, arith}
use Rattle.std.specs.List.{range_with_len}
use Rattle.std.proofs.lemmas.List.FromFn.{length-range_with_len}
use Rattle.pg_graph.specs.Multigraph.{edge_at, no_edge}
use Rattle.pg_graph.proofs.Numbers.{numbers_more}
use Rattle.pg_greedy.specs.Greedy.{with_edge}
use Rattle.pg_greedy.specs.Loaders.{table_after}
use Rattle.pg_greedy.proofs.Tables.{is_after, has_room, table_after_more}
use Rattle.pg_greedy.proofs.Stepping.{edge_own}
use Rattle.pg_greedy.proofs.together.merge.Goals as goal

pub give-requires-clause-edge : goal.give-requires-clause-edge
give-requires-clause-edge c = let g = c.args.graph.now in
    let of = is_after g c.args.table.now.workers c.args.table.now.first c.args.place.now (range_with_len 0 c.loop-e.e) c.loop-e.table c.loop-e.invariant in
    rw of.graph (edge_own g c.edges.result.now c.loop-e.e c.edges.ensures.graph c.edges.ensures.value (omega arith))

pub give-requires-clause-worker : goal.give-requires-clause-worker
give-requires-clause-worker c = let g = c.args.graph.now in
    let of = is_after g c.args.table.now.workers c.args.table.now.first c.args.place.now (range_with_len 0 c.loop-e.e) c.loop-e.table c.loop-e.invariant in
    rw of.workers_are (c.requires.within c.loop-e.e (omega arith))

pub give-requires-clause-room : goal.give-requires-clause-room
give-requires-clause-room c = let g = c.args.graph.now in
    let of = is_after g c.args.table.now.workers c.args.table.now.first c.args.place.now (range_with_len 0 c.loop-e.e) c.loop-e.table c.loop-e.invariant in
    has_room g c.args.table.now.workers c.args.table.now.first (length (range_with_len 0 c.loop-e.e)) c.loop-e.table of (omega (arith, length-range_with_len 0 c.loop-e.e))

pub loop-e-preserved : goal.loop-e-preserved
loop-e-preserved c = let g = c.args.graph.now in
    let W = c.args.table.now.workers in
    let first = c.args.table.now.first in
    let places = c.args.place.now in
    let e = c.loop-e.e in
    let edge_is : get_or c.edges.result.now e no_edge ≡ edge_at g e = ap (λ edges. get_or edges e no_edge) c.edges.ensures.value in
    c.give.ensures ∙ ap (λ edge. with_edge c.loop-e.table edge (get_or places e 0)) edge_is ∙ ap (λ t. with_edge t (edge_at g e) (get_or places e 0)) c.loop-e.invariant
    ∙ sym (table_after_more g W first places (range_with_len 0 e) e) ∙ ap (table_after g W first places) (sym (numbers_more e))
