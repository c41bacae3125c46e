use Rattle.std.proofs.Common.{◌≡◌, ℕ, ◌+◌, length, subst, sym, ap, arith}
use Rattle.pg_graph.specs.Multigraph.{edge_at}
use Rattle.pg_greedy.specs.Greedy.{Table, with_edge}
use Rattle.pg_greedy.proofs.Tables.{IsTableOf, empty_table_of, more_table_of, has_room}
use Rattle.pg_cut_tests.proofs.greedy.placed_by.Goals as goal

pub loop-e-init : goal.loop-e-init
loop-e-init g c = let P : Table → Type 0 = λ t. IsTableOf c.args.graph.now c.args.workers c.args.first 0 t in
    let made : c.in_ok-table.table ≡ _ = c.in_ok-table.ensures in
    subst P (sym made) (empty_table_of c.args.graph.now c.args.workers c.args.first)

pub place-requires-clause-edge : goal.place-requires-clause-edge
place-requires-clause-edge g c = rw c.loop-e.invariant.graph (omega (arith, ap length c.edges-2.ensures.value))

pub place-requires-clause-room : goal.place-requires-clause-room
place-requires-clause-room g c = has_room c.args.graph.now c.args.workers c.args.first c.loop-e.e c.loop-e.table c.loop-e.invariant (omega (arith, ap length c.edges-2.ensures.value))

pub loop-e-preserved : goal.loop-e-preserved
loop-e-preserved g c = let P : Table → Type 0 = λ t. IsTableOf c.args.graph.now c.args.workers c.args.first (c.loop-e.e + 1) t in
    subst P (sym c.place.ensures.table) (more_table_of c.args.graph.now c.args.workers c.args.first c.loop-e.e c.loop-e.table (edge_at c.loop-e.table.graph c.loop-e.e) c.place.result.worker c.loop-e.invariant)
