use Rattle.std.proofs.Common.{◌≡◌, get_or, ap, ◌∙◌}
use Rattle.pg_graph.specs.Multigraph.{edge_at, no_edge}
use Rattle.pg_cut.specs.WorkerSet.{workers_in}
use Rattle.pg_greedy.specs.Greedy.{best_of}
use Rattle.pg_greedy.proofs.Chosen.{placed_is}
use Rattle.pg_greedy.proofs.table.GreedyTable.place.Goals as goal

pub returns-clause-value : goal.returns-clause-value
returns-clause-value c = let edge = get_or c.edges.result.now c.args.edge no_edge in
    let set = c.choose-chosen.result.set in
    let is_edge : edge ≡ edge_at c.args.self.now.graph c.args.edge = rw (← c.self.view_is) (ap (λ edges. get_or edges c.args.edge no_edge) c.edges.ensures.value) in
    let best : c.best-worker.result ≡ best_of c.args.self.now.workers c.args.self.now.first c.args.self.now.loads (workers_in set) =
    rw (← c.self.view_is) (c.best-worker.ensures.value ∙ ap (λ loads. best_of c.self.inside.workers c.self.inside.first loads (workers_in set)) c.as_slice.ensures.value) in
    placed_is c.args.self.now edge (edge_at c.args.self.now.graph c.args.edge) set c.best-worker.result c.choose-chosen.result.case best c.choose-chosen.ensures.set c.choose-chosen.ensures.case is_edge
