use Rattle.std.proofs.Common.{◌≡◌, ℕ, List, get_or, ◌∙◌, ap, arith}
use Rattle.std.proofs.lemmas.List.{get_or_read}
use Rattle.pg_graph.specs.declared.edge.Edge.{Edge}
use Rattle.pg_graph.specs.Multigraph.{Multigraph, no_edge, edge_at}
use Rattle.pg_cut.specs.WorkerSet.{workers_in}
use Rattle.pg_greedy.specs.Batches.{without_edge}
use Rattle.pg_greedy.proofs.Stepping.{edge_own}
use Rattle.pg_greedy.proofs.Apart.{apart_of, apart_room, next_workers, next_apart, next_edge, next_counted, next_batch, still_all, all_from, read_again, back_again}
use Rattle.pg_greedy.proofs.together.+place_apart.Goals as goal

edge_read : (g : Multigraph) (edges : List Edge) (e : ℕ) → edges ≡ g.edges → get_or edges e no_edge ≡ edge_at g e
edge_read g edges e is = ap (λ xs. get_or xs e no_edge) is

pub held-us-requires : goal.held-us-requires
held-us-requires t c = let of = apart_of c.args.graph.now c.args.loaders c.args.e c.args.end c.args.table.now c.args.draft.now.place.items c.args.draft.now.cases.items c.requires.some c.requires.end (c.requires.batch c.if-e-end.true) c.if-e-end.true (c.requires.table c.if-e-end.true) c.requires.draft in
    let own = edge_own c.args.graph.now c.edges.result.now c.args.e c.edges.ensures.graph c.edges.ensures.value (let h = c.if-e-end.true in let l = c.requires.end in omega arith) in
    rw of.graph own.src

pub held-vs-requires : goal.held-vs-requires
held-vs-requires t c = let of = apart_of c.args.graph.now c.args.loaders c.args.e c.args.end c.args.table.now c.args.draft.now.place.items c.args.draft.now.cases.items c.requires.some c.requires.end (c.requires.batch c.if-e-end.true) c.if-e-end.true (c.requires.table c.if-e-end.true) c.requires.draft in
    let own = edge_own c.args.graph.now c.edges.result.now c.args.e c.edges.ensures.graph c.edges.ensures.value (let h = c.if-e-end.true in let l = c.requires.end in omega arith) in
    rw of.graph own.dst

pub place_edge-requires-clause-edge : goal.place_edge-requires-clause-edge
place_edge-requires-clause-edge t c = let of = apart_of c.args.graph.now c.args.loaders c.args.e c.args.end c.args.table.now c.args.draft.now.place.items c.args.draft.now.cases.items c.requires.some c.requires.end (c.requires.batch c.if-e-end.true) c.if-e-end.true (c.requires.table c.if-e-end.true) c.requires.draft in
    rw of.graph (let h = c.if-e-end.true in let l = c.requires.end in omega arith)

pub place_edge-requires-clause-room : goal.place_edge-requires-clause-room
place_edge-requires-clause-room t c = apart_room c.args.graph.now c.args.loaders c.args.e c.args.end c.args.table.now c.args.draft.now.place.items c.args.draft.now.cases.items c.requires.some c.requires.end (c.requires.batch c.if-e-end.true) c.if-e-end.true (c.requires.table c.if-e-end.true) c.requires.draft

pub place_edge-requires-clause-draft : goal.place_edge-requires-clause-draft
place_edge-requires-clause-draft t c = let of = apart_of c.args.graph.now c.args.loaders c.args.e c.args.end c.args.table.now c.args.draft.now.place.items c.args.draft.now.cases.items c.requires.some c.requires.end (c.requires.batch c.if-e-end.true) c.if-e-end.true (c.requires.table c.if-e-end.true) c.requires.draft in
    rw of.graph c.requires.draft

pub place_apart-requires : goal.place_apart-requires
place_apart-requires t c = let of = apart_of c.args.graph.now c.args.loaders c.args.e c.args.end c.args.table.now c.args.draft.now.place.items c.args.draft.now.cases.items c.requires.some c.requires.end (c.requires.batch c.if-e-end.true) c.if-e-end.true (c.requires.table c.if-e-end.true) c.requires.draft in
    let workers = next_workers c.args.graph.now c.args.loaders c.args.e c.args.end c.args.table.now c.args.draft.now.place.items c.args.draft.now.cases.items c.requires.some c.requires.end (c.requires.batch c.if-e-end.true) c.if-e-end.true (c.requires.table c.if-e-end.true) c.requires.draft c.place_edge.new.table c.place_edge.ensures.table in (
      let less = c.decreases in let h = c.if-e-end.true in let l = c.requires.some in omega arith,
      (
        c.requires.some,
        (
          c.requires.end,
          (
            next_batch c.args.graph.now c.args.loaders c.args.e c.args.end c.args.table.now c.args.draft.now.place.items c.args.draft.now.cases.items c.requires.some c.requires.end (c.requires.batch c.if-e-end.true) c.if-e-end.true (c.requires.table c.if-e-end.true) c.requires.draft c.place_edge.new.table c.place_edge.ensures.table,
            (next_apart c.args.graph.now c.args.loaders c.args.e c.args.end c.args.table.now c.args.draft.now.place.items c.args.draft.now.cases.items c.requires.some c.requires.end (c.requires.batch c.if-e-end.true) c.if-e-end.true (c.requires.table c.if-e-end.true) c.requires.draft c.place_edge.new.table c.place_edge.ensures.table, rw workers (rw of.graph at c.place_edge.ensures.draft)),
          ),
        ),
      ),
    )

pub take_back-requires-clause-edge : goal.take_back-requires-clause-edge
take_back-requires-clause-edge t c = rw c.place_apart.ensures.table (next_edge c.args.graph.now c.args.loaders c.args.e c.args.end c.args.table.now c.args.draft.now.place.items c.args.draft.now.cases.items c.requires.some c.requires.end (c.requires.batch c.if-e-end.true) c.if-e-end.true (c.requires.table c.if-e-end.true) c.requires.draft c.place_edge.new.table c.place_edge.ensures.table (get_or c.edges.result.now c.args.e no_edge) (edge_read c.args.graph.now c.edges.result.now c.args.e c.edges.ensures.value) c.edges.ensures.graph)

pub take_back-requires-clause-worker : goal.take_back-requires-clause-worker
take_back-requires-clause-worker t c = let low = c.place_apart.ensures.draft.within c.args.e (let h = c.if-e-end.true in let l = c.requires.end in omega arith) in
    let is = get_or_read c.place_apart.new.draft.place.items c.args.e c.index.result.now (let h = c.if-e-end.true in let l = c.requires.end in omega (arith, c.place_apart.ensures.draft.places_count)) c.index.ensures 0 in
    rw c.place_apart.ensures.table (rw is low)

pub take_back-requires-clause-us : goal.take_back-requires-clause-us
take_back-requires-clause-us t c = let workers = next_workers c.args.graph.now c.args.loaders c.args.e c.args.end c.args.table.now c.args.draft.now.place.items c.args.draft.now.cases.items c.requires.some c.requires.end (c.requires.batch c.if-e-end.true) c.if-e-end.true (c.requires.table c.if-e-end.true) c.requires.draft c.place_edge.new.table c.place_edge.ensures.table in
    rw c.place_apart.ensures.table (rw workers c.held-us.ensures.within)

pub take_back-requires-clause-vs : goal.take_back-requires-clause-vs
take_back-requires-clause-vs t c = let workers = next_workers c.args.graph.now c.args.loaders c.args.e c.args.end c.args.table.now c.args.draft.now.place.items c.args.draft.now.cases.items c.requires.some c.requires.end (c.requires.batch c.if-e-end.true) c.if-e-end.true (c.requires.table c.if-e-end.true) c.requires.draft c.place_edge.new.table c.place_edge.ensures.table in
    rw c.place_apart.ensures.table (rw workers c.held-vs.ensures.within)

pub take_back-requires-clause-counted : goal.take_back-requires-clause-counted
take_back-requires-clause-counted t c = let workers = next_workers c.args.graph.now c.args.loaders c.args.e c.args.end c.args.table.now c.args.draft.now.place.items c.args.draft.now.cases.items c.requires.some c.requires.end (c.requires.batch c.if-e-end.true) c.if-e-end.true (c.requires.table c.if-e-end.true) c.requires.draft c.place_edge.new.table c.place_edge.ensures.table in
    let low = c.place_apart.ensures.draft.within c.args.e (let h = c.if-e-end.true in let l = c.requires.end in omega arith) in
    let is = get_or_read c.place_apart.new.draft.place.items c.args.e c.index.result.now (let h = c.if-e-end.true in let l = c.requires.end in omega (arith, c.place_apart.ensures.draft.places_count)) c.index.ensures 0 in
    rw c.place_apart.ensures.table (next_counted c.args.graph.now c.args.loaders c.args.e c.args.end c.args.table.now c.args.draft.now.place.items c.args.draft.now.cases.items c.requires.some c.requires.end (c.requires.batch c.if-e-end.true) c.if-e-end.true (c.requires.table c.if-e-end.true) c.requires.draft c.place_edge.new.table c.place_edge.ensures.table (get_or c.edges.result.now c.args.e no_edge) (edge_read c.args.graph.now c.edges.result.now c.args.e c.edges.ensures.value) c.index.result.now (read_again c.args.graph.now c.args.loaders c.args.e c.args.end c.args.table.now c.args.draft.now.place.items c.args.draft.now.cases.items c.requires.some c.requires.end (c.requires.batch c.if-e-end.true) c.if-e-end.true (c.requires.table c.if-e-end.true) c.requires.draft c.place_edge.new.table c.place_edge.ensures.table c.place_edge.new.draft.place.items c.place_edge.new.draft.cases.items c.place_apart.new.draft.place.items c.place_apart.new.draft.cases.items c.place_edge.ensures.place c.place_edge.ensures.cases c.place_apart.ensures.still c.index.result.now c.place_apart.ensures.draft.places_count c.index.ensures) c.edges.ensures.graph (rw is (rw workers at low)))

pub returns-then-e-end-clause-table : goal.returns-then-e-end-clause-table
returns-then-e-end-clause-table t c = c.take_back.ensures ∙ ap (λ t. without_edge t (get_or c.edges.result.now c.args.e no_edge) c.index.result.now (workers_in c.held-us.result) (workers_in c.held-vs.result)) c.place_apart.ensures.table
    ∙ back_again c.args.graph.now c.args.loaders c.args.e c.args.end c.args.table.now c.args.draft.now.place.items c.args.draft.now.cases.items c.requires.some c.requires.end (c.requires.batch c.if-e-end.true) c.if-e-end.true (c.requires.table c.if-e-end.true) c.requires.draft c.place_edge.new.table c.place_edge.ensures.table (get_or c.edges.result.now c.args.e no_edge) (edge_read c.args.graph.now c.edges.result.now c.args.e c.edges.ensures.value) c.index.result.now (read_again c.args.graph.now c.args.loaders c.args.e c.args.end c.args.table.now c.args.draft.now.place.items c.args.draft.now.cases.items c.requires.some c.requires.end (c.requires.batch c.if-e-end.true) c.if-e-end.true (c.requires.table c.if-e-end.true) c.requires.draft c.place_edge.new.table c.place_edge.ensures.table c.place_edge.new.draft.place.items c.place_edge.new.draft.cases.items c.place_apart.new.draft.place.items c.place_apart.new.draft.cases.items c.place_edge.ensures.place c.place_edge.ensures.cases c.place_apart.ensures.still c.index.result.now c.place_apart.ensures.draft.places_count c.index.ensures) c.held-us.result c.held-vs.result c.held-us.ensures.value c.held-vs.ensures.value

pub returns-then-e-end-clause-draft : goal.returns-then-e-end-clause-draft
returns-then-e-end-clause-draft t c = let workers = next_workers c.args.graph.now c.args.loaders c.args.e c.args.end c.args.table.now c.args.draft.now.place.items c.args.draft.now.cases.items c.requires.some c.requires.end (c.requires.batch c.if-e-end.true) c.if-e-end.true (c.requires.table c.if-e-end.true) c.requires.draft c.place_edge.new.table c.place_edge.ensures.table in rw workers at c.place_apart.ensures.draft

pub returns-then-e-end-clause-placed : goal.returns-then-e-end-clause-placed
returns-then-e-end-clause-placed t c = all_from c.args.graph.now c.args.loaders c.args.e c.args.end c.args.table.now c.args.draft.now.place.items c.args.draft.now.cases.items c.requires.some c.requires.end (c.requires.batch c.if-e-end.true) c.if-e-end.true (c.requires.table c.if-e-end.true) c.requires.draft c.place_edge.new.table c.place_edge.ensures.table c.place_edge.new.draft.place.items c.place_edge.new.draft.cases.items c.place_apart.new.draft.place.items c.place_apart.new.draft.cases.items c.place_edge.ensures.place c.place_edge.ensures.cases c.place_apart.ensures.still c.place_apart.ensures.placed

pub returns-then-e-end-clause-still : goal.returns-then-e-end-clause-still
returns-then-e-end-clause-still t c = still_all c.args.graph.now c.args.loaders c.args.e c.args.end c.args.table.now c.args.draft.now.place.items c.args.draft.now.cases.items c.requires.some c.requires.end (c.requires.batch c.if-e-end.true) c.if-e-end.true (c.requires.table c.if-e-end.true) c.requires.draft c.place_edge.new.table c.place_edge.ensures.table c.place_edge.new.draft.place.items c.place_edge.new.draft.cases.items c.place_apart.new.draft.place.items c.place_apart.new.draft.cases.items c.place_edge.ensures.place c.place_edge.ensures.cases c.place_apart.ensures.still
