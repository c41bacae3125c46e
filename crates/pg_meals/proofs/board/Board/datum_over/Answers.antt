use Rattle.std.proofs.Common.{ℕ, ◌<◌, ◌≡◌, length, slice_index_or, sym, ap, subst, ◌∙◌, arith}
use Rattle.std.specs.Prelude.{Vec}
use Rattle.std.specs.declared.alloc.Global.{Global}
use Rattle.pg_graph.specs.Multigraph.{end_of, end_at, no_edge}
use Rattle.pg_meals.specs.declared.seat.Replica.{Replica}
use Rattle.pg_meals.specs.Entries.{replicas_at, replica_in}
use Rattle.pg_meals.proofs.ListReads.{read_any}
use Rattle.pg_meals.proofs.Written.{found, no_replica}
use Rattle.pg_meals.proofs.Copied.{row_at}
use Rattle.pg_meals.proofs.Holding.{end_in}
use Rattle.pg_meals.proofs.board.Board.datum_over.Goals as goal

pub returns-in-Some : goal.returns-in-Some
returns-in-Some g c =
    let b = c.args.self.now in
    let e : ℕ = c.args.edge in
    let v : ℕ = c.end-vertex.result in
    let i : ℕ = c.in-Some.place in
    let x = c.index-in-Some-2.result.now in
    let e_in : e < length b.workers.items = omega (arith, c.requires.edge, c.requires.board.workers) in
    let vertex_is : v ≡ end_at c.args.graph.now c.args.side e = c.end-vertex.ensures ∙ ap (λ es. end_of c.args.side (slice_index_or es e no_edge)) c.edges.ensures.value in
    let worker_is : c.index.result.now ≡ slice_index_or b.workers.items e 0 = c.index.ensures ∙ read_any b.workers.items e c.index.result.now 0 e_in in
    let v_in : v < length b.replicas.items = subst (λ u. u < length b.replicas.items) (sym vertex_is) (let l = end_in c.args.graph.now c.edges.ensures.graph c.args.side e c.requires.edge in omega (arith, l, c.requires.board.replicas)) in
    let item_is : x ≡ slice_index_or (replicas_at b.replicas.items v) i x
    = c.index-in-Some-2.ensures ∙ (ap (λ (r : Vec Replica Global). slice_index_or r.items i x) c.index-in-Some.ensures ∙ ap (λ xs. slice_index_or xs i x) (sym (row_at b.replicas.items v c.index-in-Some.result.now v_in))) in
    ap (λ (r : Replica). r.datum) (item_is ∙ (sym (found (replicas_at b.replicas.items v) i x (c.requires.board.once v) c.in-Some.ensures.0) ∙ (ap (replica_in (replicas_at b.replicas.items v)) (c.in-Some.ensures.1 x) ∙ (λ j. replica_in (replicas_at b.replicas.items (vertex_is j)) (worker_is j)))))

pub returns-in-None : goal.returns-in-None
returns-in-None g c =
    let b = c.args.self.now in
    let e : ℕ = c.args.edge in
    let v : ℕ = c.end-vertex.result in
    let e_in : e < length b.workers.items = omega (arith, c.requires.edge, c.requires.board.workers) in
    let vertex_is : v ≡ end_at c.args.graph.now c.args.side e = c.end-vertex.ensures ∙ ap (λ es. end_of c.args.side (slice_index_or es e no_edge)) c.edges.ensures.value in
    let worker_is : c.index.result.now ≡ slice_index_or b.workers.items e 0 = c.index.ensures ∙ read_any b.workers.items e c.index.result.now 0 e_in in
    c.two.ensures ∙ ap (λ (r : Replica). r.datum) (sym (no_replica (replicas_at b.replicas.items v) c.index.result.now c.in-None.ensures) ∙ (λ j. replica_in (replicas_at b.replicas.items (vertex_is j)) (worker_is j)))
