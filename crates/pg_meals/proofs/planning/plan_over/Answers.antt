use Rattle.std.proofs.Common.{ℕ, ◌<◌, ◌≡◌, length, slice_index_or, true, cond, arith, sym, ap, subst, ◌∙◌}
use Rattle.std.specs.Prelude.{IfOk}
use Rattle.pg_graph.specs.Multigraph.{no_edge, side_of, side_at, takes}
use Rattle.pg_meals.specs.Entries.{no_fork, fork_at}
use Rattle.pg_meals.specs.Plans.{near_over, carried_sent, carried_kept}
use Rattle.pg_meals.proofs.ListReads.{read_any}
use Rattle.pg_meals.proofs.planning.plan_over.Goals as goal

pub returns : goal.returns
returns g c =
    let p = g.P.VertexProgram.meaning c.args.program.now in
    let forks = c.args.forks.now in
    let e : ℕ = c.args.edge in
    let inside : e < length forks = omega (arith, c.requires.edge, c.requires.forks) in
    let side : c.side-me.result ≡ side_at c.args.graph.now c.args.vertex e
    = c.side-me.ensures ∙ ap (λ es. side_of c.args.vertex (slice_index_or es e no_edge)) c.edges.ensures.value in
    let fork = read_any forks e c.index-forks-edge.result (no_fork 0) inside in
    let sent = c.in_ok-scattered.ensures ∙ ap (λ near. p.scatter near c.args.applied.carry) c.near_over-near.ensures in
    let test : takes p.scatter_edges (side_at c.args.graph.now c.args.vertex e) ≡ true
    = (λ j. takes (sym c.scatter_edges.ensures j) (sym side j)) ∙ (sym c.takes.ensures ∙ c.if-not-takes.false) in
    let is = (λ j. carried_sent p (side j) (fork j).content (sent j))
    ∙ sym (ap (λ t. cond t
    (carried_sent p (side_at c.args.graph.now c.args.vertex e) (fork_at 0 forks e).content (p.scatter (near_over c.args.graph.now forks c.args.applied.datum c.args.vertex e) c.args.applied.carry))
    (carried_kept (side_at c.args.graph.now c.args.vertex e) (fork_at 0 forks e).content)) test) in
    subst (λ z. IfOk c.sent_over.result (λ carried. carried ≡ z)) is c.sent_over.ensures
