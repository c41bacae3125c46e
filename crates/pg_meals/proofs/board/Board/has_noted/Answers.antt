use Rattle.std.proofs.Common.{ℕ, ◌<◌, ◌≡◌, ◌||◌, length, slice_index_or, true, arith, sym, ap, subst, ◌∙◌, below_more}
use Rattle.pg_graph.specs.Multigraph.{no_edge, side_of, side_at, takes}
use Rattle.pg_meals.specs.Entries.{no_fork}
use Rattle.pg_meals.specs.Readied.{is_seen, sees_over}
use Rattle.pg_meals.proofs.ListReads.{read_any}
use Rattle.pg_meals.proofs.board.Board.has_noted.Goals as goal

pub loop-edge-preserved : goal.loop-edge-preserved
loop-edge-preserved g c =
    let forks = c.args.self.now.forks.items in
    let i : ℕ = c.loop-edge.edge-index in
    let e : ℕ = slice_index_or c.edges_of-edge-items.result.now i 0 in
    let at = c.edges_of-edge-items.ensures.within i 0 c.loop-edge-test.true in
    let inside : e < length forks = omega (arith, at.0, c.requires.board.forks) in
    let side : c.side-side.result ≡ side_at c.args.graph.now c.args.vertex e
    = c.side-side.ensures ∙ ap (λ es. side_of c.args.vertex (slice_index_or es e no_edge)) c.edges-edges.ensures.value in
    let looks = c.looks-looks.ensures ∙ ap (λ s. takes c.args.gathers s || takes c.args.scatters s) side in
    let fork = c.index.ensures ∙ read_any forks e c.index.result.now (no_fork 0) inside in
    let seen : sees_over c.args.gathers c.args.scatters c.args.graph.now forks c.args.actor c.args.vertex e ≡ true
    = (λ j. is_seen c.args.actor (sym looks j) (sym fork j).mark) ∙ (sym c.sees.ensures ∙ c.if-not-sees.false) in
    below_more _ _ c.loop-edge.invariant (subst (λ xs. sees_over c.args.gathers c.args.scatters c.args.graph.now forks c.args.actor c.args.vertex (slice_index_or xs i 0) ≡ true) c.edges_of-edge-items.ensures.value seen)
