use Rattle.std.proofs.Common.{ℕ, ◌<◌, ◌≡◌, length, slice_index_or, arith, sym, ap, ◌∙◌}
use Rattle.std.proofs.lemmas.List.Sums.{fold_more}
use Rattle.pg_graph.specs.Multigraph.{no_edge, side_of, side_at}
use Rattle.pg_meals.specs.declared.fork.Ride.{Ride}
use Rattle.pg_meals.specs.Plans.{added}
use Rattle.pg_meals.specs.Entries.{at_side, no_fork}
use Rattle.pg_meals.proofs.ListReads.{read_any}
use Rattle.pg_meals.proofs.settling.kept_gather.Goals as goal

pub loop-e-preserved : goal.loop-e-preserved
loop-e-preserved g c =
    let p = g.P.VertexProgram.meaning c.args.program.now in
    let around = c.edges_of-around.result.now in
    let i : ℕ = c.loop-e.e-index in
    let e : ℕ = slice_index_or around i 0 in
    let at = c.edges_of-around.ensures.within i 0 c.loop-e-test.true in
    let inside : e < length c.args.forks.now = omega (arith, at.0, c.requires.forks) in
    let side : c.side-side.result ≡ side_at c.args.graph.now c.args.vertex e
    = c.side-side.ensures ∙ ap (λ es. side_of c.args.vertex (slice_index_or es e no_edge)) c.edges-edges.ensures.value in
    let fork = read_any c.args.forks.now e c.index-forks-e.result (no_fork 0) inside in
    let ride : c.ride-ride.result.now.delta ≡ (at_side (side_at c.args.graph.now c.args.vertex e) (slice_index_or c.args.forks.now e (no_fork 0)).content).delta
    = ap (λ (x : Ride _). x.delta) (c.ride-ride.ensures ∙ (λ j. at_side (side j) (fork j).content)) in
    record {
      value = c.in_ok-acc-2.ensures.value ∙ ((λ j. added p.sum (c.loop-e.invariant.value j) (ride j)) ∙ sym (fold_more _ _ around i 0 c.loop-e-test.true));
      own = c.in_ok-acc-2.ensures.own;
    }
