use Rattle.std.proofs.Common.{ℕ, ◌+◌, ◌≡◌, length, slice_index_or, take, true, false, arith, sym, ap, subst, ◌∙◌}
use Rattle.std.proofs.lemmas.List.{take_all}
use Rattle.std.specs.Prelude.{filter}
use Rattle.pg_graph.specs.Multigraph.{no_edge, side_of, side_at, takes}
use Rattle.pg_law.specs.Laws.{IsNear}
use Rattle.pg_law.specs.Round.{edges_over}
use Rattle.pg_meals.specs.Plans.{gather_along}
use Rattle.pg_meals.proofs.Looping.{fold_passing_more, count_passing_more}
use Rattle.pg_meals.proofs.gathering.gather_noted.Goals as goal
use Rattle.pg_meals.proofs.gathering.gather_noted.Goals.{then-takes+in_ok-part+in_ok-acc-2, else-takes}

pub gather-requires : goal.gather-requires
gather-requires g c =
    let p = g.P.VertexProgram.meaning c.args.program.now in
    let at = c.edges_of-around.ensures.within c.loop-e.e-index 0 c.loop-e-test.true in
    let side : c.side-side.result ≡ side_at c.args.graph.now c.args.vertex (slice_index_or c.edges_of-around.result.now c.loop-e.e-index 0)
    = c.side-side.ensures ∙ ap (λ es. side_of c.args.vertex (slice_index_or es (slice_index_or c.edges_of-around.result.now c.loop-e.e-index 0) no_edge)) c.edges-edges.ensures.value in
    let used = (λ j. takes (sym c.gather_edges-dir.ensures j) (sym side j)) ∙ (sym c.takes.ensures ∙ c.if-takes.true) in
    subst (IsNear p) (sym c.near_over-near.ensures) (c.requires.near _ at.0 at.1 used)

pub sum-requires-clause-b : goal.sum-requires-clause-b
sum-requires-clause-b g c =
    let p = g.P.VertexProgram.meaning c.args.program.now in
    let at = c.edges_of-around.ensures.within c.loop-e.e-index 0 c.loop-e-test.true in
    let side : c.side-side.result ≡ side_at c.args.graph.now c.args.vertex (slice_index_or c.edges_of-around.result.now c.loop-e.e-index 0)
    = c.side-side.ensures ∙ ap (λ es. side_of c.args.vertex (slice_index_or es (slice_index_or c.edges_of-around.result.now c.loop-e.e-index 0) no_edge)) c.edges-edges.ensures.value in
    let used = (λ j. takes (sym c.gather_edges-dir.ensures j) (sym side j)) ∙ (sym c.takes.ensures ∙ c.if-takes.true) in
    subst p.IsAcc (sym c.in_ok-part.ensures.gathered) (c.laws_of.ensures.closed.gather _ (subst (IsNear p) (sym c.near_over-near.ensures) (c.requires.near _ at.0 at.1 used)))

pub loop-e-preserved : goal.loop-e-preserved
loop-e-preserved g c =
    let p = g.P.VertexProgram.meaning c.args.program.now in
    let around = c.edges_of-around.result.now in
    let i : ℕ = c.loop-e.e-index in
    let inv = c.loop-e.invariant in
    let at = c.edges_of-around.ensures.within i 0 c.loop-e-test.true in
    let side : c.side-side.result ≡ side_at c.args.graph.now c.args.vertex (slice_index_or around i 0)
    = c.side-side.ensures ∙ ap (λ es. side_of c.args.vertex (slice_index_or es (slice_index_or around i 0) no_edge)) c.edges-edges.ensures.value in
    let test : c.takes.result ≡ takes p.gather_edges (side_at c.args.graph.now c.args.vertex (slice_index_or around i 0))
    = c.takes.ensures ∙ (λ j. takes (c.gather_edges-dir.ensures j) (side j)) in
    let used = (λ (e : ℕ). takes p.gather_edges (side_at c.args.graph.now c.args.vertex e)) in
    elim c.if-takes.branch [
      | then-takes+in_ok-part+in_ok-acc-2 w ↦
          let near = subst (IsNear p) (sym w.near_over-near.ensures) (c.requires.near _ at.0 at.1 (sym test ∙ w.if-takes.true)) in
          let part_is = w.in_ok-part.ensures.gathered ∙ ap p.gather w.near_over-near.ensures in
          let part_own = subst p.IsAcc (sym w.in_ok-part.ensures.gathered) (c.laws_of.ensures.closed.gather _ near) in
          let more : length (filter used (take (i + 1) around)) ≡ length (filter used (take i around)) + 1 = count_passing_more used around i true c.loop-e-test.true (sym test ∙ w.if-takes.true) in
          record {
            gathered = w.acc-is ∙ (w.in_ok-acc-2.ensures ∙ ((λ j. p.sum (inv.gathered j) (part_is j))
                ∙ sym (fold_passing_more _ _ _ around i true c.loop-e-test.true (sym test ∙ w.if-takes.true))));
            own = subst p.IsAcc (sym (w.acc-is ∙ w.in_ok-acc-2.ensures)) (c.laws_of.ensures.closed.sum _ _ inv.own part_own);
            counted = rw (w.steps-is) (omega (arith, inv.counted, more, w.in_ok-part.ensures.counted));
          }
      | else-takes w ↦
          let more : length (filter used (take (i + 1) around)) ≡ length (filter used (take i around)) + 0 = count_passing_more used around i false c.loop-e-test.true (sym test ∙ w.if-takes.false) in
          record {
            gathered = w.acc-is ∙ (inv.gathered ∙ sym (fold_passing_more _ _ _ around i false c.loop-e-test.true (sym test ∙ w.if-takes.false)));
            own = subst p.IsAcc (sym w.acc-is) inv.own;
            counted = rw (w.steps-is) (omega (arith, inv.counted, more));
          }
    ]

pub returns-clause-value : goal.returns-clause-value
returns-clause-value g c =
    let p = g.P.VertexProgram.meaning c.args.program.now in
    let all = take_all c.loop-e.e-index c.edges_of-around.result.now c.loop-e-test.false ∙ c.edges_of-around.ensures.value in
    c.loop-e.invariant.gathered ∙ ap (λ xs. gather_along p c.args.graph.now c.args.forks.now c.args.centre c.args.vertex (filter (λ e. takes p.gather_edges (side_at c.args.graph.now c.args.vertex e)) xs)) all

pub returns-clause-counted : goal.returns-clause-counted
returns-clause-counted g c =
    let p = g.P.VertexProgram.meaning c.args.program.now in
    let all = take_all c.loop-e.e-index c.edges_of-around.result.now c.loop-e-test.false ∙ c.edges_of-around.ensures.value in
    let same : length (filter (λ e. takes p.gather_edges (side_at c.args.graph.now c.args.vertex e)) (take c.loop-e.e-index c.edges_of-around.result.now)) ≡ length (edges_over p.gather_edges c.args.graph.now c.args.vertex)
    = ap (λ xs. length (filter (λ e. takes p.gather_edges (side_at c.args.graph.now c.args.vertex e)) xs)) all in
    omega (arith, c.loop-e.invariant.counted, same)
