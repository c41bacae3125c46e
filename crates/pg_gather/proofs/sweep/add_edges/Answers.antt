use Rattle.std.proofs.Common.{◌≡◌, ◌<◌, ◌+◌, ℕ, Some, None, cond, length, get_or, ap, ◌∙◌, arith}
use Rattle.std.specs.Prelude.{sum_by}
use Rattle.pg_gather.specs.Desks.{is_wanted, sum_below}
use Rattle.pg_gather.proofs.Sweeping.{places_below, counts_none, counts_more}
use Rattle.pg_gather.proofs.sweep.add_edges.Goals as goal

pub loop-place-init : goal.loop-place-init
loop-place-init g c = record {
  desks = c.requires.desks;
  sums = c.requires.sums;
  counted = omega (arith, counts_none (g.P.VertexProgram.meaning c.args.program.now) c.args.graph.now c.args.store.now c.args.wanted.now);
}

pub loop-place-preserved : goal.loop-place-preserved
loop-place-preserved g c = let p = g.P.VertexProgram.meaning c.args.program.now in
    let graph = c.args.graph.now in
    let place = c.loop-place.place in
    let inside : place < length c.args.store.now.numbers = omega (arith, c.len-place-end.ensures.value) in
    record {
      desks = c.in_ok-add_edge.ensures.desks;
      sums = c.in_ok-add_edge.ensures.sums;
      counted = omega (
        arith,
        c.loop-place.invariant.counted,
        c.in_ok-add_edge.ensures.counted,
        counts_more p graph c.args.store.now c.args.mirrors.now c.vertices.ensures.graph c.args.wanted.now c.requires.apart place (c.requires.readable.edges place 0 inside).edge,
      );
    }

pub returns-clause-sums : goal.returns-clause-sums
returns-clause-sums g c = let p = g.P.VertexProgram.meaning c.args.program.now in
    let mirrors = c.args.mirrors.now in
    let all : c.loop-place.place ≡ length c.args.store.now.numbers = omega (arith, c.len-place-end.ensures.value) in
    λ r hr. let u = get_or mirrors.vertices r 0 in
    c.loop-place.invariant.sums r hr ∙ ap (λ (n : ℕ). cond (is_wanted c.args.wanted.now u) (Some (sum_below p c.args.graph.now c.args.store.now mirrors n u)) None) all

pub returns-clause-counted : goal.returns-clause-counted
returns-clause-counted g c = let p = g.P.VertexProgram.meaning c.args.program.now in
    let all : c.loop-place.place ≡ length c.args.store.now.numbers = omega (arith, c.len-place-end.ensures.value) in
    c.loop-place.invariant.counted ∙ ap (λ (n : ℕ). c.args.steps.now + sum_by (λ u. length (places_below p c.args.graph.now c.args.store.now n u)) c.args.wanted.now) all
