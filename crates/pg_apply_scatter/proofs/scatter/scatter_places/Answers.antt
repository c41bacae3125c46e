use Rattle.std.proofs.Common.{◌≡◌, ℕ, ◌+◌, ◌<◌, ◌++◌, length, get_or, refl, ◌∙◌, ap, arith, below_more}
use Rattle.pg_edge_store.specs.Store.{Store}
use Rattle.pg_apply_scatter.specs.Sending.{listing}
use Rattle.pg_apply_scatter.proofs.Listing.{listing-nil, listed_more}
use Rattle.pg_apply_scatter.proofs.Visiting.{visited_none, visited_more, visited_all, sent_all}
use Rattle.pg_apply_scatter.proofs.Skipping.{ascending, to_place, to_end}
use Rattle.pg_apply_scatter.proofs.scatter.scatter_places.Goals as goal

pub loop-place-init : goal.loop-place-init
loop-place-init g c = let p = g.P.VertexProgram.meaning c.args.program.now in record {
  readable = c.requires.readable;
  visited = visited_none p c.args.graph.now c.args.mirrors.now c.args.carries.now c.args.store.now (λ all. c.new-sent.result.items ≡ listing c.args.with_deltas all) (c.new-sent.ensures.items ∙ listing-nil c.args.with_deltas);
  passed = λ i h. absurd (omega arith);
  within = omega arith;
}

pub loop-place-preserved-then-place-next : goal.loop-place-preserved-then-place-next
loop-place-preserved-then-place-next g c = record {
  readable = c.loop-place.invariant.readable;
  visited = c.loop-place.invariant.visited;
  passed = let Passed : ℕ → Type 0 = λ i. get_or c.as_slice-ascending.result.now i 0 < c.loop-place.next in below_more Passed c.loop-place.place-index c.loop-place.invariant.passed c.if-place-next.true;
  within = c.loop-place.invariant.within;
}

pub visit_place-requires-clause-place : goal.visit_place-requires-clause-place
visit_place-requires-clause-place g c κs within =
    let p = g.P.VertexProgram.meaning c.args.program.now in
    let first = c.args.store.now in
    let sorted = ascending c.args.graph.now first.numbers p.scatter_edges c.args.carries.now (length c.args.graph.now.ids) c.args.places.items c.sort_unstable.new.self.items c.as_slice-ascending.result.now
    c.sort_unstable.ensures.permutation c.sort_unstable.ensures.sorted c.as_slice-ascending.ensures.value c.requires.places in
    let inside = λ (i d : ℕ) (h : i < length first.numbers). (c.requires.readable.edges i d h).edge in
    let below = sorted.are.within c.loop-place.place-index 0 c.loop-place-test.true in
    omega (arith, below, ap (λ (s : Store). length s.numbers) c.loop-place.invariant.visited.kept)

pub overflow_add-next : goal.overflow_add-next
overflow_add-next g c =
    let p = g.P.VertexProgram.meaning c.args.program.now in
    let first = c.args.store.now in
    let sorted = ascending c.args.graph.now first.numbers p.scatter_edges c.args.carries.now (length c.args.graph.now.ids) c.args.places.items c.sort_unstable.new.self.items c.as_slice-ascending.result.now
    c.sort_unstable.ensures.permutation c.sort_unstable.ensures.sorted c.as_slice-ascending.ensures.value c.requires.places in
    let inside = λ (i d : ℕ) (h : i < length first.numbers). (c.requires.readable.edges i d h).edge in
    let below = sorted.are.within c.loop-place.place-index 0 c.loop-place-test.true in
    omega (arith, below, c.len.ensures.value, c.len.type_inv)

pub loop-place-preserved : goal.loop-place-preserved
loop-place-preserved g c =
    let p = g.P.VertexProgram.meaning c.args.program.now in
    let first = c.args.store.now in
    let sorted = ascending c.args.graph.now first.numbers p.scatter_edges c.args.carries.now (length c.args.graph.now.ids) c.args.places.items c.sort_unstable.new.self.items c.as_slice-ascending.result.now
    c.sort_unstable.ensures.permutation c.sort_unstable.ensures.sorted c.as_slice-ascending.ensures.value c.requires.places in
    let inside = λ (i d : ℕ) (h : i < length first.numbers). (c.requires.readable.edges i d h).edge in
    let place = get_or c.as_slice-ascending.result.now c.loop-place.place-index 0 in
    let with_deltas = c.args.with_deltas in
    let before = c.loop-place.sent.items in
    let after = c.push_visits.new.sent.items in
    let below = sorted.are.within c.loop-place.place-index 0 c.loop-place-test.true in
    record {
      readable = c.in_ok-visits.ensures.readable;
      visited = visited_more p c.args.graph.now c.args.mirrors.now c.args.carries.now first place c.loop-place.store c.visit_place.new.store (λ all. before ≡ listing with_deltas all) (λ all. after ≡ listing with_deltas all)
          c.len.ensures.words below
          (to_place p c.args.graph.now c.args.mirrors.now c.args.carries.now c.vertices.ensures.graph c.requires.carries.count first c.as_slice-ascending.result.now sorted inside c.loop-place.place-index c.loop-place.next c.loop-place.store (λ all. before ≡ listing with_deltas all)
          c.loop-place-test.true c.loop-place.invariant.passed c.if-place-next.false c.loop-place.invariant.visited)
          c.in_ok-visits.ensures.words
          (λ all is. listed_more with_deltas all _ before after is (c.in_ok-push_visits.ensures ∙ ap (λ xs. before ++ listing with_deltas xs) c.in_ok-visits.ensures.sent));
      passed = let Passed : ℕ → Type 0 = λ i. get_or c.as_slice-ascending.result.now i 0 < place + 1 in
          below_more Passed c.loop-place.place-index (λ i lt. omega (arith, c.loop-place.invariant.passed i lt, c.if-place-next.false)) (omega arith);
      within = omega (arith, below);
    }

pub returns-clause-words : goal.returns-clause-words
returns-clause-words g c =
    let p = g.P.VertexProgram.meaning c.args.program.now in
    let first = c.args.store.now in
    let sorted = ascending c.args.graph.now first.numbers p.scatter_edges c.args.carries.now (length c.args.graph.now.ids) c.args.places.items c.sort_unstable.new.self.items c.as_slice-ascending.result.now
    c.sort_unstable.ensures.permutation c.sort_unstable.ensures.sorted c.as_slice-ascending.ensures.value c.requires.places in
    let inside = λ (i d : ℕ) (h : i < length first.numbers). (c.requires.readable.edges i d h).edge in
    let all = to_end p c.args.graph.now c.args.mirrors.now c.args.carries.now c.vertices.ensures.graph c.requires.carries.count first c.as_slice-ascending.result.now sorted inside c.loop-place.next c.loop-place.store (λ sent. c.loop-place.sent.items ≡ listing c.args.with_deltas sent)
    (λ i h. c.loop-place.invariant.passed i (omega (arith, h, c.loop-place-test.false))) c.loop-place.invariant.within c.loop-place.invariant.visited in
    visited_all p c.args.graph.now c.args.mirrors.now c.args.carries.now first (length first.numbers) c.loop-place.store (λ sent. c.loop-place.sent.items ≡ listing c.args.with_deltas sent) c.len.ensures.words refl all

pub returns-clause-sent : goal.returns-clause-sent
returns-clause-sent g c =
    let p = g.P.VertexProgram.meaning c.args.program.now in
    let first = c.args.store.now in
    let sorted = ascending c.args.graph.now first.numbers p.scatter_edges c.args.carries.now (length c.args.graph.now.ids) c.args.places.items c.sort_unstable.new.self.items c.as_slice-ascending.result.now
    c.sort_unstable.ensures.permutation c.sort_unstable.ensures.sorted c.as_slice-ascending.ensures.value c.requires.places in
    let inside = λ (i d : ℕ) (h : i < length first.numbers). (c.requires.readable.edges i d h).edge in
    let all = to_end p c.args.graph.now c.args.mirrors.now c.args.carries.now c.vertices.ensures.graph c.requires.carries.count first c.as_slice-ascending.result.now sorted inside c.loop-place.next c.loop-place.store (λ sent. c.loop-place.sent.items ≡ listing c.args.with_deltas sent)
    (λ i h. c.loop-place.invariant.passed i (omega (arith, h, c.loop-place-test.false))) c.loop-place.invariant.within c.loop-place.invariant.visited in
    sent_all p c.args.graph.now c.args.mirrors.now c.args.carries.now first (length first.numbers) c.loop-place.store (λ sent. c.loop-place.sent.items ≡ listing c.args.with_deltas sent) refl all
