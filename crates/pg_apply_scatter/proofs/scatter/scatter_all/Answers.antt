use Rattle.std.proofs.Common.{◌≡◌, true, ◌++◌, ◌∙◌, ap, arith}
use Rattle.pg_apply_scatter.proofs.Visiting.{visited_none, visited_more, visited_all, sent_all}
use Rattle.pg_apply_scatter.proofs.Listing.{listed_more}
use Rattle.pg_apply_scatter.proofs.scatter.scatter_all.Goals as goal

pub loop-place-init : goal.loop-place-init
loop-place-init g c = let p = g.P.VertexProgram.meaning c.args.program.now in record {
  readable = c.requires.readable;
  visited = visited_none p c.args.graph.now c.args.mirrors.now c.args.carries.now c.args.store.now (λ all. c.new-sent.result.items ≡ all) c.new-sent.ensures.items;
}

pub loop-place-preserved : goal.loop-place-preserved
loop-place-preserved g c = let p = g.P.VertexProgram.meaning c.args.program.now in
    let before = c.loop-place.sent.items in
    let after = c.push_visits.new.sent.items in
    record {
      readable = c.in_ok-visits.ensures.readable;
      visited = visited_more p c.args.graph.now c.args.mirrors.now c.args.carries.now c.args.store.now c.loop-place.place c.loop-place.store c.visit_place.new.store (λ all. before ≡ all) (λ all. after ≡ all)
          c.len-place-end.ensures.words (omega (arith, c.loop-place-test.true, c.len-place-end.ensures.value)) c.loop-place.invariant.visited c.in_ok-visits.ensures.words
          (λ all is. listed_more true all _ before after is (c.in_ok-push_visits.ensures ∙ ap (λ xs. before ++ xs) c.in_ok-visits.ensures.sent));
    }

pub returns-clause-words : goal.returns-clause-words
returns-clause-words g c = let p = g.P.VertexProgram.meaning c.args.program.now in
    visited_all p c.args.graph.now c.args.mirrors.now c.args.carries.now c.args.store.now c.loop-place.place c.loop-place.store (λ all. c.loop-place.sent.items ≡ all) c.len-place-end.ensures.words
    (omega (arith, c.loop-place-test.false, c.loop-place.auto.place-end, c.len-place-end.ensures.value)) c.loop-place.invariant.visited

pub returns-clause-sent : goal.returns-clause-sent
returns-clause-sent g c = let p = g.P.VertexProgram.meaning c.args.program.now in
    sent_all p c.args.graph.now c.args.mirrors.now c.args.carries.now c.args.store.now c.loop-place.place c.loop-place.store (λ all. c.loop-place.sent.items ≡ all)
    (omega (arith, c.loop-place-test.false, c.loop-place.auto.place-end, c.len-place-end.ensures.value)) c.loop-place.invariant.visited
