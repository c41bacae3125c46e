use Rattle.std.proofs.Common.{◌≡◌, map, refl, sym, subst, ◌∙◌, ap}
use Rattle.pg_gather.proofs.Merging.{with_one, with_none, added, passed, list_more, firsts_stay, one_own}
use Rattle.pg_gather.proofs.merge.add_list.Goals.{in-Some+in_ok-add_at, in_default}
use Rattle.pg_gather.proofs.merge.add_list.Goals as goal

pub loop-i-init : goal.loop-i-init
loop-i-init g c = record {
  sums = with_none (g.P.VertexProgram.meaning c.args.program.now) c.args.sums.now;
  vertices = c.requires.vertices;
  own = c.requires.sums;
}

pub loop-i-preserved : goal.loop-i-preserved
loop-i-preserved g c =
    let p = g.P.VertexProgram.meaning c.args.program.now in
    let i = c.loop-i.i in
    let part = c.index-parts-i.result in
    let invariant = c.loop-i.invariant in
    let new : c.match-place_near.sums ≡ with_one p c.loop-i.sums part = elim c.match-place_near.branch [
      | in-Some+in_ok-add_at w ↦ w.sums-is ∙ w.in_ok-add_at.ensures ∙ added p c.args.wanted.now c.loop-i.sums w.in-Some.k part c.requires.apart invariant.vertices w.in-Some.ensures.within w.in-Some.ensures.found
      | in_default w ↦ w.sums-is ∙ passed p c.args.wanted.now c.loop-i.sums part invariant.vertices (w.in_default.ensures.none refl)
    ] in
    let P : _ → Type 0 = λ part. p.IsAcc part.1 in
    record {
      sums = new ∙ ap (λ sums. with_one p sums part) invariant.sums ∙ ap (with_one p _) c.index-parts-i.is ∙ sym (list_more p c.args.sums.now c.args.parts.now i part c.loop-i-test.true);
      vertices = ap (λ sums. map (λ sum. sum.0) sums) new ∙ firsts_stay p c.loop-i.sums part ∙ invariant.vertices;
      own = rw new (one_own p c.laws_of.ensures c.loop-i.sums part invariant.own (subst P (sym c.index-parts-i.is) (c.requires.parts i part c.loop-i-test.true)));
    }
