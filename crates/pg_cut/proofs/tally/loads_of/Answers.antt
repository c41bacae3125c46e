use Rattle.std.proofs.Common.{count_by, ◌==◌, ap, ◌∙◌, arith, length-set}
use Rattle.std.proofs.lemmas.List.{take_all}
use Rattle.std.proofs.lemmas.List.FromFn.{fill_by_all}
use Rattle.pg_cut.proofs.Counting.{tally_fits, tally_more}
use Rattle.pg_cut.proofs.tally.loads_of.Goals as goal

pub overflow_add-index_mut : goal.overflow_add-index_mut
overflow_add-index_mut c = omega (arith, tally_fits c.loop-e.loads.items c.args.place.now c.args.workers c.loop-e.e c.index_mut.result.now (omega arith) c.loop-e.invariant.count (c.requires.place c.loop-e.e (omega arith)) c.index_mut.ensures.value c.loop-e.invariant.each)

pub loop-e-preserved : goal.loop-e-preserved
loop-e-preserved c = record {
  count = length-set _ _ _ ∙ c.loop-e.invariant.count;
  each = tally_more c.loop-e.loads.items c.args.place.now c.args.workers c.loop-e.e c.index_mut.result.now (omega arith) c.loop-e.invariant.count (c.requires.place c.loop-e.e (omega arith)) c.index_mut.ensures.value c.loop-e.invariant.each;
}

pub returns : goal.returns
returns c = fill_by_all (λ w. count_by (λ x. x == w) c.args.place.now) c.loop-e.loads.items c.args.workers 0 c.loop-e.invariant.count
    (λ w h. c.loop-e.invariant.each w h ∙ ap (count_by (λ x. x == w)) (take_all c.loop-e.e c.args.place.now (omega arith)))
