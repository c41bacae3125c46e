use Rattle.std.proofs.Common.{◌≡◌, ◌+◌, length, get_or, drop, sym, ◌∙◌, ap, arith}
use Rattle.std.proofs.lemmas.List.{get_or-drop, length-drop}
use Rattle.pg_cut.specs.WorkerSet.{workers_in}
use Rattle.pg_cut.proofs.Sets.{some_worker, workers_lowest, lowest_first, drop_tail}
use Rattle.pg_cut.proofs.worker_set.worker_at.Goals as goal

pub lowest-requires : goal.lowest-requires
lowest-requires c = some_worker c.loop-passed.rest (omega (arith, ap length c.loop-passed.invariant, length-drop c.loop-passed._passed (workers_in c.args.set)))

pub lowest-requires-2 : goal.lowest-requires-2
lowest-requires-2 c = some_worker c.loop-passed.rest (omega (arith, ap length c.loop-passed.invariant, length-drop c.loop-passed._passed (workers_in c.args.set)))

pub loop-passed-preserved : goal.loop-passed-preserved
loop-passed-preserved c =
    let first = workers_lowest c.loop-passed.rest c.without-rest.result c.lowest.result c.lowest.ensures.member c.lowest.ensures.least c.without-rest.ensures.value c.lowest.ensures.within in
    drop_tail (workers_in c.args.set) c.loop-passed._passed c.lowest.result (workers_in c.without-rest.result) (sym c.loop-passed.invariant ∙ first)

pub returns : goal.returns
returns c =
    let all : c.loop-passed._passed ≡ c.args.place = omega arith in
    let at : c.args.place + 0 ≡ c.args.place = omega arith in
    sym (lowest_first c.loop-passed.rest c.lowest-2.result c.lowest-2.ensures.within c.lowest-2.ensures.member c.lowest-2.ensures.least)
    ∙ ap (λ xs. get_or xs 0 0) (c.loop-passed.invariant ∙ ap (λ n. drop n (workers_in c.args.set)) all)
    ∙ get_or-drop c.args.place (workers_in c.args.set) 0 0 ∙ ap (λ n. get_or (workers_in c.args.set) n 0) at
