use Rattle.std.proofs.Common.{ℕ, ◌+◌, ◌<◌, ◌≡◌, ◌≢◌, length, take, slice_index_or, slice_set, sym, ap, subst, ◌∙◌, arith}
use Rattle.std.proofs.lemmas.List.{get_or-set_other, get_or-map, length-set, take_all}
use Rattle.pg_meals.specs.Readied.{with_plan, ArePlanned}
use Rattle.pg_meals.proofs.Planned.{plan_more}
use Rattle.pg_meals.proofs.readying.put_plans.Goals as goal

pub index_mut-fork-requires : goal.index_mut-fork-requires
index_mut-fork-requires g c =
    let a : slice_index_or c.args.edges.now c.loop-place.place 0 < length c.args.forks.now.items = c.requires.inside c.loop-place.place 0 c.loop-place-test.true in
    omega (arith, a, c.loop-place.invariant.same)

pub loop-place-preserved : goal.loop-place-preserved
loop-place-preserved g c =
    let inv = c.loop-place.invariant in
    let before = c.args.forks.now.items in
    let forks = c.loop-place.forks.items in
    let es = c.args.edges.now in
    let i : ℕ = c.loop-place.place in
    let l : i < length es = c.loop-place-test.true in
    let e : ℕ = slice_index_or es i 0 in
    let a : e < length before = c.requires.inside i 0 l in
    let inside : e < length forks = omega (arith, a, inv.same) in
    let x = c.index_mut-fork.result.now in
    record {
      done = λ plan is.
          let more = plan_more before plan es i forks x c.requires.once l (inv.done plan is) inside c.index_mut-fork.ensures.value in
          let was = c.index_mut.ensures.value ∙ inv.rest i c.index_mut.result.now (omega arith) in
          let there = ap (λ xs. slice_index_or xs i c.index_mut.result.now) is ∙ get_or-map plan es i 0 c.index_mut.result.now l in
          let mine : c.swap.new.x ≡ plan e = c.swap.ensures.x_after ∙ (was ∙ there) in
          subst (λ k. ArePlanned before plan (take (i + 1) es) (slice_set forks e (with_plan k x))) (sym mine) more;
      same = length-set _ _ _ ∙ inv.same;
      rest = λ j d k. let n : j ≢ i = λ q. omega (arith, k, q) in get_or-set_other c.loop-place.plans.items i j c.swap.new.y d n ∙ inv.rest j d (omega (arith, k));
      count = length-set _ _ _ ∙ inv.count;
    }

pub returns-clause-planned : goal.returns-clause-planned
returns-clause-planned g c = λ plan is.
    subst (λ xs. ArePlanned c.args.forks.now.items plan xs c.loop-place.forks.items) (take_all c.loop-place.place c.args.edges.now c.loop-place-test.false) (c.loop-place.invariant.done plan is)
