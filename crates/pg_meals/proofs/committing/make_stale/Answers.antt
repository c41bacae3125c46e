use Rattle.pg_meals.proofs.Staled.{stale_more}
use Rattle.pg_meals.proofs.committing.make_stale.Goals as goal
use Rattle.std.proofs.Common.{◌<◌, length, arith}

pub loop-place-preserved : goal.loop-place-preserved
loop-place-preserved c =
    let l : c.loop-place.place < length c.args.row.now.items = omega (arith, c.loop-place-test.true, c.len-place-end.ensures) in
    stale_more c.args.row.now.items c.loop-place.row.items c.loop-place.place c.index_mut.result.now c.loop-place.invariant l c.index_mut.ensures.value
