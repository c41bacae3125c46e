use Rattle.std.proofs.Common.{◌<◌, length, refl, Some, sym, ◌∙◌, ap, arith, map}
use Rattle.pg_sync.specs.Phases.{Seat}
use Rattle.pg_sync.proofs.Collecting.{kept_still, parts_more, rest_still}
use Rattle.pg_sync.proofs.collect.sums_of.Goals as goal

pub returns-in_err-push-in-Some-clause-counters : goal.returns-in_err-push-in-Some-clause-counters
returns-in_err-push-in-Some-clause-counters g c = kept_still (λ (seat : Seat g.row.A.Denot). seat.0) c.args.seats.now c.loop-w.seats c.loop-w.w c.index-seats-w.result _ c.loop-w.invariant.counters refl

pub loop-w-preserved : goal.loop-w-preserved
loop-w-preserved g c =
    let x = c.index-seats-w.result in
    let inside : c.loop-w.w < length c.args.seats.now = omega (arith, c.loop-w-test.true, c.loop-w.auto.seats) in
    let whole = c.loop-w.invariant.rest c.loop-w.w x (omega arith) in
    record {
      sums = ap (map (λ sums. Some sums)) c.in_ok-push-in-Some.ensures.items ∙ parts_more (λ (seat : Seat g.row.A.Denot). seat.1) (λ sums. Some sums) c.args.seats.now c.loop-w.seats c.loop-w.w x c.loop-w.parts.items c.in-Some.sums inside c.loop-w.invariant.sums (sym c.in-Some.is ∙ c.take.ensures.value) whole;
      counters = kept_still (λ (seat : Seat g.row.A.Denot). seat.0) c.args.seats.now c.loop-w.seats c.loop-w.w x _ c.loop-w.invariant.counters refl;
      rest = rest_still c.args.seats.now c.loop-w.seats c.loop-w.w _ c.loop-w.invariant.rest;
    }
