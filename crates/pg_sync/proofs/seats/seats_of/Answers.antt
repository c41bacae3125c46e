use Rattle.std.proofs.Common.{◌<◌, ◌++◌, ◌∷◌, [], None, length, take, sym, ◌∙◌, ap, arith}
use Rattle.std.proofs.lemmas.List.{map-append, take_more, get_or_default}
use Rattle.pg_sync.specs.Phases.{Seat}
use Rattle.pg_sync.specs.Counting.{counters_of}
use Rattle.pg_sync.proofs.Collecting.{rest_still}
use Rattle.pg_sync.proofs.seats.seats_of.Goals as goal

pub push_reserved-requires : goal.push_reserved-requires
push_reserved-requires g c = omega (arith, c.loop-w.invariant.count, c.loop-w.invariant.room, c.loop-w-test.true, c.loop-w.auto.steps)

pub loop-w-preserved : goal.loop-w-preserved
loop-w-preserved g c =
    let w = c.loop-w.w in
    let x = c.index-steps-w.result in
    let inside : w < length c.args.steps.now = omega (arith, c.loop-w-test.true, c.loop-w.auto.steps) in
    let read = c.take.ensures.value ∙ c.loop-w.invariant.rest w x (omega arith) ∙ get_or_default c.args.steps.now w x None inside in
    record {
      lent = ap counters_of c.push_reserved.ensures.items ∙ map-append (λ (seat : Seat g.row.A.Denot). seat.0) c.loop-w.seats.items _
          ∙ ap (λ ys. ys ++ c.take.result ∷ []) c.loop-w.invariant.lent ∙ ap (λ y. take w c.args.steps.now ++ y ∷ []) read ∙ sym (take_more c.args.steps.now w None inside);
      count = omega (arith, c.push_reserved.ensures.len, c.loop-w.invariant.count);
      room = omega (arith, c.push_reserved.ensures.capacity, c.loop-w.invariant.room);
      rest = rest_still c.args.steps.now c.loop-w.steps w _ c.loop-w.invariant.rest;
    }
