use Rattle.std.proofs.Common.{◌<◌, ◌++◌, ◌∷◌, [], None, length, take, sym, ◌∙◌, ap, arith}
use Rattle.std.proofs.lemmas.List.{take_more, take_more_set, length-map}
use Rattle.pg_sync.specs.Phases.{Seat}
use Rattle.pg_sync.specs.Counting.{counters_of}
use Rattle.pg_sync.proofs.Collecting.{rest_still}
use Rattle.pg_sync.proofs.Raising.{counter_at}
use Rattle.pg_sync.proofs.seats.give_back.Goals as goal

pub loop-w-preserved : goal.loop-w-preserved
loop-w-preserved g c =
    let w = c.loop-w.w in
    let x = c.index-seats-w.result in
    let counters = counters_of c.args.seats.now in
    let here : w < length c.loop-w.steps = omega (arith, c.loop-w-test.true, c.loop-w.auto.steps) in
    let inside : w < length c.args.seats.now = omega (arith, c.loop-w-test.true, c.loop-w.auto.steps, c.requires) in
    let read = c.take.ensures.value ∙ ap (λ (seat : Seat g.row.A.Denot). seat.0) (c.loop-w.invariant.rest w x (omega arith)) ∙ sym (counter_at c.args.seats.now w x inside) in
    record {
      back = take_more_set c.loop-w.steps w c.take.result here ∙ ap (λ ys. ys ++ c.take.result ∷ []) c.loop-w.invariant.back
          ∙ ap (λ y. take w counters ++ y ∷ []) read ∙ sym (take_more counters w None (omega (arith, inside, length-map c.args.seats.now (λ (seat : Seat g.row.A.Denot). seat.0))));
      rest = rest_still c.args.seats.now c.loop-w.seats w _ c.loop-w.invariant.rest;
    }
