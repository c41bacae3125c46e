use Rattle.std.proofs.Common.{ℕ, ◌+◌, ◌<◌, length, arith, ap, ◌∙◌}
use Rattle.std.proofs.lemmas.List.{length-append, length-set, get_or-set_other}
use Rattle.pg_graph.proofs.Numbers.{grown}
use Rattle.pg_law.specs.Values.{two}
use Rattle.pg_meals.specs.declared.seat.Seat.{Seat}
use Rattle.pg_meals.specs.Entries.{no_seat, seat_at}
use Rattle.pg_meals.proofs.ListReads.{read_any}
use Rattle.pg_meals.proofs.closing.put_cells.Goals as goal

pub push_reserved-requires : goal.push_reserved-requires
push_reserved-requires g c =
    let inside : c.loop-v.v < length c.args.seats.now.items = omega (arith, c.len-v-end.ensures) in
    omega (arith, inside, c.loop-v.invariant.count, c.loop-v.invariant.room, c.requires.room)

pub loop-v-preserved : goal.loop-v-preserved
loop-v-preserved g c =
    let v : ℕ = c.loop-v.v in
    let seats = c.loop-v.seats.items in
    let inside : v < length c.args.seats.now.items = omega (arith, c.len-v-end.ensures) in
    let seat_is = c.index_mut.ensures.value ∙ read_any seats v c.index_mut.result.now (no_seat (two 0 0)) (omega (arith, inside, c.loop-v.invariant.len)) in
    record {
      done = c.push_reserved.ensures.items
          ∙ grown (λ u. (seat_at (two 0 0) c.args.seats.now.items u).cell) v _ _ c.loop-v.invariant.done (c.replace.ensures.value ∙ (ap (λ (x : Seat _). x.cell) seat_is ∙ c.loop-v.invariant.rest v (omega arith)));
      count = ap length c.push_reserved.ensures.items ∙ (length-append c.loop-v.cells.items _ ∙ ap (λ n. n + 1) c.loop-v.invariant.count);
      len = length-set _ _ _ ∙ c.loop-v.invariant.len;
      rest = λ u l. ap (λ (x : Seat _). x.cell) (get_or-set_other seats v u _ (no_seat (two 0 0)) (λ q. omega (arith, l, q))) ∙ c.loop-v.invariant.rest u (omega (arith, l));
      room = c.push_reserved.ensures.capacity ∙ c.loop-v.invariant.room;
    }
