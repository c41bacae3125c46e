use Rattle.std.proofs.Common.{ℕ, ◌<◌, ◌≡◌, length, false, Some, None, arith, refl, sym, ap, ◌∙◌}
use Rattle.pg_law.specs.Values.{two}
use Rattle.pg_meals.specs.declared.seat.Seat.{Seat}
use Rattle.pg_meals.specs.declared.actor.Actor.{Actor}
use Rattle.pg_meals.specs.Entries.{no_seat, idle, fork_at, actor_at, replicas_at}
use Rattle.pg_meals.specs.Tallies.{pins_among}
use Rattle.pg_meals.proofs.ListReads.{read_any}
use Rattle.pg_meals.proofs.Claimed.{seated_shows}
use Rattle.pg_meals.proofs.Written.{leaves, stays_on}
use Rattle.pg_meals.proofs.Tallied.{pins_zero, none_pinned, pins_new, stale_actor, left_none, last_seat}
use Rattle.pg_meals.proofs.board.Board.drop_vertex.Goals as goal

pub returns-then-record-ne0-clause-refused : goal.returns-then-record-ne0-clause-refused
returns-then-record-ne0-clause-refused g c = λ n w d core out step.
    let b = c.args.self.now in
    let a : ℕ = c.args.actor in
    let actor_is = c.index-record.ensures ∙ read_any b.actors.items a c.index-record.result.now idle c.requires.actor in
    c.if-record-ne0.true (ap (λ (z : Actor). z.pinned) actor_is ∙ (c.requires.board.tallied.pinned a ∙ pins_zero b.forks.items a w step.2))

pub returns-then-record-ne0-2-clause-refused : goal.returns-then-record-ne0-2-clause-refused
returns-then-record-ne0-2-clause-refused g c = λ n w d core out step.
    let b = c.args.self.now in
    let a : ℕ = c.args.actor in
    let actor_is = c.index-record.ensures ∙ read_any b.actors.items a c.index-record.result.now idle c.requires.actor in
    stays_on b.actors.items b.replicas.items a step.0 (λ q. c.if-record-ne0-2.true (ap (λ (z : Actor). z.stale) actor_is ∙ (c.requires.board.tallied.stale a ∙ q))) step.1 (c.requires.board.once step.0) step.4

pub overflow_cast-vertex : goal.overflow_cast-vertex
overflow_cast-vertex g c =
    let b = c.args.self.now in
    let actor_is = c.index-record.ensures ∙ read_any b.actors.items c.args.actor c.index-record.result.now idle c.requires.actor in
    let inside = c.requires.board.inside c.args.actor c.in-Some.vertex (ap (λ (z : Actor). z.vertex) (sym actor_is) ∙ c.in-Some.is) in
    grind (arith, inside, c.requires.board.few)

pub returns-clause-acts : goal.returns-clause-acts
returns-clause-acts g c = λ w d.
    let b = c.args.self.now in
    let a : ℕ = c.args.actor in
    let v : ℕ = c.in-Some.vertex in
    let actor_is = c.index-record.ensures ∙ read_any b.actors.items a c.index-record.result.now idle c.requires.actor in
    let busy : (actor_at b.actors.items a).vertex ≡ Some v = ap (λ (z : Actor). z.vertex) (sym actor_is) ∙ c.in-Some.is in
    let inside : v < length c.args.graph.now.ids = c.requires.board.inside a v busy in
    let v_in : v < length b.seats.items = omega (arith, inside, c.requires.board.seats) in
    let pins = none_pinned b.forks.items a (sym (c.requires.board.tallied.pinned a) ∙ (ap (λ (z : Actor). z.pinned) (sym actor_is) ∙ c.if-record-ne0.false)) w in
    let shown = seated_shows d b.seats.items (fork_at w b.forks.items) (replicas_at b.replicas.items) b.actors.items b.turn b.journal.items a v c.index_mut.result.now None None false c.idle.result
    c.requires.actor v_in (c.index_mut.ensures.value ∙ read_any b.seats.items v c.index_mut.result.now (no_seat d) v_in) c.idle.ensures pins in (
      v,
      busy,
      pins,
      ap (λ (z : Actor). z.turn) (sym actor_is) ∙ c.if-record.false,
      leaves b.actors.items b.replicas.items a v (sym (c.requires.board.tallied.stale a) ∙ (ap (λ (z : Actor). z.stale) (sym actor_is) ∙ c.if-record-ne0-2.false)) busy,
      shown,
      refl,
    )

pub returns-clause-tallied : goal.returns-clause-tallied
returns-clause-tallied g c =
    let b = c.args.self.now in
    let a : ℕ = c.args.actor in
    let v : ℕ = c.in-Some.vertex in
    let counted = c.requires.board.tallied in
    let actor_is = c.index-record.ensures ∙ read_any b.actors.items a c.index-record.result.now idle c.requires.actor in
    let inside = c.requires.board.inside a v (ap (λ (z : Actor). z.vertex) (sym actor_is) ∙ c.in-Some.is) in
    let v_in : v < length b.seats.items = omega (arith, inside, c.requires.board.seats) in
    let none : pins_among a b.forks.items ≡ 0 = sym (counted.pinned a) ∙ (ap (λ (z : Actor). z.pinned) (sym actor_is) ∙ c.if-record-ne0.false) in
    let now_is = c.index_mut.ensures.value ∙ read_any b.seats.items v c.index_mut.result.now (no_seat (two 0 0)) v_in in
    record {
      pinned = pins_new b.forks.items b.actors.items counted.pinned a c.idle.result c.requires.actor (ap (λ (z : Actor). z.pinned) c.idle.ensures) (none_pinned b.forks.items a none 0);
      stale = stale_actor b.replicas.items b.actors.items counted.stale a c.idle.result c.requires.actor (left_none b.replicas.items c.idle.result None false c.idle.ensures);
      last = last_seat b.seats.items b.journal.items counted.last v _ v_in (ap (λ (z : Seat _). z.last) now_is);
    }

pub index_mut-requires : goal.index_mut-requires
index_mut-requires g c =
    let b = c.args.self.now in
    let actor_is = c.index-record.ensures ∙ read_any b.actors.items c.args.actor c.index-record.result.now idle c.requires.actor in
    let inside = c.requires.board.inside c.args.actor c.in-Some.vertex (ap (λ (z : Actor). z.vertex) (sym actor_is) ∙ c.in-Some.is) in
    omega (arith, inside, c.requires.board.seats)
