use Rattle.std.proofs.Common.{ℕ, ◌<◌, ◌≡◌, length, Some, None, arith, refl, sym, ap, ◌∙◌}
use Rattle.std.specs.Prelude.{is_some}
use Rattle.pg_law.specs.Values.{two}
use Rattle.pg_meals.specs.declared.seat.Seat.{Seat}
use Rattle.pg_meals.specs.declared.actor.Actor.{Actor}
use Rattle.pg_meals.specs.Families.{set_at}
use Rattle.pg_meals.specs.Words.{claimed}
use Rattle.pg_meals.specs.Core.{empty_notes}
use Rattle.pg_meals.specs.Entries.{no_seat, idle, fork_at, seat_at, actor_at, replicas_at}
use Rattle.pg_meals.specs.Shown.{core_of}
use Rattle.pg_meals.proofs.ListReads.{read_any}
use Rattle.pg_meals.proofs.Claimed.{seated_shows, unpinned, none_of}
use Rattle.pg_meals.proofs.Tallied.{pins_new, stale_actor, left_none, last_seat}
use Rattle.pg_meals.proofs.board.Board.claim.Goals as goal

pub returns-clause-acts : goal.returns-clause-acts
returns-clause-acts g c = λ w d.
    let b = c.args.self.now in
    let a : ℕ = c.args.actor in
    let v : ℕ = c.args.vertex in
    let v_in : v < length b.seats.items = omega (arith, c.requires.vertex, c.requires.board.seats) in
    let actor_is = c.index.ensures ∙ read_any b.actors.items a c.index.result.now idle c.requires.actor in
    let seat_is = c.index-2.ensures ∙ read_any b.seats.items v c.index-2.result.now (no_seat d) v_in in
    let message_is = c.index-3.ensures ∙ read_any b.seats.items v c.index-3.result.now (no_seat d) v_in in
    let idle_actor : (actor_at b.actors.items a).vertex ≡ None = ap (λ (z : Actor). z.vertex) (sym actor_is) ∙ none_of _ _ c.is_some.ensures c.if-is_some.false in
    let free_seat : (seat_at d b.seats.items v).holder ≡ None = ap (λ (z : Seat _). z.holder) (sym seat_is) ∙ none_of _ _ c.is_some-2.ensures c.if-is_some-2.false in
    let pins = unpinned c.args.graph.now b c.requires.board a idle_actor w in
    let shown = seated_shows d b.seats.items (fork_at w b.forks.items) (replicas_at b.replicas.items) b.actors.items b.turn b.journal.items a v c.index_mut.result.now (Some a) (Some v) c.is_some-evidence.result c.at.result
    c.requires.actor v_in (c.index_mut.ensures.value ∙ read_any b.seats.items v c.index_mut.result.now (no_seat d) v_in) c.at.ensures pins in
    (c.requires.vertex, idle_actor, free_seat, shown ∙ ap (λ k. record (core_of w d b) { words = claimed (core_of w d b).words a v k; notes = set_at (core_of w d b).notes a empty_notes }) (c.is_some-evidence.ensures ∙ ap (λ (z : Seat _). is_some z.message) message_is), refl)

pub returns-clause-tallied : goal.returns-clause-tallied
returns-clause-tallied g c =
    let b = c.args.self.now in
    let a : ℕ = c.args.actor in
    let v : ℕ = c.args.vertex in
    let counted = c.requires.board.tallied in
    let v_in : v < length b.seats.items = omega (arith, c.requires.vertex, c.requires.board.seats) in
    let actor_is = c.index.ensures ∙ read_any b.actors.items a c.index.result.now idle c.requires.actor in
    let idle_actor : (actor_at b.actors.items a).vertex ≡ None = ap (λ (z : Actor). z.vertex) (sym actor_is) ∙ none_of _ _ c.is_some.ensures c.if-is_some.false in
    let now_is = c.index_mut.ensures.value ∙ read_any b.seats.items v c.index_mut.result.now (no_seat (two 0 0)) v_in in
    record {
      pinned = pins_new b.forks.items b.actors.items counted.pinned a c.at.result c.requires.actor (ap (λ (z : Actor). z.pinned) c.at.ensures) (unpinned c.args.graph.now b c.requires.board a idle_actor 0);
      stale = stale_actor b.replicas.items b.actors.items counted.stale a c.at.result c.requires.actor (left_none b.replicas.items c.at.result (Some v) c.is_some-evidence.result c.at.ensures);
      last = last_seat b.seats.items b.journal.items counted.last v _ v_in (ap (λ (z : Seat _). z.last) now_is);
    }
