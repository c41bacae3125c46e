use Rattle.std.proofs.Common.{ℕ, ◌≡◌, length, true, Some, refl, sym, ap, ◌∙◌}
use Rattle.pg_meals.specs.declared.actor.Actor.{Actor}
use Rattle.pg_meals.specs.Entries.{idle, seat_at, actor_at, replicas_at}
use Rattle.pg_meals.proofs.At.{some_of}
use Rattle.pg_meals.proofs.ListReads.{read_any}
use Rattle.pg_meals.proofs.Claimed.{none_of}
use Rattle.pg_meals.proofs.Marking.{turn_shows}
use Rattle.pg_meals.proofs.Holding.{pins_all, as_many_pins}
use Rattle.pg_meals.proofs.board.Board.take_turn.Goals as goal

pub edges_of-requires : goal.edges_of-requires
edges_of-requires g c =
    let b = c.args.self.now in
    let actor_is = c.index-record.ensures ∙ read_any b.actors.items c.args.actor c.index-record.result.now idle c.requires.actor in
    c.requires.board.inside c.args.actor c.in-Some.vertex (ap (λ (z : Actor). z.vertex) (sym actor_is) ∙ c.in-Some.is)

pub returns-clause-acts : goal.returns-clause-acts
returns-clause-acts g c = λ w d.
    let b = c.args.self.now in
    let a : ℕ = c.args.actor in
    let v : ℕ = c.in-Some.vertex in
    let actor_is = c.index-record.ensures ∙ read_any b.actors.items a c.index-record.result.now idle c.requires.actor in
    let busy : (actor_at b.actors.items a).vertex ≡ Some v = ap (λ (z : Actor). z.vertex) (sym actor_is) ∙ c.in-Some.is in
    let as_many = sym (c.requires.board.tallied.pinned a) ∙ (ap (λ (z : Actor). z.pinned) (sym actor_is) ∙ (c.if-record-edges_of.false ∙ ap length c.edges_of.ensures.value)) in (
      v,
      busy,
      pins_all c.args.graph.now b c.requires.board a v w busy as_many,
      ap (λ (z : Actor). z.committed) (sym actor_is) ∙ c.if-record.false,
      none_of _ _ c.is_some.ensures c.if-is_some.false,
      turn_shows w (seat_at d b.seats.items) b.forks.items (replicas_at b.replicas.items) b.actors.items b.turn b.journal.items a c.index-record.result.now true (Some a) c.requires.actor actor_is,
      refl,
    )

pub returns-then-record-edges_of-clause-refused : goal.returns-then-record-edges_of-clause-refused
returns-then-record-edges_of-clause-refused g c = λ n w d core out step.
    let b = c.args.self.now in
    let a : ℕ = c.args.actor in
    let v : ℕ = c.in-Some.vertex in
    let actor_is = c.index-record.ensures ∙ read_any b.actors.items a c.index-record.result.now idle c.requires.actor in
    let busy : (actor_at b.actors.items a).vertex ≡ Some v = ap (λ (z : Actor). z.vertex) (sym actor_is) ∙ c.in-Some.is in
    let same : v ≡ step.0 = some_of v step.0 (sym busy ∙ step.1) in
    let as_many = as_many_pins c.args.graph.now b c.requires.board a v w busy (λ s e i at. step.2 s e i (at ∙ same)) in
    c.if-record-edges_of.true (ap (λ (z : Actor). z.pinned) actor_is ∙ (c.requires.board.tallied.pinned a ∙ (as_many ∙ sym (ap length c.edges_of.ensures.value))))
