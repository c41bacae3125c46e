use Rattle.std.proofs.Common.{ℕ, ◌≡◌, true, false, None, refl, sym, ap, ◌∙◌}
use Rattle.pg_meals.specs.declared.actor.Actor.{Actor}
use Rattle.pg_meals.specs.Entries.{idle, seat_at, actor_at, replicas_at}
use Rattle.pg_meals.proofs.ListReads.{read_any}
use Rattle.pg_meals.proofs.Marking.{turn_shows, not_false}
use Rattle.pg_meals.proofs.board.Board.give.Goals as goal

pub returns-clause-acts : goal.returns-clause-acts
returns-clause-acts g c = λ w d.
    let b = c.args.self.now in
    let a : ℕ = c.args.actor in
    let actor_is = c.index-record.ensures ∙ read_any b.actors.items a c.index-record.result.now idle c.requires.actor in
    let holds : (actor_at b.actors.items a).turn ≡ true = ap (λ (z : Actor). z.turn) (sym actor_is) ∙ not_false c.index-record.result.now.turn c.if-not-record.false in
    (holds, turn_shows w (seat_at d b.seats.items) b.forks.items (replicas_at b.replicas.items) b.actors.items b.turn b.journal.items a c.index-record.result.now false None c.requires.actor actor_is, refl)
