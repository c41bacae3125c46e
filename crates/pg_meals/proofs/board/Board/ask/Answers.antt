use Rattle.std.proofs.Common.{ℕ, ◌<◌, ◌≡◌, length, Some, refl, sym, ap, ◌∙◌, arith}
use Rattle.pg_forks.specs.Transitions.{ask_of}
use Rattle.pg_graph.specs.Multigraph.{end_at}
use Rattle.pg_meals.specs.declared.actor.Actor.{Actor}
use Rattle.pg_meals.specs.declared.fork.Fork.{Fork}
use Rattle.pg_meals.specs.Entries.{no_fork, idle, seat_at, actor_at, replicas_at}
use Rattle.pg_meals.proofs.ListReads.{read_any}
use Rattle.pg_meals.proofs.Marking.{ask_shows, not_false}
use Rattle.pg_meals.proofs.board.Board.ask.Goals as goal

pub returns-clause-acts : goal.returns-clause-acts
returns-clause-acts g c = λ w d.
    let b = c.args.self.now in
    let a : ℕ = c.args.actor in
    let e : ℕ = c.args.edge in
    let busy : (actor_at b.actors.items a).vertex ≡ Some (end_at c.args.graph.now c.in-Some.me e) = c.in-Some.ensures.0 in
    let e_in : e < length b.forks.items = omega (arith, c.requires.edge, c.requires.board.forks) in
    let actor_is = c.index-record.ensures ∙ read_any b.actors.items a c.index-record.result.now idle c.requires.actor in
    let fork_is = c.index.ensures ∙ read_any b.forks.items e c.index.result.now (no_fork w) e_in in
    let shown = ask_shows w (seat_at d b.seats.items) b.forks.items (replicas_at b.replicas.items) b.actors.items b.turn b.journal.items e c.index_mut.result.now c.in-Some-ask.word e_in
    (c.index_mut.ensures.value ∙ read_any b.forks.items e c.index_mut.result.now (no_fork w) e_in) in (
      end_at c.args.graph.now c.in-Some.me e,
      c.in-Some.me,
      c.in-Some-ask.word,
      c.requires.edge,
      busy,
      refl,
      ap (λ (z : Actor). z.committed) (sym actor_is) ∙ c.if-record.false,
      ap (λ (z : Actor). z.evidence) (sym actor_is) ∙ not_false c.index-record.result.now.evidence c.if-not-record.false,
      ap (λ (z : Fork _). ask_of z.mark.word c.in-Some.me) (sym fork_is) ∙ (sym c.ask.ensures ∙ c.in-Some-ask.is),
      shown,
      refl,
    )
