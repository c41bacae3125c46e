use Rattle.std.proofs.Common.{ℕ, ◌<◌, ◌≡◌, ◌||◌, length, Some, refl, ap, ◌∙◌, arith}
use Rattle.pg_forks.specs.Bits.{bits_of}
use Rattle.pg_graph.specs.Multigraph.{end_at}
use Rattle.pg_meals.specs.declared.fork.Fork.{Fork}
use Rattle.pg_meals.specs.Words.{marked}
use Rattle.pg_meals.specs.Acts.{Saw, clean_at}
use Rattle.pg_meals.specs.Entries.{no_fork, idle, seat_at, fork_at, actor_at, replicas_at}
use Rattle.pg_meals.specs.Shown.{core_of}
use Rattle.pg_meals.proofs.ListReads.{read_any}
use Rattle.pg_meals.proofs.Marking.{look_shows, or_false}
use Rattle.pg_meals.proofs.board.Board.look.Goals as goal

pub returns-clause-acts : goal.returns-clause-acts
returns-clause-acts g c = λ w d.
    let b = c.args.self.now in
    let a : ℕ = c.args.actor in
    let e : ℕ = c.args.edge in
    let busy : (actor_at b.actors.items a).vertex ≡ Some (end_at c.args.graph.now c.in-Some.me e) = c.in-Some.ensures.0 in
    let e_in : e < length b.forks.items = omega (arith, c.requires.edge, c.requires.board.forks) in
    let actor_is = c.index-record.ensures ∙ read_any b.actors.items a c.index-record.result.now idle c.requires.actor in
    let fork_is = c.index.ensures ∙ read_any b.forks.items e c.index.result.now (no_fork w) e_in in
    let known : c.shows-evidence.result ≡ ((actor_at b.actors.items a).evidence || clean_at (fork_at w b.forks.items e).mark.word c.in-Some.me)
    = c.shows-evidence.ensures ∙ ap (λ k. k || clean_at c.index.result.now.mark.word c.in-Some.me) (or_false c.index-record.result.now.evidence) ∙ (λ j. (actor_is j).evidence || clean_at (fork_is j).mark.word c.in-Some.me) in
    let shown = look_shows w (seat_at d b.seats.items) b.forks.items (replicas_at b.replicas.items) b.actors.items b.turn b.journal.items a c.index-record.result.now c.shows-evidence.result _ c.requires.actor actor_is in (
      end_at c.args.graph.now c.in-Some.me e,
      c.in-Some.me,
      c.requires.edge,
      busy,
      refl,
      shown ∙ ap (λ k. record (core_of w d b) { words = marked (core_of w d b).words a k }) known,
      ap Saw (c.bits.ensures.value ∙ ap (λ (z : Fork _). bits_of z.mark.word) fork_is),
    )
