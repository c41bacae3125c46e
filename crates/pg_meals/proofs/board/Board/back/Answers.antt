use Rattle.std.proofs.Common.{ℕ, ◌-◌, ◌<◌, ◌≡◌, ◌&&◌, length, slice_set, true, Some, None, arith, refl, sym, ap, ◌∙◌}
use Rattle.std.proofs.lemmas.Bool.Decides.{Decides-eqb}
use Rattle.pg_graph.specs.declared.edge.Side.{Side}
use Rattle.pg_graph.specs.Multigraph.{end_at}
use Rattle.pg_forks.specs.Transitions.{back_of}
use Rattle.pg_meals.specs.declared.fork.Mark.{Mark}
use Rattle.pg_meals.specs.declared.fork.Fork.{Fork}
use Rattle.pg_meals.specs.declared.actor.Actor.{Actor}
use Rattle.pg_meals.specs.Entries.{is_actor, no_fork, idle, seat_at, fork_at, actor_at, replicas_at}
use Rattle.pg_meals.specs.Shown.{core_from}
use Rattle.pg_meals.proofs.ListReads.{read_any}
use Rattle.pg_meals.proofs.Marking.{named_of}
use Rattle.pg_meals.proofs.Backed.{back_shows}
use Rattle.pg_meals.proofs.Written.{leaves, stays_on}
use Rattle.pg_meals.proofs.Tallied.{pins_less, stale_actor, left_of}
use Rattle.pg_meals.proofs.board.Board.back.Goals as goal

pub returns-then-record-ne0-clause-refused : goal.returns-then-record-ne0-clause-refused
returns-then-record-ne0-clause-refused g c = λ n w d core out step.
    let b = c.args.self.now in
    let a : ℕ = c.args.actor in
    let actor_is = c.index-record.ensures ∙ read_any b.actors.items a c.index-record.result.now idle c.requires.actor in
    stays_on b.actors.items b.replicas.items a step.0 (λ q. c.if-record-ne0.true (ap (λ (z : Actor). z.stale) actor_is ∙ (c.requires.board.tallied.stale a ∙ q))) step.3 (c.requires.board.once step.0) step.7

pub returns-clause-acts : goal.returns-clause-acts
returns-clause-acts g c = λ w d.
    let b = c.args.self.now in
    let a : ℕ = c.args.actor in
    let e : ℕ = c.args.edge in
    let busy : (actor_at b.actors.items a).vertex ≡ Some (end_at c.args.graph.now c.in-Some.me e) = c.in-Some.ensures.0 in
    let me : Side = c.in-Some.me in
    let e_in : e < length b.forks.items = omega (arith, c.requires.edge, c.requires.board.forks) in
    let actor_is = c.index-record.ensures ∙ read_any b.actors.items a c.index-record.result.now idle c.requires.actor in
    let fork_is = c.index.ensures ∙ read_any b.forks.items e c.index.result.now (no_fork w) e_in in
    let mine : c.index.result.now.mark.pinner ≡ Some a = named_of c.index.result.now.mark.pinner a c.if-ne.ensures in
    let pinned : (fork_at w b.forks.items e).mark.pinner ≡ Some a = ap (λ (z : Fork _). z.mark.pinner) (sym fork_is) ∙ mine in
    let pins : is_actor a (fork_at w b.forks.items e).mark.pinner ≡ true = ap (is_actor a) pinned ∙ (Decides-eqb a a).1 refl in
    let now_is = c.index_mut.ensures.value ∙ read_any b.forks.items e c.index_mut.result.now (no_fork w) e_in in
    let word_is : back_of (fork_at w b.forks.items e).mark.word me (record { committed = (actor_at b.actors.items a).committed; taken = is_actor a (fork_at w b.forks.items e).mark.pinner && (fork_at w b.forks.items e).mark.taken; evidence = (actor_at b.actors.items a).evidence }) ≡ Some c.in-Some-back.word
    = sym (λ j. back_of (fork_is j).mark.word me (record { committed = (actor_is j).committed; taken = sym pins j && (fork_is j).mark.taken; evidence = (actor_is j).evidence })) ∙ (sym c.back.ensures ∙ c.in-Some-back.is) in
    let rested = c.rest.new.fork in
    let shown = ap (λ x. core_from (seat_at d b.seats.items) (fork_at w (slice_set b.forks.items e x)) (replicas_at b.replicas.items) (actor_at (slice_set b.actors.items a (record c.index-record.result.now { ready = None; pinned = c.index-record.result.now.pinned - 1 }))) b.turn b.journal.items)
    (λ j. record { mark = c.rest.ensures.mark j; content = rested.content; prepared = rested.prepared })
    ∙ back_shows w (seat_at d b.seats.items) b.forks.items (replicas_at b.replicas.items) b.actors.items b.turn b.journal.items a e c.index-record.result.now c.index_mut.result.now c.in-Some-back.word rested.content rested.prepared (c.index-record.result.now.pinned - 1)
    c.requires.actor e_in actor_is now_is (ap (λ (z : Fork _). z.mark.pinner) now_is ∙ pinned) c.rest.ensures.content in (
      end_at c.args.graph.now me e,
      me,
      c.in-Some-back.word,
      busy,
      refl,
      pins,
      ap (λ (z : Actor). z.turn) (sym actor_is) ∙ c.if-record.false,
      leaves b.actors.items b.replicas.items a (end_at c.args.graph.now me e) (sym (c.requires.board.tallied.stale a) ∙ (ap (λ (z : Actor). z.stale) (sym actor_is) ∙ c.if-record-ne0.false)) busy,
      word_is,
      shown,
      refl,
    )

pub returns-clause-tallied : goal.returns-clause-tallied
returns-clause-tallied g c =
    let b = c.args.self.now in
    let a : ℕ = c.args.actor in
    let e : ℕ = c.args.edge in
    let counted = c.requires.board.tallied in
    let e_in : e < length b.forks.items = omega (arith, c.requires.edge, c.requires.board.forks) in
    let actor_is = c.index-record.ensures ∙ read_any b.actors.items a c.index-record.result.now idle c.requires.actor in
    let fork_is = c.index.ensures ∙ read_any b.forks.items e c.index.result.now (no_fork 0) e_in in
    let mine : (fork_at 0 b.forks.items e).mark.pinner ≡ Some a = ap (λ (z : Fork _). z.mark.pinner) (sym fork_is) ∙ named_of c.index.result.now.mark.pinner a c.if-ne.ensures in
    record {
      pinned = pins_less b.forks.items b.actors.items counted.pinned a e _ _ c.requires.actor e_in mine (ap (λ (z : Mark). z.pinner) c.rest.ensures.mark) (ap (λ (z : Actor). z.pinned - 1) actor_is);
      stale = stale_actor b.replicas.items b.actors.items counted.stale a _ c.requires.actor (left_of b.replicas.items b.actors.items a c.index-record.result.now counted.stale actor_is);
      last = counted.last;
    }
