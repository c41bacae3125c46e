use Rattle.std.proofs.Common.{ℕ, ◌+◌, ◌<◌, ◌≡◌, ◌||◌, length, false, Some, None, refl, sym, ap, ◌∙◌, arith, true≢false}
use Rattle.std.specs.Prelude.{is_some}
use Rattle.pg_graph.specs.Multigraph.{end_at}
use Rattle.pg_meals.specs.declared.actor.Actor.{Actor}
use Rattle.pg_meals.specs.declared.fork.Fork.{Fork}
use Rattle.pg_meals.specs.declared.actor.Ready.{Ready}
use Rattle.pg_meals.specs.Words.{pinned}
use Rattle.pg_meals.specs.Acts.{clean_at, got_of}
use Rattle.pg_meals.specs.Entries.{is_actor, no_fork, idle, seat_at, fork_at, actor_at, replicas_at, at_side, got_in}
use Rattle.pg_meals.specs.Shown.{carried, core_of}
use Rattle.pg_meals.proofs.ListReads.{read_any}
use Rattle.pg_meals.proofs.Marking.{pin_shows, free_of}
use Rattle.pg_meals.proofs.Riding.{lone_carries}
use Rattle.pg_meals.proofs.Tallied.{pins_more, stale_actor, left_of}
use Rattle.pg_meals.proofs.board.Board.pin.Goals as goal

pub returns-clause-acts : goal.returns-clause-acts
returns-clause-acts g c = λ w d.
    let b = c.args.self.now in
    let a : ℕ = c.args.actor in
    let e : ℕ = c.args.edge in
    let busy : (actor_at b.actors.items a).vertex ≡ Some (end_at c.args.graph.now c.in-Some.me e) = c.in-Some.ensures.0 in
    let e_in : e < length b.forks.items = omega (arith, c.requires.edge, c.requires.board.forks) in
    let actor_is = c.index-record.ensures ∙ read_any b.actors.items a c.index-record.result.now idle c.requires.actor in
    let fork_is = c.index.ensures ∙ read_any b.forks.items e c.index.result.now (no_fork w) e_in in
    let gets : got_of (fork_at w b.forks.items e).mark.word c.in-Some.me ≡ Some (got_in c.in-Some-get.got) = ap (λ (z : Fork _). got_of z.mark.word c.in-Some.me) (sym fork_is) ∙ c.in-Some-get.ensures in
    let lone : (fork_at w b.forks.items e).mark.pinner ≡ None = c.requires.board.free w e (free_of (fork_at w b.forks.items e).mark.word c.in-Some.me (got_in c.in-Some-get.got) gets) in
    let now_is = c.index_mut.ensures.value ∙ read_any b.forks.items e c.index_mut.result.now (no_fork w) e_in in
    let found_is = c.index-2.ensures ∙ read_any b.forks.items e c.index-2.result.now (no_fork w) e_in in
    let carries = lone_carries (actor_at b.actors.items) (fork_at w b.forks.items e) lone in
    let found : c.waits-found.result ≡ is_some (at_side c.in-Some.me (carried (actor_at b.actors.items) (fork_at w b.forks.items e))).message
    = c.waits-found.ensures ∙ (ap (λ (z : Fork _). is_some (at_side c.in-Some.me z.content).message) found_is ∙ ap (λ x. is_some (at_side c.in-Some.me x).message) (sym carries)) in
    let known : c.shows-evidence.result ≡ ((actor_at b.actors.items a).evidence || is_some (at_side c.in-Some.me (carried (actor_at b.actors.items) (fork_at w b.forks.items e))).message || clean_at (fork_at w b.forks.items e).mark.word c.in-Some.me)
    = c.shows-evidence.ensures ∙ (λ j. (actor_is j).evidence || found j || clean_at (fork_is j).mark.word c.in-Some.me) in
    let fresh : (actor_at b.actors.items a).committed ≡ false = ap (λ (z : Actor). z.committed) (sym actor_is) ∙ c.if-record.false in
    let unready : (x : Ready) → (actor_at b.actors.items a).ready ≡ Some x → ⊥ = λ x q. true≢false (sym (c.requires.board.ready w a (end_at c.args.graph.now c.in-Some.me e) e c.in-Some.me x q fresh busy c.requires.edge refl) ∙ ap (is_actor a) lone) in
    let shown = pin_shows w (seat_at d b.seats.items) b.forks.items (replicas_at b.replicas.items) b.actors.items b.turn b.journal.items a e c.index-record.result.now c.index_mut.result.now c.in-Some-get.got.word c.in-Some-get.got.taken c.shows-evidence.result _
    c.requires.actor e_in actor_is now_is (ap (λ (z : Fork _). z.mark.pinner) now_is ∙ lone) fresh unready in (
      end_at c.args.graph.now c.in-Some.me e,
      c.in-Some.me,
      got_in c.in-Some-get.got,
      c.requires.edge,
      busy,
      refl,
      ap (is_actor a) lone,
      ap (λ (z : Actor). z.committed) (sym actor_is) ∙ c.if-record.false,
      gets,
      shown ∙ ap (λ k. record (core_of w d b) { words = pinned (core_of w d b).words a e c.in-Some-get.got.word c.in-Some-get.got.taken k }) known,
      refl,
    )

pub returns-clause-tallied : goal.returns-clause-tallied
returns-clause-tallied g c =
    let b = c.args.self.now in
    let a : ℕ = c.args.actor in
    let e : ℕ = c.args.edge in
    let counted = c.requires.board.tallied in
    let e_in : e < length b.forks.items = omega (arith, c.requires.edge, c.requires.board.forks) in
    let actor_is = c.index-record.ensures ∙ read_any b.actors.items a c.index-record.result.now idle c.requires.actor in
    let fork_is = c.index.ensures ∙ read_any b.forks.items e c.index.result.now (no_fork 0) e_in in
    let gets : got_of (fork_at 0 b.forks.items e).mark.word c.in-Some.me ≡ Some (got_in c.in-Some-get.got) = ap (λ (z : Fork _). got_of z.mark.word c.in-Some.me) (sym fork_is) ∙ c.in-Some-get.ensures in
    let lone : (fork_at 0 b.forks.items e).mark.pinner ≡ None = c.requires.board.free 0 e (free_of (fork_at 0 b.forks.items e).mark.word c.in-Some.me (got_in c.in-Some-get.got) gets) in
    record {
      pinned = pins_more b.forks.items b.actors.items counted.pinned a e _ _ c.requires.actor e_in lone refl (ap (λ (z : Actor). z.pinned + 1) actor_is);
      stale = stale_actor b.replicas.items b.actors.items counted.stale a _ c.requires.actor (left_of b.replicas.items b.actors.items a c.index-record.result.now counted.stale actor_is);
      last = counted.last;
    }
