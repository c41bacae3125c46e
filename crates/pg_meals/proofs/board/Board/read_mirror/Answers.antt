use Rattle.std.proofs.Common.{ℕ, ◌<◌, ◌≡◌, length, slice_index_or, true, false, Some, refl, sym, ap, ◌∙◌, arith}
use Rattle.std.proofs.lemmas.Bool.Decides.{Decides-eqb}
use Rattle.pg_graph.specs.declared.edge.Side.{Side}
use Rattle.pg_graph.specs.Multigraph.{opposite, end_at}
use Rattle.pg_law.specs.declared.values.Datum.{Datum}
use Rattle.pg_meals.specs.declared.fork.Fork.{Fork}
use Rattle.pg_meals.specs.declared.actor.Actor.{Actor}
use Rattle.pg_meals.specs.Acts.{Read, read_core}
use Rattle.pg_meals.specs.Entries.{is_actor, no_fork, idle, seat_at, fork_at, actor_at, replicas_at, replica_in}
use Rattle.pg_meals.specs.Shown.{core_of, shape_on}
use Rattle.pg_meals.proofs.ListReads.{read_any}
use Rattle.pg_meals.proofs.Marking.{named_of}
use Rattle.pg_meals.proofs.Noted.{read_shows}
use Rattle.pg_meals.proofs.board.Board.read_mirror.Goals as goal

pub returns-clause-acts : goal.returns-clause-acts
returns-clause-acts g c = λ w d.
    let b = c.args.self.now in
    let graph = c.args.graph.now in
    let a : ℕ = c.args.actor in
    let e : ℕ = c.args.edge in
    let me : Side = c.in-Some.me in
    let datum : Datum = c.datum_over-datum.result in
    let e_in : e < length b.forks.items = omega (arith, c.requires.edge, c.requires.board.forks) in
    let actor_is = c.index.ensures ∙ read_any b.actors.items a c.index.result.now idle c.requires.actor in
    let fork_is = c.index-2.ensures ∙ read_any b.forks.items e c.index-2.result.now (no_fork w) e_in in
    let now_is = c.index_mut.ensures.value ∙ read_any b.forks.items e c.index_mut.result.now (no_fork w) e_in in
    let mine : c.index-2.result.now.mark.pinner ≡ Some a = named_of c.index-2.result.now.mark.pinner a c.if-ne.ensures in
    let pinned : (fork_at w b.forks.items e).mark.pinner ≡ Some a = ap (λ (z : Fork _). z.mark.pinner) (sym fork_is) ∙ mine in
    let pins : is_actor a (fork_at w b.forks.items e).mark.pinner ≡ true = ap (is_actor a) pinned ∙ (Decides-eqb a a).1 refl in
    let fresh : (actor_at b.actors.items a).committed ≡ false = ap (λ (z : Actor). z.committed) (sym actor_is) ∙ c.if-index.false in
    let datum_is : datum ≡ (replica_in (replicas_at b.replicas.items (end_at graph (opposite me) e)) (slice_index_or b.workers.items e 0)).datum
    = c.datum_over-datum.ensures ∙ ap (λ s. (replica_in (replicas_at b.replicas.items (end_at graph s e)) (slice_index_or b.workers.items e 0)).datum) c.opposite.ensures in
    let old = core_of w d b in
    let between = read_core (shape_on graph b) old a e me 0 in
    let fork : Fork _ = record { mark = c.index-2.result.now.mark; content = c.index_mut.result.now.content; prepared = c.index_mut.result.now.prepared } in
    let shown = read_shows w (seat_at d b.seats.items) b.forks.items (replicas_at b.replicas.items) (actor_at b.actors.items) b.turn b.journal.items a e fork datum _ _
    e_in (λ j. record { mark = (fork_is j).mark; content = (now_is j).content; prepared = (now_is j).prepared }) mine (sym (ap (λ (z : Datum). z.first) datum_is)) (sym (ap (λ (z : Datum). z.second) datum_is)) in (
      between,
      (end_at graph me e, me, omega arith, c.in-Some.ensures.0, refl, pins, fresh, refl, ap (λ (z : Datum). Read z.first) datum_is),
      (end_at graph me e, me, omega arith, c.in-Some.ensures.0, refl, pins, fresh, shown, ap (λ (z : Datum). Read z.second) datum_is),
    )
