use Rattle.std.proofs.Common.{ℕ, ◌<◌, ◌≡◌, Some, None, length, arith, sym, ap, subst, ◌∙◌}
use Rattle.pg_graph.specs.Multigraph.{edges_at}
use Rattle.pg_law.specs.Laws.{IsOptional}
use Rattle.pg_meals.specs.declared.seat.Seat.{Seat}
use Rattle.pg_meals.specs.declared.actor.Actor.{Actor}
use Rattle.pg_meals.specs.Listed.{any_datum}
use Rattle.pg_meals.specs.Preparing.{MayPrepare}
use Rattle.pg_meals.specs.Entries.{no_seat, idle, actor_at}
use Rattle.pg_meals.specs.Shown.{shape_on}
use Rattle.pg_meals.specs.Carrying.{core_by}
use Rattle.pg_meals.specs.Plans.{ride_on, message_along}
use Rattle.pg_meals.proofs.At.{some_of}
use Rattle.pg_meals.proofs.ListReads.{read_any}
use Rattle.pg_meals.proofs.Carried.{board_is}
use Rattle.pg_meals.proofs.Due.{carries_own, message_own, message_is}
use Rattle.pg_meals.proofs.Allowed.{sees_pins, misses, may_with}
use Rattle.pg_meals.proofs.preparing.due_of.Goals as goal

pub has_noted-requires-clause-vertex : goal.has_noted-requires-clause-vertex
has_noted-requires-clause-vertex g c =
    let b = c.args.board.now in
    let actor = c.index-record.ensures ∙ read_any b.actors.items c.args.actor c.index-record.result.now idle c.requires.actor in
    let busy : (actor_at b.actors.items c.args.actor).vertex ≡ Some c.in-Some.vertex = ap (λ (z : Actor). z.vertex) (sym actor) ∙ c.in-Some.is in
    c.requires.kept.1.stands.kept.clean.inside c.args.actor c.in-Some.vertex busy

pub has_noted-requires-clause-board : goal.has_noted-requires-clause-board
has_noted-requires-clause-board g c = board_is (g.P.VertexProgram.meaning c.args.program.now) c.args.graph.now c.requires.kept.0 c.args.board.now c.requires.kept.1

pub returns-then-not-has_noted : goal.returns-then-not-has_noted
returns-then-not-has_noted g c = λ v m may.
    let p = g.P.VertexProgram.meaning c.args.program.now in
    let b = c.args.board.now in
    let u : ℕ = c.in-Some.vertex in
    let actor = c.index-record.ensures ∙ read_any b.actors.items c.args.actor c.index-record.result.now idle c.requires.actor in
    let busy : (actor_at b.actors.items c.args.actor).vertex ≡ Some u = ap (λ (z : Actor). z.vertex) (sym actor) ∙ c.in-Some.is in
    let same : v ≡ u = some_of v u (sym may.busy ∙ busy) in
    misses p c.laws_of.ensures c.args.graph.now c.requires.kept.0 b c.requires.kept.1 c.args.actor u
    c.gather_edges-gathers.result c.scatter_edges-scatters.result c.gather_edges-gathers.ensures c.scatter_edges-scatters.ensures m c.if-not-has_noted.ensures
    (subst (λ w. MayPrepare p (shape_on c.args.graph.now b) (core_by p b) c.args.actor w m) same may)

pub index-requires : goal.index-requires
index-requires g c =
    let b = c.args.board.now in
    let actor = c.index-record.ensures ∙ read_any b.actors.items c.args.actor c.index-record.result.now idle c.requires.actor in
    let busy : (actor_at b.actors.items c.args.actor).vertex ≡ Some c.in-Some.vertex = ap (λ (z : Actor). z.vertex) (sym actor) ∙ c.in-Some.is in
    omega (arith, c.requires.kept.1.stands.kept.clean.inside c.args.actor c.in-Some.vertex busy, c.requires.kept.1.laid.seats)

pub overflow_cast-vertex : goal.overflow_cast-vertex
overflow_cast-vertex g c =
    let b = c.args.board.now in
    let actor = c.index-record.ensures ∙ read_any b.actors.items c.args.actor c.index-record.result.now idle c.requires.actor in
    let busy : (actor_at b.actors.items c.args.actor).vertex ≡ Some c.in-Some.vertex = ap (λ (z : Actor). z.vertex) (sym actor) ∙ c.in-Some.is in
    omega (arith, c.requires.kept.1.stands.kept.clean.inside c.args.actor c.in-Some.vertex busy, c.requires.kept.1.laid.few)

pub message_for-requires-clause-vertex : goal.message_for-requires-clause-vertex
message_for-requires-clause-vertex g c κs within =
    let b = c.args.board.now in
    let actor = c.index-record.ensures ∙ read_any b.actors.items c.args.actor c.index-record.result.now idle c.requires.actor in
    let busy : (actor_at b.actors.items c.args.actor).vertex ≡ Some c.in-Some.vertex = ap (λ (z : Actor). z.vertex) (sym actor) ∙ c.in-Some.is in
    c.requires.kept.1.stands.kept.clean.inside c.args.actor c.in-Some.vertex busy

pub message_for-requires-clause-own : goal.message_for-requires-clause-own
message_for-requires-clause-own g c κs within =
    let p = g.P.VertexProgram.meaning c.args.program.now in
    let b = c.args.board.now in
    let v : ℕ = c.in-Some.vertex in
    let actor = c.index-record.ensures ∙ read_any b.actors.items c.args.actor c.index-record.result.now idle c.requires.actor in
    let busy : (actor_at b.actors.items c.args.actor).vertex ≡ Some v = ap (λ (z : Actor). z.vertex) (sym actor) ∙ c.in-Some.is in
    let v_in : v < length b.seats.items = omega (arith, c.requires.kept.1.stands.kept.clean.inside c.args.actor v busy, c.requires.kept.1.laid.seats) in
    let seat = c.index.ensures ∙ read_any b.seats.items v c.index.result.now (no_seat (any_datum p)) v_in in
    subst (λ (x : Seat _). IsOptional p.IsMessage x.message) (sym seat) (c.requires.kept.1.stands.kept.true_of.own_message v)

pub message_for-requires-clause-rides : goal.message_for-requires-clause-rides
message_for-requires-clause-rides g c κs within = λ e i at.
    let p = g.P.VertexProgram.meaning c.args.program.now in
    let b = c.args.board.now in
    let v : ℕ = c.in-Some.vertex in
    let actor = c.index-record.ensures ∙ read_any b.actors.items c.args.actor c.index-record.result.now idle c.requires.actor in
    let fresh = ap (λ (z : Actor). z.committed) (sym actor) ∙ c.if-record.false in
    let own = carries_own p c.laws_of.ensures c.args.graph.now c.requires.kept.0 b c.requires.kept.1 c.args.actor v fresh
    (sees_pins p c.laws_of.ensures c.args.graph.now c.requires.kept.0 b c.requires.kept.1 c.args.actor v c.gather_edges-gathers.result c.scatter_edges-scatters.result c.if-not-has_noted.ensures) in
    subst (λ f. IsOptional p.IsMessage (ride_on c.args.graph.now f v e).message) (sym c.as_slice.ensures.value)
    (message_own p c.laws_of.ensures c.args.graph.now c.requires.kept.0 b c.requires.kept.1 v own e i at)

pub returns-in-Some-message_for : goal.returns-in-Some-message_for
returns-in-Some-message_for g c =
    let p = g.P.VertexProgram.meaning c.args.program.now in
    let b = c.args.board.now in
    let v : ℕ = c.in-Some.vertex in
    let actor = c.index-record.ensures ∙ read_any b.actors.items c.args.actor c.index-record.result.now idle c.requires.actor in
    let busy : (actor_at b.actors.items c.args.actor).vertex ≡ Some v = ap (λ (z : Actor). z.vertex) (sym actor) ∙ c.in-Some.is in
    let fresh = ap (λ (z : Actor). z.committed) (sym actor) ∙ c.if-record.false in
    let own = carries_own p c.laws_of.ensures c.args.graph.now c.requires.kept.0 b c.requires.kept.1 c.args.actor v fresh
    (sees_pins p c.laws_of.ensures c.args.graph.now c.requires.kept.0 b c.requires.kept.1 c.args.actor v c.gather_edges-gathers.result c.scatter_edges-scatters.result c.if-not-has_noted.ensures) in
    let v_in : v < length b.seats.items = omega (arith, c.requires.kept.1.stands.kept.clean.inside c.args.actor v busy, c.requires.kept.1.laid.seats) in
    let seat = c.index.ensures ∙ read_any b.seats.items v c.index.result.now (no_seat (any_datum p)) v_in in
    let found = c.in-Some-message_for.ensures.value ∙ (ap (λ f. message_along p.combine c.args.graph.now f v c.index.result.now.message (edges_at c.args.graph.now v)) c.as_slice.ensures.value
    ∙ message_is p c.laws_of.ensures c.args.graph.now c.requires.kept.0 b c.requires.kept.1 v own c.index.result.now.message (ap (λ (x : Seat _). x.message) seat)) in
    may_with p c.laws_of.ensures c.args.graph.now c.requires.kept.0 b c.requires.kept.1 c.args.actor v
    c.gather_edges-gathers.result c.scatter_edges-scatters.result c.gather_edges-gathers.ensures c.scatter_edges-scatters.ensures c.in-Some-message_for.message busy fresh c.if-not-has_noted.ensures (sym found)

pub returns-in-None : goal.returns-in-None
returns-in-None g c = λ v' m may.
    let p = g.P.VertexProgram.meaning c.args.program.now in
    let b = c.args.board.now in
    let v : ℕ = c.in-Some.vertex in
    let actor = c.index-record.ensures ∙ read_any b.actors.items c.args.actor c.index-record.result.now idle c.requires.actor in
    let busy : (actor_at b.actors.items c.args.actor).vertex ≡ Some v = ap (λ (z : Actor). z.vertex) (sym actor) ∙ c.in-Some.is in
    let fresh = ap (λ (z : Actor). z.committed) (sym actor) ∙ c.if-record.false in
    let own = carries_own p c.laws_of.ensures c.args.graph.now c.requires.kept.0 b c.requires.kept.1 c.args.actor v fresh
    (sees_pins p c.laws_of.ensures c.args.graph.now c.requires.kept.0 b c.requires.kept.1 c.args.actor v c.gather_edges-gathers.result c.scatter_edges-scatters.result c.if-not-has_noted.ensures) in
    let v_in : v < length b.seats.items = omega (arith, c.requires.kept.1.stands.kept.clean.inside c.args.actor v busy, c.requires.kept.1.laid.seats) in
    let seat = c.index.ensures ∙ read_any b.seats.items v c.index.result.now (no_seat (any_datum p)) v_in in
    let found = c.in-None.ensures.value ∙ (ap (λ f. message_along p.combine c.args.graph.now f v c.index.result.now.message (edges_at c.args.graph.now v)) c.as_slice.ensures.value
    ∙ message_is p c.laws_of.ensures c.args.graph.now c.requires.kept.0 b c.requires.kept.1 v own c.index.result.now.message (ap (λ (x : Seat _). x.message) seat)) in
    let same : v' ≡ v = some_of v' v (sym may.busy ∙ busy) in
    let there = (subst (λ w. MayPrepare p (shape_on c.args.graph.now b) (core_by p b) c.args.actor w m) same may).message in
    let clash : None ≡ Some m = found ∙ there in
    cc
