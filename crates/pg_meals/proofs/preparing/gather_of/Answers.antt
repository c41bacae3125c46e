use Rattle.std.proofs.Common.{ℕ, ◌+◌, ◌<◌, ◌≡◌, inl, length, arith, sym, ap, subst, ◌∙◌}
use Rattle.std.specs.Prelude.{IfOk, OnOk, Result}
use Rattle.pg_graph.specs.Multigraph.{edges_at}
use Rattle.pg_law.specs.Laws.{IsNear, IsDelta}
use Rattle.pg_law.specs.Round.{edges_over}
use Rattle.pg_delta.specs.Cell.{IsCell}
use Rattle.pg_meals.specs.declared.seat.Seat.{Seat}
use Rattle.pg_meals.specs.Listed.{any_datum}
use Rattle.pg_meals.specs.Entries.{no_seat}
use Rattle.pg_meals.specs.Plans.{near_over, ride_on, added, added_along, gather_along}
use Rattle.pg_meals.proofs.ListReads.{read_any}
use Rattle.pg_meals.proofs.Due.{may_carry, delta_own, kept_is, kept_fresh, gathered_along, near_own, cost_kept, cost_noted}
use Rattle.pg_meals.proofs.preparing.gather_of.Goals as goal

counted_as : {T E : Type 0} (r : Result T E) (x y n m : ℕ) → n ≡ m → OnOk r (x ≡ y + n) → OnOk r (x ≡ y + m)
counted_as r x y n m e k = subst (λ z. OnOk r (x ≡ y + z)) e k

pub kept_gather-requires-clause-vertex : goal.kept_gather-requires-clause-vertex
kept_gather-requires-clause-vertex g c κs within =
    c.requires.kept.1.stands.kept.clean.inside c.args.actor c.args.due.vertex c.requires.due.busy

pub kept_gather-requires-clause-cell : goal.kept_gather-requires-clause-cell
kept_gather-requires-clause-cell g c κs within =
    let p = g.P.VertexProgram.meaning c.args.program.now in
    let k = c.requires.kept.1 in
    let b = c.args.board.now in
    let v : ℕ = c.args.due.vertex in
    let v_in : v < length b.seats.items = omega (arith, k.stands.kept.clean.inside c.args.actor v c.requires.due.busy, k.laid.seats) in
    let seat = c.index-seat.ensures ∙ read_any b.seats.items v c.index-seat.result.now (no_seat (any_datum p)) v_in in
    subst (λ (x : Seat _). IsCell p x.cell) (sym seat) (k.stands.kept.true_of.cell_fits v)

pub kept_gather-requires-clause-rides : goal.kept_gather-requires-clause-rides
kept_gather-requires-clause-rides g c κs within = λ e i at.
    let p = g.P.VertexProgram.meaning c.args.program.now in
    subst (λ f. IsDelta p.IsAcc (ride_on c.args.graph.now f c.args.due.vertex e).delta) (sym c.as_slice-forks.ensures.value)
    (delta_own p c.laws_of.ensures c.args.graph.now c.requires.kept.0 c.args.board.now c.requires.kept.1 c.args.due.vertex
    (may_carry p c.laws_of.ensures c.args.graph.now c.requires.kept.0 c.args.board.now c.requires.kept.1 c.args.actor c.args.due.vertex c.args.due.message c.requires.due) e i at)

pub gather_noted-requires-clause-near : goal.gather_noted-requires-clause-near
gather_noted-requires-clause-near g c κs within = λ e i at t.
    let p = g.P.VertexProgram.meaning c.args.program.now in
    let k = c.requires.kept.1 in
    let b = c.args.board.now in
    let v : ℕ = c.args.due.vertex in
    let v_in : v < length b.seats.items = omega (arith, k.stands.kept.clean.inside c.args.actor v c.requires.due.busy, k.laid.seats) in
    let seat = c.index-seat.ensures ∙ read_any b.seats.items v c.index-seat.result.now (no_seat (any_datum p)) v_in in
    subst (λ f. IsNear p (near_over c.args.graph.now f c.index-seat.result.now.datum v e)) (sym c.as_slice-forks.ensures.value)
    (near_own p c.laws_of.ensures c.args.graph.now c.requires.kept.0 b k c.args.actor v c.args.due.message c.requires.due c.index-seat.result.now.datum
    (subst (λ (x : Seat _). p.IsDatum x.datum) (sym seat) (k.stands.kept.true_of.datum_fits v)) e i at (inl t))

pub returns-in-Some-clause-value : goal.returns-in-Some-clause-value
returns-in-Some-clause-value g c =
    let p = g.P.VertexProgram.meaning c.args.program.now in
    let k = c.requires.kept.1 in
    let b = c.args.board.now in
    let v : ℕ = c.args.due.vertex in
    let cell = c.index-seat.result.now.cell in
    let v_in : v < length b.seats.items = omega (arith, k.stands.kept.clean.inside c.args.actor v c.requires.due.busy, k.laid.seats) in
    let seat = c.index-seat.ensures ∙ read_any b.seats.items v c.index-seat.result.now (no_seat (any_datum p)) v_in in
    let own = may_carry p c.laws_of.ensures c.args.graph.now c.requires.kept.0 b k c.args.actor v c.args.due.message c.requires.due in
    let found = c.in_ok-acc.ensures.value ∙ (ap (λ f. added_along p.sum c.args.graph.now f v (added p.sum cell.acc cell.pending) (edges_at c.args.graph.now v)) c.as_slice-forks.ensures.value
    ∙ kept_is p c.laws_of.ensures c.args.graph.now c.requires.kept.0 b k v own cell (ap (λ (x : Seat _). x.cell) seat)) in
    kept_fresh p c.laws_of.ensures c.args.graph.now c.requires.kept.0 b k c.args.actor v c.args.due.message c.requires.due c.in-Some.acc (sym found ∙ c.in-Some.is)

pub returns-in-Some-clause-counted : goal.returns-in-Some-clause-counted
returns-in-Some-clause-counted g c =
    let p = g.P.VertexProgram.meaning c.args.program.now in
    let k = c.requires.kept.1 in
    let b = c.args.board.now in
    let v : ℕ = c.args.due.vertex in
    let cell = c.index-seat.result.now.cell in
    let v_in : v < length b.seats.items = omega (arith, k.stands.kept.clean.inside c.args.actor v c.requires.due.busy, k.laid.seats) in
    let seat = c.index-seat.ensures ∙ read_any b.seats.items v c.index-seat.result.now (no_seat (any_datum p)) v_in in
    let own = may_carry p c.laws_of.ensures c.args.graph.now c.requires.kept.0 b k c.args.actor v c.args.due.message c.requires.due in
    let found = c.in_ok-acc.ensures.value ∙ (ap (λ f. added_along p.sum c.args.graph.now f v (added p.sum cell.acc cell.pending) (edges_at c.args.graph.now v)) c.as_slice-forks.ensures.value
    ∙ kept_is p c.laws_of.ensures c.args.graph.now c.requires.kept.0 b k v own cell (ap (λ (x : Seat _). x.cell) seat)) in
    let none = cost_kept p c.laws_of.ensures c.args.graph.now c.requires.kept.0 b k v c.in-Some.acc (sym found ∙ c.in-Some.is) in
    omega (arith, none)

pub returns-in-None-clause-value : goal.returns-in-None-clause-value
returns-in-None-clause-value g c =
    let p = g.P.VertexProgram.meaning c.args.program.now in
    let k = c.requires.kept.1 in
    let b = c.args.board.now in
    let v : ℕ = c.args.due.vertex in
    let v_in : v < length b.seats.items = omega (arith, k.stands.kept.clean.inside c.args.actor v c.requires.due.busy, k.laid.seats) in
    let seat = c.index-seat.ensures ∙ read_any b.seats.items v c.index-seat.result.now (no_seat (any_datum p)) v_in in
    let is = ap (λ f. gather_along p c.args.graph.now f c.index-seat.result.now.datum v (edges_over p.gather_edges c.args.graph.now v)) c.as_slice-forks.ensures.value
    ∙ gathered_along p c.laws_of.ensures c.args.graph.now c.requires.kept.0 b k c.args.actor v c.args.due.message c.requires.due c.index-seat.result.now.datum (ap (λ (x : Seat _). x.datum) seat) in
    subst (λ z. IfOk c.gather_noted.result (λ acc. acc ≡ z)) is c.gather_noted.ensures.value

pub returns-in-None-clause-counted : goal.returns-in-None-clause-counted
returns-in-None-clause-counted g c =
    let p = g.P.VertexProgram.meaning c.args.program.now in
    let k = c.requires.kept.1 in
    let b = c.args.board.now in
    let v : ℕ = c.args.due.vertex in
    let cell = c.index-seat.result.now.cell in
    let v_in : v < length b.seats.items = omega (arith, k.stands.kept.clean.inside c.args.actor v c.requires.due.busy, k.laid.seats) in
    let seat = c.index-seat.ensures ∙ read_any b.seats.items v c.index-seat.result.now (no_seat (any_datum p)) v_in in
    let own = may_carry p c.laws_of.ensures c.args.graph.now c.requires.kept.0 b k c.args.actor v c.args.due.message c.requires.due in
    let found = c.in_ok-acc.ensures.value ∙ (ap (λ f. added_along p.sum c.args.graph.now f v (added p.sum cell.acc cell.pending) (edges_at c.args.graph.now v)) c.as_slice-forks.ensures.value
    ∙ kept_is p c.laws_of.ensures c.args.graph.now c.requires.kept.0 b k v own cell (ap (λ (x : Seat _). x.cell) seat)) in
    let all = cost_noted p c.laws_of.ensures c.args.graph.now c.requires.kept.0 b k v (sym found ∙ c.in-None.is) in
    counted_as c.gather_noted.result _ _ _ _ (sym all) c.gather_noted.ensures.counted
