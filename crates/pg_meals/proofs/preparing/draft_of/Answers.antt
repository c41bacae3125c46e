use Rattle.std.proofs.Common.{ℕ, ◌<◌, inr, length, arith, sym, ap, subst, ◌∙◌}
use Rattle.std.specs.Prelude.{map}
use Rattle.pg_graph.specs.Multigraph.{edges_at}
use Rattle.pg_law.specs.declared.values.Applied.{Applied}
use Rattle.pg_law.specs.Laws.{IsApplied, IsNear}
use Rattle.pg_meals.specs.declared.seat.Seat.{Seat}
use Rattle.pg_meals.specs.Listed.{any_datum}
use Rattle.pg_meals.specs.Entries.{no_seat, fork_at}
use Rattle.pg_meals.specs.Shown.{content_of}
use Rattle.pg_meals.specs.StandsFor.{IsContent}
use Rattle.pg_meals.specs.Plans.{near_over, planned_over, cell_keeping}
use Rattle.pg_meals.proofs.ListReads.{read_any}
use Rattle.pg_meals.proofs.Due.{may_carry, near_own, content_own, state_message_own}
use Rattle.pg_meals.proofs.preparing.draft_of.Goals as goal

pub apply-applied-requires-clause-message : goal.apply-applied-requires-clause-message
apply-applied-requires-clause-message g c =
    let k = c.requires.kept in
    state_message_own (g.P.VertexProgram.meaning c.args.program.now) c.laws_of.ensures c.args.graph.now k.0 c.args.board.now k.1 c.args.due.vertex c.args.due.message c.requires.due.message

pub plan-requires-clause-vertex : goal.plan-requires-clause-vertex
plan-requires-clause-vertex g c κs within =
    c.requires.kept.1.stands.kept.clean.inside c.args.actor c.args.due.vertex c.requires.due.busy

pub plan-requires-clause-carry : goal.plan-requires-clause-carry
plan-requires-clause-carry g c κs within =
    let p = g.P.VertexProgram.meaning c.args.program.now in
    let k = c.requires.kept.1 in
    let b = c.args.board.now in
    let v : ℕ = c.args.due.vertex in
    let v_in : v < length b.seats.items = omega (arith, k.stands.kept.clean.inside c.args.actor v c.requires.due.busy, k.laid.seats) in
    let seat = c.index.ensures ∙ read_any b.seats.items v c.index.result.now (no_seat (any_datum p)) v_in in
    let message = state_message_own p c.laws_of.ensures c.args.graph.now c.requires.kept.0 b k v c.args.due.message c.requires.due.message in
    let own = c.laws_of.ensures.closed.apply c.info-info.result c.index.result.now.datum c.in_ok-acc.acc c.args.due.message c.info-info.ensures.known
    (subst (λ (x : Seat _). p.IsDatum x.datum) (sym seat) (k.stands.kept.true_of.datum_fits v)) c.in_ok-acc.ensures.own message in
    (subst (IsApplied p) (sym c.apply-applied.ensures) own).carry

pub plan-requires-clause-near : goal.plan-requires-clause-near
plan-requires-clause-near g c κs within = λ e i at t.
    let p = g.P.VertexProgram.meaning c.args.program.now in
    let k = c.requires.kept.1 in
    let b = c.args.board.now in
    let v : ℕ = c.args.due.vertex in
    let v_in : v < length b.seats.items = omega (arith, k.stands.kept.clean.inside c.args.actor v c.requires.due.busy, k.laid.seats) in
    let seat = c.index.ensures ∙ read_any b.seats.items v c.index.result.now (no_seat (any_datum p)) v_in in
    let message = state_message_own p c.laws_of.ensures c.args.graph.now c.requires.kept.0 b k v c.args.due.message c.requires.due.message in
    let own = c.laws_of.ensures.closed.apply c.info-info.result c.index.result.now.datum c.in_ok-acc.acc c.args.due.message c.info-info.ensures.known
    (subst (λ (x : Seat _). p.IsDatum x.datum) (sym seat) (k.stands.kept.true_of.datum_fits v)) c.in_ok-acc.ensures.own message in
    let datum = (subst (IsApplied p) (sym c.apply-applied.ensures) own).datum in
    subst (λ f. IsNear p (near_over c.args.graph.now f c.apply-applied.result.datum v e)) (sym c.as_slice-forks.ensures.value)
    (near_own p c.laws_of.ensures c.args.graph.now c.requires.kept.0 b k c.args.actor v c.args.due.message c.requires.due c.apply-applied.result.datum datum e i at (inr t))

pub plan-requires-clause-contents : goal.plan-requires-clause-contents
plan-requires-clause-contents g c κs within = λ e i at.
    let p = g.P.VertexProgram.meaning c.args.program.now in
    subst (λ f. IsContent p (content_of (fork_at 0 f e).content)) (sym c.as_slice-forks.ensures.value)
    (content_own p c.laws_of.ensures c.args.graph.now c.requires.kept.0 c.args.board.now c.requires.kept.1 c.args.due.vertex
    (may_carry p c.laws_of.ensures c.args.graph.now c.requires.kept.0 c.args.board.now c.requires.kept.1 c.args.actor c.args.due.vertex c.args.due.message c.requires.due) e i at)

pub returns-clause-draft : goal.returns-clause-draft
returns-clause-draft g c =
    let p = g.P.VertexProgram.meaning c.args.program.now in
    let k = c.requires.kept.1 in
    let b = c.args.board.now in
    let v : ℕ = c.args.due.vertex in
    let v_in : v < length b.seats.items = omega (arith, k.stands.kept.clean.inside c.args.actor v c.requires.due.busy, k.laid.seats) in
    let seat = c.index.ensures ∙ read_any b.seats.items v c.index.result.now (no_seat (any_datum p)) v_in in
    let is = c.apply-applied.ensures ∙ (λ j. p.apply (c.info-info.ensures.value j) (seat j).datum (c.in_ok-acc.ensures.value j) c.args.due.message) in
    record {
      datum = ap (λ (x : Applied _). x.datum) is;
      again = ap (λ (x : Applied _). x.again) is;
      cell = c.keep_gather-cell.ensures ∙ ap (cell_keeping b.caches) c.in_ok-acc.ensures.value;
      plans = c.in_ok-plans.ensures ∙ (λ j. map (planned_over p c.args.graph.now (c.as_slice-forks.ensures.value j) v (is j)) (edges_at c.args.graph.now v));
    }
