use Rattle.std.proofs.Common.{◌≡◌, ◌+◌, ◌==◌, ℕ, length, sym, subst, ◌∙◌, ap, arith}
use Rattle.std.specs.Prelude.{sum_by}
use Rattle.std.proofs.lemmas.Bool.{eqb-true, eqb-false}
use Rattle.pg_law.proofs.Bounds.{executions_within, gathers_within}
use Rattle.pg_sync.specs.Kept.{unkept, gather_degree}
use Rattle.pg_sync.specs.Cells.{keeps}
use Rattle.pg_sync.specs.Going.{IsGoing, IsDone}
use Rattle.pg_sync.specs.Counting.{counters_of}
use Rattle.pg_sync.proofs.Costs.{wanted_within}
use Rattle.pg_sync.proofs.Holding.{waits_in}
use Rattle.pg_sync.proofs.Runs.{going_first, going_quiet, going_all, going_more, counted_quiet, counted_all, waits_count, empty_is}
use Rattle.pg_sync.proofs.run.run_parts.Goals as goal

pub returns-then-is_empty-clause-done : goal.returns-then-is_empty-clause-done
returns-then-is_empty-clause-done g c = λ s held.
    let going = c.loop-round.invariant.going s held in
    let count = waits_count c.args.graph.now c.loop-round.masters.messages.items going.state c.in_ok-wanted.wanted.items going.kept.held.messages (c.in_ok-wanted.ensures ∙ ap (waits_in c.args.graph.now) c.as_slice.ensures.value) in
    going_quiet (g.P.VertexProgram.meaning c.args.program.now) c.args.graph.now c.args.cut.now c.args.cache s c.args.limit c.loop-round.round c.loop-round.executions c.loop-round.gathers c.loop-round.workers c.loop-round.mirrors c.loop-round.masters.values.items c.loop-round.masters.messages.items c.loop-round.kept (counters_of c.args.seats.now) (counters_of c.loop-round.seats) going
    (omega (arith, count, c.in_ok-wanted.wanted.ok, eqb-true _ 0 (sym c.is_empty.ensures ∙ c.if-is_empty.true)))

pub returns-then-is_empty-clause-counted : goal.returns-then-is_empty-clause-counted
returns-then-is_empty-clause-counted g c = λ s held.
    let going = c.loop-round.invariant.going s held in
    let count = waits_count c.args.graph.now c.loop-round.masters.messages.items going.state c.in_ok-wanted.wanted.items going.kept.held.messages (c.in_ok-wanted.ensures ∙ ap (waits_in c.args.graph.now) c.as_slice.ensures.value) in
    counted_quiet (g.P.VertexProgram.meaning c.args.program.now) c.args.graph.now c.args.cut.now c.args.cache s c.args.limit c.loop-round.round c.loop-round.executions c.loop-round.gathers c.loop-round.workers c.loop-round.mirrors c.loop-round.masters.values.items c.loop-round.masters.messages.items c.loop-round.kept (counters_of c.args.seats.now) (counters_of c.loop-round.seats) going
    (omega (arith, count, c.in_ok-wanted.wanted.ok, eqb-true _ 0 (sym c.is_empty.ensures ∙ c.if-is_empty.true)))

pub loop-round-preserved : goal.loop-round-preserved
loop-round-preserved g c =
    let waits = c.in_ok-wanted.ensures ∙ ap (waits_in c.args.graph.now) c.as_slice.ensures.value in
    let listed = c.as_slice-listed.ensures.value in
    let some = eqb-false _ 0 (sym c.is_empty.ensures ∙ c.if-is_empty.false) in
    let any = c.loop-round.invariant.going c.requires.held.state c.requires.held.held in
    record {
      going = λ s held.
          let going = c.loop-round.invariant.going s held in
          let count = waits_count c.args.graph.now c.loop-round.masters.messages.items going.state c.in_ok-wanted.wanted.items going.kept.held.messages waits in
          let At : ℕ → ℕ → Type 0 = λ n m. IsGoing (g.P.VertexProgram.meaning c.args.program.now) c.args.graph.now c.args.cut.now c.args.cache s c.args.limit (c.loop-round.round + 1) (c.loop-round.executions + n) (c.loop-round.gathers + m) c.one_round.new.workers c.one_round.new.mirrors c.one_round.new.masters.values.items c.one_round.new.masters.messages.items c.one_round.new.cells (counters_of c.args.seats.now) (counters_of c.one_round.new.seats) in
          subst (At (length c.as_slice-listed.result.now)) (sym (c.in_ok-gathers.ensures.gathers going.state going.kept))
          (subst (λ n. At n (sum_by (gather_degree (g.P.VertexProgram.meaning c.args.program.now) c.args.graph.now) (unkept c.args.graph.now (keeps (g.P.VertexProgram.meaning c.args.program.now) c.loop-round.kept) going.state))) (sym count ∙ sym (ap length listed))
          (going_more (g.P.VertexProgram.meaning c.args.program.now) c.args.graph.now c.args.cut.now c.args.cache s c.args.limit c.loop-round.round c.loop-round.executions c.loop-round.gathers c.loop-round.workers c.loop-round.mirrors c.loop-round.masters.values.items c.loop-round.masters.messages.items c.loop-round.kept (counters_of c.args.seats.now) (counters_of c.loop-round.seats) going c.one_round.new.workers c.one_round.new.mirrors c.one_round.new.masters.values.items c.one_round.new.masters.messages.items c.one_round.new.cells (counters_of c.one_round.new.seats) c.loop-round-test.true
          (omega (arith, count, c.in_ok-wanted.wanted.ok, some)) (c.in_ok-gathers.ensures.kept going.state going.kept) c.one_round.auto.cells (c.in_ok-gathers.ensures.keeps going.state going.kept) (c.in_ok-gathers.ensures.counted going.state going.kept)));
      carries = c.in_ok-gathers.ensures.carries;
      seats = omega (arith, c.one_round.auto.seats, c.loop-round.invariant.seats);
      present = c.in_ok-gathers.ensures.present;
      few = omega (
        arith,
        ap length listed,
        waits_count c.args.graph.now c.loop-round.masters.messages.items any.state c.in_ok-wanted.wanted.items any.kept.held.messages waits,
        executions_within (g.P.VertexProgram.meaning c.args.program.now) c.args.graph.now c.vertices.ensures.graph any.state,
        c.loop-round.invariant.few,
      );
      few_gathers = omega (
        arith,
        c.in_ok-gathers.ensures.gathers any.state any.kept,
        wanted_within (g.P.VertexProgram.meaning c.args.program.now) c.args.graph.now (keeps (g.P.VertexProgram.meaning c.args.program.now) c.loop-round.kept) any.state,
        gathers_within (g.P.VertexProgram.meaning c.args.program.now) c.args.graph.now c.vertices.ensures.graph any.state,
        c.loop-round.invariant.few_gathers,
      );
    }

pub returns-clause-done : goal.returns-clause-done
returns-clause-done g c = λ s held.
    let going = c.loop-round.invariant.going s held in
    let count = waits_count c.args.graph.now c.loop-round.masters.messages.items going.state c.in_ok-wanted-2.wanted.items going.kept.held.messages (c.in_ok-wanted-2.ensures ∙ ap (waits_in c.args.graph.now) c.as_slice-2.ensures.value) in
    let all : c.loop-round.round ≡ c.args.limit = omega (arith, c.loop-round-test.false, c.loop-round.auto.round-end) in
    let Done : ℕ → Type 0 = λ n. IsDone (g.P.VertexProgram.meaning c.args.program.now) c.args.graph.now c.args.cut.now c.args.cache s c.args.limit n c.loop-round.executions c.loop-round.gathers c.loop-round.workers c.loop-round.mirrors c.loop-round.masters.values.items c.loop-round.masters.messages.items c.end_by-end.result in
    subst Done all (going_all (g.P.VertexProgram.meaning c.args.program.now) c.args.graph.now c.args.cut.now c.args.cache s c.args.limit c.loop-round.round c.loop-round.executions c.loop-round.gathers c.loop-round.workers c.loop-round.mirrors c.loop-round.masters.values.items c.loop-round.masters.messages.items c.loop-round.kept (counters_of c.args.seats.now) (counters_of c.loop-round.seats) going
    c.is_empty-2.result all (empty_is c.in_ok-wanted-2.wanted.items _ c.is_empty-2.result (sym c.in_ok-wanted-2.wanted.ok.0) c.is_empty-2.ensures ∙ ap (λ n. n == 0) count) c.end_by-end.result c.end_by-end.ensures)

pub returns-clause-counted : goal.returns-clause-counted
returns-clause-counted g c = λ s held.
    let going = c.loop-round.invariant.going s held in
    counted_all (g.P.VertexProgram.meaning c.args.program.now) c.args.graph.now c.args.cut.now c.args.cache s c.args.limit c.loop-round.round c.loop-round.executions c.loop-round.gathers c.loop-round.workers c.loop-round.mirrors c.loop-round.masters.values.items c.loop-round.masters.messages.items c.loop-round.kept (counters_of c.args.seats.now) (counters_of c.loop-round.seats) going
    (omega (arith, c.loop-round-test.false, c.loop-round.auto.round-end))

pub loop-round-init : goal.loop-round-init
loop-round-init g c = record {
  going = λ s held. going_first (g.P.VertexProgram.meaning c.args.program.now) c.args.graph.now c.args.cut.now c.args.cache s c.args.limit c.args.workers.now c.args.mirrors.now c.args.masters.now.values.items c.args.masters.now.messages.items c.as_mut_slice-kept.result.now (counters_of c.args.seats.now) held
      (ap length c.as_mut_slice-kept.ensures.value ∙ c.in_ok-cells.ensures.count) (rw c.as_mut_slice-kept.ensures.value c.in_ok-cells.ensures.cleared) c.requires.deltas;
  carries = c.requires.carries;
  seats = c.requires.seats;
  present = c.requires.steps;
  few = omega arith;
  few_gathers = omega arith;
}

pub overflow_add-gathers : goal.overflow_add-gathers
overflow_add-gathers g c = let any = c.loop-round.invariant.going c.requires.held.state c.requires.held.held in
    omega (
      arith,
      c.in_ok-gathers.ensures.gathers any.state any.kept,
      wanted_within (g.P.VertexProgram.meaning c.args.program.now) c.args.graph.now (keeps (g.P.VertexProgram.meaning c.args.program.now) c.loop-round.kept) any.state,
      gathers_within (g.P.VertexProgram.meaning c.args.program.now) c.args.graph.now c.vertices.ensures.graph any.state,
      c.loop-round.invariant.few_gathers,
      c.loop-round-test.true,
      c.ranges.limit.fits,
    )

pub one_round-requires-clause-kept : goal.one_round-requires-clause-kept
one_round-requires-clause-kept g c κs within = let any = c.loop-round.invariant.going c.requires.held.state c.requires.held.held in record { state = any.state; kept = any.kept }

pub one_round-requires-clause-listed : goal.one_round-requires-clause-listed
one_round-requires-clause-listed g c κs within = c.as_slice-listed.ensures.value ∙ c.in_ok-wanted.ensures ∙ ap (waits_in c.args.graph.now) c.as_slice.ensures.value

pub signalled_in-requires-2 : goal.signalled_in-requires-2
signalled_in-requires-2 g c = let any = c.loop-round.invariant.going c.requires.held.state c.requires.held.held in
    ap length c.as_slice-2.ensures.value ∙ ap length any.kept.held.messages ∙ any.kept.held.fit.messages.count
