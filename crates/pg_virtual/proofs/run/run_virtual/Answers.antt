use Rattle.std.proofs.Common.{◌≡◌, ℕ, ◌+◌, ◌-◌, cond, false, List, [], length, get_or, refl, inr, sym, ◌∙◌, ap, subst, arith}
use Rattle.std.specs.Prelude.{sum_by, filter}
use Rattle.pg_graph.specs.declared.edge.Dir.{Dir}
use Rattle.pg_graph.specs.Multigraph.{vertices}
use Rattle.pg_law.specs.declared.values.JournalEntry.{JournalEntry}
use Rattle.pg_law.specs.Round.{edges_over}
use Rattle.pg_law.specs.Journal.{replay}
use Rattle.pg_serial.proofs.Waiting.{on_err}
use Rattle.pg_virtual.proofs.Legal.{entries_within, legal_as}
use Rattle.pg_virtual.proofs.Made.{first_cells}
use Rattle.pg_virtual.proofs.Course.{SoFar, begun, part_none, part_now, part_more, part_last, went_on, all_few, goes_where, ends_where, some_as, less_left, ran}
use Rattle.pg_virtual.proofs.run.run_virtual.Goals as goal

-- nothing was written so far
pub returns-in_err-play-clause-part : goal.returns-in_err-play-clause-part
returns-in_err-play-clause-part g c = on_err _ _ (part_none _ _ _ _ _ _)

pub returns-in_err-tally-clause-part : goal.returns-in_err-tally-clause-part
returns-in_err-tally-clause-part g c = on_err _ _ (part_none _ _ _ _ _ _)

pub returns-in_err-waiting-clause-part : goal.returns-in_err-waiting-clause-part
returns-in_err-waiting-clause-part g c = on_err _ _ (part_none _ _ _ _ _ _)

pub loop-going-init : goal.loop-going-init
loop-going-init g c = let p = g.P.VertexProgram.meaning c.args.program.now in
    let written = g.K.Sink.written c.args.journal.now in
    let text = g.T.EntryText.text c.args.text.now c.args.graph.now in
    let Counted : ℕ → Type 0 = λ all. SoFar p c.args.graph.now text c.args.fuel c.args.state c.args.state c.args.fuel all c.in_ok-tally.tally.seen.items written written [] in
    let Begins : List ℕ → Type 0 = λ waiting. SoFar p c.args.graph.now text c.args.fuel
    c.args.state c.args.state c.args.fuel c.in_ok-tally.tally.all c.in_ok-tally.tally.seen.items written written waiting in
    record {
      so_far = subst Begins (sym c.in_ok-waiting.ensures.items) (subst Counted (sym c.in_ok-tally.ensures.all) (begun p c.args.graph.now text c.args.fuel c.args.state written c.in_ok-tally.tally.seen.items c.in_ok-tally.ensures.seen));
      fit = c.requires.fit;
      caches = λ cut. first_cells p c.args.graph.now c.args.state cut c.args.cache c.first_cells-caches.result c.requires.cache c.first_cells-caches.ensures;
      len = c.in_ok-tally.ensures.len;
      counted = omega arith;
      later = omega arith;
      goes = goes_where c.goes_on-going.result 1 c.args.fuel c.goes_on-going.ensures;
      over = ends_where c.goes_on-going.result _ 1 c.args.fuel c.goes_on-going.ensures (inr (omega arith));
    }

pub returns-in_err-closed-clause-part : goal.returns-in_err-closed-clause-part
returns-in_err-closed-clause-part g c = on_err _ _ (part_now _ _ _ _ _ _ _ _ _ _ _ _ c.loop-going.invariant.so_far)

pub put_entries-requires : goal.put_entries-requires
put_entries-requires g c = entries_within (g.P.VertexProgram.meaning c.args.program.now) c.args.graph.now c.loop-going.state c.as_slice-entries.result.now
    (legal_as (g.P.VertexProgram.meaning c.args.program.now) c.args.graph.now c.loop-going.state _ _ c.as_slice-entries.ensures.value c.in_ok-closed.ensures.made.legal)

pub turn-requires-clause-caches : goal.turn-requires-clause-caches
turn-requires-clause-caches g c κs within = c.loop-going.invariant.caches c.args.cut.now

pub count-requires-clause-within : goal.count-requires-clause-within
count-requires-clause-within g c = entries_within (g.P.VertexProgram.meaning c.args.program.now) c.args.graph.now c.loop-going.state c.as_slice-entries.result.now
    (legal_as (g.P.VertexProgram.meaning c.args.program.now) c.args.graph.now c.loop-going.state _ _ c.as_slice-entries.ensures.value c.in_ok-closed.ensures.made.legal)

-- what is gathered fits: no more executions than the fuel, each over no more edges than a graph has
pub count-requires-clause-few : goal.count-requires-clause-few
count-requires-clause-few g c = omega (
  arith,
  all_few _ _ _ _ _ _ _ _ _ _ _ _ c.loop-going.invariant.so_far c.vertices.ensures.graph,
  ap length c.as_slice-entries.ensures.value,
  c.in_ok-closed.ensures.made.within,
  c.stretch_of-most.ensures.within,
)

pub returns-in_err-put_entries-clause-part : goal.returns-in_err-put_entries-clause-part
returns-in_err-put_entries-clause-part g c = let p = g.P.VertexProgram.meaning c.args.program.now in
    on_err _ _ (part_more p c.args.graph.now (g.T.EntryText.text c.args.text.now c.args.graph.now) c.args.fuel c.args.state (g.K.Sink.written c.args.journal.now) _ _ _ _ _ _ c.loop-going.invariant.so_far
    c.as_slice-entries.result.now (legal_as p c.args.graph.now c.loop-going.state _ _ c.as_slice-entries.ensures.value c.in_ok-closed.ensures.made.legal) (c.loop-going.left - length c.as_slice-entries.result.now)
    (omega (arith, ap length c.as_slice-entries.ensures.value, c.in_ok-closed.ensures.made.within, c.stretch_of-most.ensures.within)) _ c.in_err-put_entries.ensures.front)

pub loop-going-preserved : goal.loop-going-preserved
loop-going-preserved g c = let p = g.P.VertexProgram.meaning c.args.program.now in
    let graph = c.args.graph.now in
    let entries = c.as_slice-entries.result.now in
    let made = c.in_ok-closed.ensures.made in
    let same : entries ≡ c.in_ok-closed.closed.journal.items = c.as_slice-entries.ensures.value in
    record {
      so_far = went_on p graph (g.T.EntryText.text c.args.text.now graph) c.args.fuel c.args.state (g.K.Sink.written c.args.journal.now) _ _ _ _ _ _ c.loop-going.invariant.so_far
          entries (legal_as p graph c.loop-going.state _ _ same made.legal) (c.loop-going.left - length entries)
          (omega (arith, ap length same, made.within, c.stretch_of-most.ensures.within)) c.in_ok-closed.closed.state _ _ _ _
          (made.state ∙ ap (λ xs. replay p graph c.loop-going.state xs) (sym same))
          (c.count.ensures.all ∙ ap (λ (d : Dir). c.loop-going.tally.all + sum_by (λ (entry : JournalEntry). length (edges_over d graph entry.vertex)) entries) c.gather_edges-dir.ensures)
          c.count.ensures.seen c.in_ok-put_entries.ensures.sent;
      fit = c.in_ok-closed.ensures.made.fit;
      caches = c.in_ok-closed.ensures.made.caches;
      len = c.count.ensures.len;
      counted = omega (arith, c.in_ok-closed.ensures.counted, c.loop-going.invariant.counted);
      later = omega (arith, c.in_ok-put_entries.ensures.later, c.loop-going.invariant.later);
      goes = goes_where c.goes_on-going-in-loop-going.result _ _ c.goes_on-going-in-loop-going.ensures;
      over = ends_where c.goes_on-going-in-loop-going.result _ _ _ c.goes_on-going-in-loop-going.ensures (some_as c.in_ok-closed.closed.journal.items entries _ same c.in_ok-closed.ensures.goes);
    }

pub loop-going-smaller : goal.loop-going-smaller
loop-going-smaller g c = less_left c.goes_on-going-in-loop-going.result (length c.as_slice-entries.result.now) c.loop-going.left c.loop-going.going (c.loop-going.left - length c.as_slice-entries.result.now)
    c.goes_on-going-in-loop-going.ensures (omega (arith, ap length c.as_slice-entries.ensures.value, c.in_ok-closed.ensures.made.within, c.stretch_of-most.ensures.within)) c.loop-going-test.true

pub returns-in_err-flush-clause-part : goal.returns-in_err-flush-clause-part
returns-in_err-flush-clause-part g c = on_err _ _ (part_last _ _ _ _ _ _ _ _ _ _ _ _ c.loop-going.invariant.so_far _ c.in_err-flush.ensures.front)

pub returns-clause-ran : goal.returns-clause-ran
returns-clause-ran g c = let p = g.P.VertexProgram.meaning c.args.program.now in
    let graph = c.args.graph.now in
    ran p graph (g.T.EntryText.text c.args.text.now graph) c.args.fuel c.args.state (g.K.Sink.written c.args.journal.now) _ _ _ _ _ _ c.loop-going.invariant.so_far
    (c.loop-going.invariant.over c.loop-going-test.false) _ _ c.in_ok-flush.ensures.sent c.in_ok-flush.ensures.none c.args.cache _ refl
    (omega (arith, c.loop-going.invariant.so_far.count))
    (c.gathers.ensures ∙ ap (λ (d : Dir). cond c.args.cache (sum_by (λ v. length (edges_over d graph v)) (filter (λ v. get_or c.loop-going.tally.seen.items v false) (vertices graph))) c.loop-going.tally.all) c.gather_edges-dir.ensures)
    c.ending-end.ensures
