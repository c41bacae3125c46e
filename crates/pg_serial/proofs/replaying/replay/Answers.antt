use Rattle.std.proofs.Common.{◌≡◌, ◌<◌, true, length, sym, ap, ◌∙◌, arith, rules}
use Rattle.std.proofs.lemmas.Bool.{cond-true}
use Rattle.std.proofs.lemmas.List.{get_or_read}
use Rattle.pg_law.specs.Values.{one}
use Rattle.pg_law.specs.Configuration.{Configuration, datum_in, is_signalled}
use Rattle.pg_law.specs.Round.{execution}
use Rattle.pg_serial.specs.Journals.{entry_at, datum_given, gather_degree}
use Rattle.pg_serial.proofs.Journals.{replay_none, legal_none, state_next, legal_next, gathers_next}
use Rattle.pg_serial.proofs.replaying.replay.Goals as goal

pub loop-at-init : goal.loop-at-init
loop-at-init g c = let p = g.P.VertexProgram.meaning c.args.program.now in
    record { fit = c.requires; state = sym (replay_none p c.args.graph.now c.args.state); legal = legal_none p c.args.graph.now c.args.state; counted = omega arith }

pub loop-at-preserved : goal.loop-at-preserved
loop-at-preserved g c = let p = g.P.VertexProgram.meaning c.args.program.now in
    let graph = c.args.graph.now in
    let before = c.loop-at.state in
    let entry = entry_at c.args.journal.now c.loop-at.at in
    let at : c.loop-at.at < length c.args.journal.now = omega arith in
    let vertex : entry.vertex < length graph.ids = omega (arith, c.if-entry-vertices.false, c.vertices.ensures.value) in
    let signalled : is_signalled before entry.vertex ≡ true = sym c.in_ok-executed.ensures.signalled ∙ c.if-not-executed.false in
    let executed : c.execute_with.new.state ≡ execution p graph before entry.vertex = c.in_ok-executed.ensures.state ∙ cond-true (is_signalled before entry.vertex) _ _ signalled in
    let same : c.index.result.now ≡ entry.datum = search rules in
    let as_many = ap (λ (s : Configuration). length s.values) c.state-in-loop-at-2.view_is ∙ c.in_ok-executed.ensures.fit.values.count in
    let read : c.index.result.now ≡ datum_in c.state-in-loop-at-2.inside.values.items entry.vertex = get_or_read c.state-in-loop-at-2.inside.values.items entry.vertex c.index.result.now (omega (arith, as_many)) c.index.ensures (one 0) in
    let given : datum_given p graph before entry.vertex ≡ entry.datum = ap (λ (s : Configuration). datum_in s.values entry.vertex) (sym executed ∙ sym c.state-in-loop-at-2.view_is) ∙ sym read ∙ same in
    let is_before = c.loop-at.invariant.state in
    record {
      fit = c.in_ok-executed.ensures.fit;
      state = executed ∙ ap (λ s. execution p graph s entry.vertex) is_before ∙ sym (state_next p graph c.args.state c.args.journal.now c.loop-at.at at);
      legal = legal_next p graph c.args.state c.args.journal.now c.loop-at.at at c.loop-at.invariant.legal vertex
          (ap (λ s. is_signalled s entry.vertex) (sym is_before) ∙ signalled)
          (ap (λ s. datum_given p graph s entry.vertex) (sym is_before) ∙ given);
      counted = omega (
        arith,
        c.in_ok-executed.ensures.counted,
        c.loop-at.invariant.counted,
        gathers_next p graph c.args.journal.now c.loop-at.at at,
        cond-true (is_signalled before entry.vertex) (gather_degree p graph entry.vertex) 0 signalled,
      );
    }

pub returns-then-ne-clause-counted : goal.returns-then-ne-clause-counted
returns-then-ne-clause-counted g c = let p = g.P.VertexProgram.meaning c.args.program.now in
    let entry = entry_at c.args.journal.now c.loop-at.at in
    let signalled : is_signalled c.loop-at.state entry.vertex ≡ true = sym c.in_ok-executed.ensures.signalled ∙ c.if-not-executed.false in
    omega (
      arith,
      c.in_ok-executed.ensures.counted,
      c.loop-at.invariant.counted,
      gathers_next p c.args.graph.now c.args.journal.now c.loop-at.at (omega arith),
      cond-true (is_signalled c.loop-at.state entry.vertex) (gather_degree p c.args.graph.now entry.vertex) 0 signalled,
    )
