use Rattle.std.proofs.Common.{◌≡◌, ◌<◌, None, true, false, length, refl, sym, ◌∙◌, ap, arith}
use Rattle.std.specs.Prelude.{is_some}
use Rattle.std.proofs.lemmas.Bool.{false≢true}
use Rattle.std.proofs.lemmas.Option.{none-some, same_Some}
use Rattle.std.proofs.lemmas.List.{get_or_read}
use Rattle.pg_law.specs.Configuration.{Configuration, datum_in, message_in, is_signalled}
use Rattle.pg_law.specs.Values.{one}
use Rattle.pg_report.specs.Lines.{line_text}
use Rattle.pg_report.specs.declared.line.ReportLine.{ReportLine}
use Rattle.pg_serial.specs.Serial.{entry_of}
use Rattle.pg_words.specs.Programs.{is_wide}
use Rattle.pg_check.specs.Reports.{has_text, entry_row}
use Rattle.pg_check.proofs.Entries.{is_entry_of, no_vertex, one_vertex, no_entry, wrong_entry, an_entry}
use Rattle.pg_check.proofs.entry.execute_line.Given
use Rattle.pg_check.proofs.entry.execute_line.Goals as goal
use Rattle.pg_check.proofs.entry.execute_line.Goals.{then-is_line, else-is_line}

pub returns-in_default-clause-found : goal.returns-in_default-clause-found
returns-in_default-clause-found g c =
    let p = g.P.VertexProgram.meaning c.args.program.now in
    let s = c.args.state.now in
    let none = no_vertex p c.args.name c.args.graph.now s c.args.line.bytes.now c.args.line.ended c.vertex_named.result c.vertex_named.ensures.only
    (λ v named is. absurd (none-some v (sym c.in_default.is ∙ named))) in
    (no_entry p c.args.name c.args.graph.now s c.args.left (c.args.line.bytes.now, c.args.line.ended) none, refl, refl)

pub returns-in_default-index-clause-found : goal.returns-in_default-index-clause-found
returns-in_default-index-clause-found g c =
    let p = g.P.VertexProgram.meaning c.args.program.now in
    let s = c.args.state.now in
    let u = c.in-Some.u in
    let same = ap (λ (s : Configuration). s.messages) c.state.view_is in
    let inside : u < length c.args.graph.now.ids = c.in-Some.ensures.within in
    let held : u < length c.state.inside.messages.items = omega (arith, ap length same, c.requires.fit.messages.count, inside) in
    let message = get_or_read c.state.inside.messages.items u c.index.result.now held c.index.ensures None ∙ ap (λ xs. message_in xs u) same in
    let silent : is_signalled s u ≡ false = ap is_some (sym message ∙ c.in_default-index.is) in
    let none = no_vertex p c.args.name c.args.graph.now s c.args.line.bytes.now c.args.line.ended c.vertex_named.result c.vertex_named.ensures.only
    (λ v named is. absurd (false≢true (sym silent ∙ (ap (is_signalled s) (same_Some u v (sym c.in-Some.is ∙ named)) ∙ is)))) in
    (no_entry p c.args.name c.args.graph.now s c.args.left (c.args.line.bytes.now, c.args.line.ended) none, refl, refl)

-- the line that is compared is the entry of the execution
row_is : (g : Given.Over) (c : goal.Joined-is_line g) → c.entry_line.result
    ≡ entry_row (is_wide c.args.name) c.args.graph.now (entry_of (g.P.VertexProgram.meaning c.args.program.now) c.args.graph.now c.args.state.now c.in-Some.u)
row_is g c =
    let u = c.in-Some.u in
    let same = ap (λ (s : Configuration). s.values) c.state-2.view_is in
    let inside : u < length c.args.graph.now.ids = c.in-Some.ensures.within in
    let fit = c.execute_signalled.ensures.fit in
    let held : u < length c.state-2.inside.values.items = omega (arith, ap length same, fit.values.count, inside) in
    let datum = get_or_read c.state-2.inside.values.items u c.index-datum.result.now held c.index-datum.ensures (one 0)
    ∙ (ap (λ xs. datum_in xs u) same ∙ ap (λ (s : Configuration). datum_in s.values u) c.in_ok-gathers.ensures.state) in
    c.entry_line.ensures ∙ rw (c.wide.ensures, datum) refl

tested : (g : Given.Over) (c : goal.Joined-is_line g)
    → is_entry_of (g.P.VertexProgram.meaning c.args.program.now) c.args.name c.args.graph.now c.args.state.now c.args.line.bytes.now c.args.line.ended c.in-Some.u ≡ c.is_line.result
tested g c = sym (c.is_line.ensures ∙ ap (λ (line : ReportLine). has_text (line_text line) (c.args.line.bytes.now, c.args.line.ended)) (row_is g c))

signalled_is : (g : Given.Over) (c : goal.Joined-is_line g) → is_signalled c.args.state.now c.in-Some.u ≡ true
signalled_is g c =
    let u = c.in-Some.u in
    let same = ap (λ (s : Configuration). s.messages) c.state.view_is in
    let inside : u < length c.args.graph.now.ids = c.in-Some.ensures.within in
    let held : u < length c.state.inside.messages.items = omega (arith, ap length same, c.requires.fit.messages.count, inside) in
    let message = get_or_read c.state.inside.messages.items u c.index.result.now held c.index.ensures None ∙ ap (λ xs. message_in xs u) same in
    ap is_some (sym message ∙ c.in-Some-index.is)

pub returns-clause-found : goal.returns-clause-found
returns-clause-found g c =
    let p = g.P.VertexProgram.meaning c.args.program.now in
    let s = c.args.state.now in
    let u = c.in-Some.u in
    elim c.if-is_line.branch [
      | then-is_line w ↦
          let one = one_vertex p c.args.name c.args.graph.now s c.args.line.bytes.now c.args.line.ended c.vertex_named.result c.vertex_named.ensures.only
          u c.in-Some.is c.in-Some.ensures.within (signalled_is g c) (tested g c ∙ w.if-is_line.true) in
          rw w.result-is (
            an_entry p c.args.name c.args.graph.now s c.execute_signalled.new.state c.args.left u c.in_ok-gathers.gathers (c.args.line.bytes.now, c.args.line.ended)
                one c.requires.left c.in-Some.ensures.within c.in_ok-gathers.ensures.state c.in_ok-gathers.ensures.gathers c.in_ok-gathers.ensures.few,
            c.in_ok-gathers.ensures.counted,
          )
      | else-is_line w ↦
          let none = no_vertex p c.args.name c.args.graph.now s c.args.line.bytes.now c.args.line.ended c.vertex_named.result c.vertex_named.ensures.only
          (λ v named is. let here = same_Some u v (sym c.in-Some.is ∙ named) in
          ap (is_entry_of p c.args.name c.args.graph.now s c.args.line.bytes.now c.args.line.ended) (sym here) ∙ (tested g c ∙ w.if-is_line.false)) in
          rw w.result-is (wrong_entry p c.args.name c.args.graph.now s c.args.left u (c.args.line.bytes.now, c.args.line.ended) none c.requires.left c.in-Some.ensures.within (signalled_is g c), let counted = c.in_ok-gathers.ensures.counted in omega (arith, counted))
    ]
