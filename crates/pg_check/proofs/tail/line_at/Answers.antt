use Rattle.std.proofs.Common.{◌+◌, ◌<◌, ◌∷◌, List, length, sym, ap, ◌∙◌, arith, refl}
use Rattle.std.proofs.lemmas.List.{get_or_read}
use Rattle.pg_graph.specs.declared.edge.VertexInfo.{VertexInfo}
use Rattle.pg_law.specs.declared.values.Datum.{Datum}
use Rattle.pg_law.specs.Configuration.{Configuration, datum_in}
use Rattle.pg_law.specs.Values.{one}
use Rattle.pg_report.specs.declared.line.ReportLine.{ReportLine}
use Rattle.pg_check.specs.Course.{lines_from, values_from}
use Rattle.pg_check.proofs.TailLemmas.{values_more}
use Rattle.pg_check.proofs.tail.line_at.Goals as goal

pub returns-in-Value-clause-lines : goal.returns-in-Value-clause-lines
returns-in-Value-clause-lines c =
    let g = c.args.graph.now in
    let s = c.args.state.now in
    let v = c.in-Value.vertex in
    let inside : v < length g.ids = rw c.in-Value.is at c.requires.place in
    let same = ap (λ (s : Configuration). s.values) c.state.view_is in
    let held : v < length c.state.inside.values.items = omega (arith, ap length same, c.requires.values, inside) in
    let datum = get_or_read c.state.inside.values.items v c.index.result.now held c.index.ensures (one 0)
    ∙ ap (λ (xs : List Datum). datum_in xs v) same in
    let id = ap (λ (info : VertexInfo). info.id) c.info-id.ensures.value in
    let rest = lines_from c.args.name g s c.args.last c.value_from.result in
    let line_is = c.value_line.ensures ∙ rw (c.wide.ensures, id, datum) refl in
    ap (lines_from c.args.name g s c.args.last) c.in-Value.is
    ∙ (values_more g s c.args.last c.args.name v inside
    ∙ (ap (λ (line : ReportLine). line ∷ values_from c.args.name g s c.args.last (v + 1)) (sym line_is)
    ∙ ap (λ (lines : List ReportLine). c.value_line.result ∷ lines) (sym (c.value_from.ensures.lines c.args.name c.args.last))))
