use Rattle.std.proofs.Common.{◌≡◌, ap, decimal, codes}
use Rattle.std.specs.Prelude.{slice_index}
use Rattle.pg_graph.specs.declared.edge.VertexInfo.{VertexInfo}
use Rattle.pg_journal.proofs.EntryLemmas.{narrow_line, wide_line}
use Rattle.pg_journal.proofs.entry.put_entry.Goals as goal

pub returns-then-not-wide-clause-line : goal.returns-then-not-wide-clause-line
returns-then-not-wide-clause-line c =
    let id : c.info.result.id ≡ slice_index c.args.graph.now.ids c.args.entry.vertex = ap (λ (v : VertexInfo). v.id) c.info.ensures.value in
    rw (c.put_text.ensures.text, c.put_number-end-2.ensures.text, c.put_text-end-2.ensures.text, c.put_number-end.ensures.text, c.put_text-end.ensures.text, c.if-not-wide.true, id)
    (narrow_line (codes "@") (decimal (slice_index c.args.graph.now.ids c.args.entry.vertex)) (codes "\t") (decimal c.args.entry.datum.first) (codes "\n"))

pub returns-clause-line : goal.returns-clause-line
returns-clause-line c =
    let id : c.info.result.id ≡ slice_index c.args.graph.now.ids c.args.entry.vertex = ap (λ (v : VertexInfo). v.id) c.info.ensures.value in
    rw (c.put_text-2.ensures.text, c.put_number-end-3.ensures.text, c.put_text-end-3.ensures.text, c.put_number-end-2.ensures.text, c.put_text-end-2.ensures.text, c.put_number-end.ensures.text, c.put_text-end.ensures.text, c.if-not-wide.false, id)
    (wide_line (codes "@") (decimal (slice_index c.args.graph.now.ids c.args.entry.vertex)) (codes "\t") (decimal c.args.entry.datum.first) (decimal c.args.entry.datum.second) (codes "\n"))
