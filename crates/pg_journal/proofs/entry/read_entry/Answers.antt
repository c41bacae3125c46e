use Rattle.std.proofs.Common.{ℕ, sym, ap, ◌∙◌, slice_index, refl, subst}
use Rattle.std.specs.Prelude.{Contains}
use Rattle.std.proofs.lemmas.Bool.{false≢true}
use Rattle.std.proofs.lemmas.List.Elements.{Contains-get_or}
use Rattle.pg_journal.specs.Entry.{entry_text}
use Rattle.pg_journal.proofs.EntryLemmas.{entry_takes, line_again, same_reading, one_vertex}
use Rattle.pg_journal.proofs.entry.read_entry.Goals as goal

pub returns-clause-entry : goal.returns-clause-entry
returns-clause-entry c =
    let takes = entry_takes c.args.wide c.args.line.now c.in_ok-id.id c.in_ok-id.datum (sym c.entry_at.ensures ∙ c.in_ok-id.was) in
    record { vertex = c.in_ok-vertex.ensures.within; datum = takes.is }

pub returns-clause-text : goal.returns-clause-text
returns-clause-text c =
    let takes = entry_takes c.args.wide c.args.line.now c.in_ok-id.id c.in_ok-id.datum (sym c.entry_at.ensures ∙ c.in_ok-id.was) in
    takes.text ∙ ap (λ (id : ℕ). entry_text c.args.wide id c.in_ok-id.datum) (sym c.in_ok-vertex.ensures.id)

pub returns-clause-only : goal.returns-clause-only
returns-clause-only c = λ entry is text.
    (let graph = c.vertices.ensures.graph in
    let same = same_reading c.args.wide c.args.line.now c.in_ok-id.id (slice_index c.args.graph.now.ids entry.vertex) c.in_ok-id.datum entry.datum (sym c.entry_at.ensures ∙ c.in_ok-id.was) (line_again c.args.graph.now graph c.args.wide entry c.args.line.now is text) in
    let vertex = one_vertex c.args.graph.now.ids graph.ids c.in_ok-vertex.vertex entry.vertex c.in_ok-vertex.ensures.within is.vertex (c.in_ok-vertex.ensures.id ∙ same.0) in
    rw (vertex, same.1) refl)

pub returns-in_err-id-clause-only : goal.returns-in_err-id-clause-only
returns-in_err-id-clause-only c = λ entry is text.
    (let again = line_again c.args.graph.now c.vertices.ensures.graph c.args.wide entry c.args.line.now is text in
    let none = sym c.entry_at.ensures ∙ c.in_err-id.was in
    cc)

pub returns-in_err-vertex-clause-only : goal.returns-in_err-vertex-clause-only
returns-in_err-vertex-clause-only c = λ entry is text.
    (let ids = c.args.graph.now.ids in
    let same = same_reading c.args.wide c.args.line.now c.in_ok-id.id (slice_index ids entry.vertex) c.in_ok-id.datum entry.datum (sym c.entry_at.ensures ∙ c.in_ok-id.was) (line_again c.args.graph.now c.vertices.ensures.graph c.args.wide entry c.args.line.now is text) in
    let there : Contains ids c.in_ok-id.id = subst (Contains ids) (sym same.0) (Contains-get_or ids entry.vertex 0 is.vertex) in
    absurd (false≢true (c.in_err-vertex.ensures.found.1 there)))
