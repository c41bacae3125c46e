use Rattle.std.proofs.Common.{◌-◌, ◌^◌, ap, ◌∙◌, slice_index, codes}
use Rattle.std.proofs.lemmas.Option.{none-some, same_Some}
use Rattle.pg_journal.specs.Fronts.{behind, number_at}
use Rattle.pg_journal.proofs.Digits.{parts_of}
use Rattle.pg_check.proofs.Entries.{mark_read, id_read, behind_id, vertex_by_id}
use Rattle.pg_check.proofs.entry.vertex_named.Goals as goal

pub returns-in_err-behind-clause-only : goal.returns-in_err-behind-clause-only
returns-in_err-behind-clause-only c = λ wide entry inside text.
    (let mark = mark_read c.args.graph.now c.vertices.ensures.graph wide entry inside in
    let none = rw c.in_err-behind.was at c.behind.ensures in
    absurd (none-some _ (none ∙ (ap (behind (codes "@")) text ∙ mark))))

pub returns-in_err-id-clause-only : goal.returns-in_err-id-clause-only
returns-in_err-id-clause-only c = λ wide entry inside text.
    (let mark = mark_read c.args.graph.now c.vertices.ensures.graph wide entry inside in
    let id = id_read c.args.graph.now c.vertices.ensures.graph wide entry inside in
    let some = rw c.in_ok-behind.was at c.behind.ensures in
    let rest = same_Some _ _ (some ∙ (ap (behind (codes "@")) text ∙ mark)) in
    let none = rw c.in_err-id.was at c.number_at.ensures.value in
    absurd (none-some _ (none ∙ (ap (number_at (2 ^ 32 - 1)) rest ∙ id))))

pub returns-clause-only : goal.returns-clause-only
returns-clause-only c = λ wide entry inside text.
    (let g = c.args.graph.now in
    let graph = c.vertices.ensures.graph in
    let mark = mark_read g graph wide entry inside in
    let id = id_read g graph wide entry inside in
    let some = rw c.in_ok-behind.was at c.behind.ensures in
    let rest = same_Some _ _ (some ∙ (ap (behind (codes "@")) text ∙ mark)) in
    let read = rw c.in_ok-id.was at c.number_at.ensures.value in
    let same = parts_of c.in_ok-id.id (slice_index g.ids entry.vertex) c.in_ok-id.field-0-1.now (behind_id wide entry)
    (read ∙ (ap (number_at (2 ^ 32 - 1)) rest ∙ id)) in
    vertex_by_id g graph entry.vertex c.in_ok-id.id c.number_of.result inside same.0
    c.number_of.ensures.within c.number_of.ensures.id c.number_of.ensures.found.1)
