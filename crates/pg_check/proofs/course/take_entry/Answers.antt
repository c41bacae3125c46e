use Rattle.std.proofs.Common.{◌||◌, ◌==◌, Bool, false, List, length, get_or, refl, ◌∙◌, ap, arith}
use Rattle.std.proofs.lemmas.List.{with_items_is}
use Rattle.pg_base.specs.Shown.{shown}
use Rattle.pg_check.specs.Verdicts.{counts_once}
use Rattle.pg_check.proofs.Courses.{entry_taken, entry_rejected}
use Rattle.pg_check.proofs.course.take_entry.Goals as goal

pub returns-in-Entry : goal.returns-in-Entry
returns-in-Entry g c =
    let p = g.P.VertexProgram.meaning c.args.program.now in
    let old = c.args.course.now in
    let u = c.in-Entry.vertex in
    let found = rw c.in-Entry.is at c.in_ok-vertex.ensures.found in
    let same = c.as_mut_slice.ensures.value in
    let whole = with_items_is old.noted c.note.new.noted (omega (arith, c.note.auto.noted, c.as_mut_slice.ensures.len)) in
    entry_taken p c.args.job.now.program c.args.graph.now c.args.job.now.engine (counts_once c.args.job.now) old _ c.args.tally c.with.result
    u c.in-Entry.gathers c.args.number c.args.steps.now c.find_entry.new.steps (shown c.args.line)
    c.requires.place refl c.in_ok-vertex.ensures.fit c.with.ensures.value c.with.ensures.tally found.0
    (λ is v inside. ap (λ (xs : List Bool). get_or xs v false) whole
    ∙ (c.note.ensures v (omega (arith, inside, ap length same, c.requires.course.marks is))
    ∙ ap (λ (xs : List Bool). get_or xs v false || (u == v)) same))
    (λ is. ap length whole ∙ (c.note.auto.noted ∙ (ap length same ∙ c.requires.course.marks is)))
    found.1

pub returns-in-WrongEntry : goal.returns-in-WrongEntry
returns-in-WrongEntry g c =
    let p = g.P.VertexProgram.meaning c.args.program.now in
    let found = rw c.in-WrongEntry.is at c.in_ok-vertex.ensures.found in
    entry_rejected p c.args.job.now.program c.args.graph.now c.args.job.now.engine (counts_once c.args.job.now) c.args.course.now c.args.tally c.args.number c.args.steps.now c.find_entry.new.steps (shown c.args.line)
    c.requires.place found.0 found.1
