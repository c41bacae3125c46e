use Rattle.std.proofs.Common.{◌≡◌, ℕ, true, length, sym, ◌∙◌, ap, subst}
use Rattle.pg_base.specs.Shown.{shown}
use Rattle.pg_report.specs.Lines.{line_text}
use Rattle.pg_report.specs.Report.{counts_line}
use Rattle.pg_report.specs.declared.line.ReportLine.TheVariants as line
use Rattle.pg_check.specs.Course.{stands, IsTally}
use Rattle.pg_check.specs.Verdicts.{counts_once}
use Rattle.pg_check.proofs.Courses.{sync_counts, serial_counts, virtual_counts}
use Rattle.pg_check.proofs.course.take_counts.Given
use Rattle.pg_check.proofs.course.take_counts.Goals as goal
use Rattle.pg_check.proofs.course.take_counts.Goals.{in-Sync, in-Serial, in-Virtual}

-- the counts stand there
counts_stand : (g : Given.Over) (c : goal.After-course-1 g) → stands (line_text (counts_line c.args.graph.now)) (shown c.args.line) ≡ true
counts_stand g c =
    let graph = c.args.graph.now in
    let said = shown c.args.line in
    let edges : length c.edges.result.now ≡ length graph.edges = ap length c.edges.ensures.value in
    ap (λ (n : ℕ). stands (line_text (line.Counts n (length graph.edges) graph.loops)) said) (sym c.vertices.ensures.value)
    ∙ (ap (λ (n : ℕ). stands (line_text (line.Counts c.vertices.result n graph.loops)) said) (sym edges)
    ∙ (ap (λ (n : ℕ). stands (line_text (line.Counts c.vertices.result (length c.edges.result.now) n)) said) (sym c.loops.ensures)
    ∙ (sym c.stands.ensures ∙ c.if-not-stands.false)))

pub returns : goal.returns
returns g c =
    let p = g.P.VertexProgram.meaning c.args._program.now in
    let name = c.args.job.now.program in
    elim c.match-job.branch [
      | in-Sync w ↦
          rw (w.in-Sync.is, w.course-is) (sync_counts p name c.args.graph.now (counts_once c.args.job.now) c.args.course.now w.in-Sync.rounds c.args.number (shown c.args.line) w.value_from.result
          c.requires.course c.requires.place (counts_stand g c) w.value_from.ensures.place (λ last. w.value_from.ensures.lines name last))
      | in-Serial w ↦
          rw (w.in-Serial.is, w.course-is, w.full.ensures.value) (serial_counts p name c.args.graph.now (counts_once c.args.job.now) c.args.course.now w.in-Serial.fuel c.args.number (shown c.args.line)
          c.requires.course c.requires.place (counts_stand g c) (subst IsTally w.full.ensures.value w.full.ensures.tally))
      | in-Virtual w ↦
          rw (w.in-Virtual.is, w.course-is, w.full-in-Virtual.ensures.value) (virtual_counts p name c.args.graph.now (counts_once c.args.job.now) c.args.course.now w.in-Virtual.fuel w.in-Virtual.seed c.args.number (shown c.args.line)
          c.requires.course c.requires.place (counts_stand g c) (subst IsTally w.full-in-Virtual.ensures.value w.full-in-Virtual.ensures.tally))
    ]
