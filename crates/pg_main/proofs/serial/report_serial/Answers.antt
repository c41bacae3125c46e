use Rattle.std.proofs.Common.{◌≡◌, ◌≤◌, ◌==◌, List, ℕ, refl, ◌∙◌, ap, subst, None, Err, arith}
use Rattle.std.specs.Prelude.{false, if◌then◌else◌}
use Rattle.std.specs.Io.KnownBytes.{append_known}
use Rattle.std.proofs.lemmas.Result.{err_from_is_err_and}
use Rattle.pg_base.specs.Writing.{SendsFront}
use Rattle.pg_law.specs.declared.async_end.AsyncError.{AsyncError}
use Rattle.pg_report.specs.declared.line.LastLine.{LastLine}
use Rattle.pg_words.specs.declared.job.Engine.TheVariants.{Serial}
use Rattle.pg_words.specs.Programs.{is_wide}
use Rattle.pg_main.specs.Answers.{Reports}
use Rattle.pg_main.specs.Cuts.{worker_gathers}
use Rattle.pg_main.proofs.Taking.{take_by, take_first}
use Rattle.pg_check.specs.Outcomes.{Outcome, outcome_with, journal_of, left_by, left_of}
use Rattle.pg_main.proofs.Reporting.{by_error, no_memory, failed, stopped, nothing_sent, head_front, journal_sent, journal_front, tail_front, tail_whole, done, serial_has, lines}
use Rattle.pg_main.proofs.serial.report_serial.Goals as goal

pub returns-in_err-state : goal.returns-in_err-state
returns-in_err-state g c = λ cut.
    let p = g.P.VertexProgram.meaning c.args.program.now in
    let graph = c.args.graph.now in
    let name = c.args.name in
    let engine = Serial c.args.fuel in
    let journal = journal_of p graph c.args.fuel in
    let has = c.requires.legal engine graph journal (serial_has p graph c.args.fuel) in
    let gathers = worker_gathers name engine false graph cut in
    let before = g.K.Sink.written c.args.out.now in
    let faults = g.K.Sink.faults c.args.out.now in
    let steps = c.args.steps.now in
    by_error (Reports name engine false graph _ _ _ _ _ _ _) c.from_residual.result (err_from_is_err_and c.from_residual.result c.from_residual.ensures.1)
    (no_memory name engine false graph journal has gathers before faults steps (nothing_sent name engine false graph journal has gathers before faults steps) (omega arith) c.requires.present)

pub returns-in_err-write_head : goal.returns-in_err-write_head
returns-in_err-write_head g c = λ cut.
    let p = g.P.VertexProgram.meaning c.args.program.now in
    let graph = c.args.graph.now in
    let name = c.args.name in
    let engine = Serial c.args.fuel in
    let journal = journal_of p graph c.args.fuel in
    let has = c.requires.legal engine graph journal (serial_has p graph c.args.fuel) in
    let gathers = worker_gathers name engine false graph cut in
    let before = g.K.Sink.written c.args.out.now in
    let faults = g.K.Sink.faults c.args.out.now in
    let steps = c.args.steps.now in
    let o = left_by p graph engine false journal in
    by_error (Reports name engine false graph _ _ _ _ _ _ _) c.from_residual-in_err-write_head.result (err_from_is_err_and c.from_residual-in_err-write_head.result c.from_residual-in_err-write_head.ensures.1)
    (failed name engine false graph journal has gathers before faults steps (head_front name engine false graph journal has gathers before faults steps o.state o.last (c.requires.named engine false graph journal) c.in_err-write_head.ensures.front)
    (c.in_err-write_head.ensures.cause refl) c.write_head.ensures.later c.requires.present)

pub returns-in_err-ended : goal.returns-in_err-ended
returns-in_err-ended g c = λ cut.
    let p = g.P.VertexProgram.meaning c.args.program.now in
    let graph = c.args.graph.now in
    let name = c.args.name in
    let engine = Serial c.args.fuel in
    let journal = journal_of p graph c.args.fuel in
    let has = c.requires.legal engine graph journal (serial_has p graph c.args.fuel) in
    let gathers = worker_gathers name engine false graph cut in
    let before = g.K.Sink.written c.args.out.now in
    let faults = g.K.Sink.faults c.args.out.now in
    let steps = c.args.steps.now in
    let o = left_by p graph engine false journal in
    let Front : List ℕ → Type 0 = λ text. SendsFront (g.K.Sink.written c.write_head.new.sink) (g.K.Sink.written c.execute_all.new.out) text in
    let front = subst Front (lines c.wide.result (is_wide name) c.wide.ensures graph journal) c.in_err-ended.ensures.front in
    by_error (Reports name engine false graph _ _ _ _ _ _ _) c.from_residual-in_err-ended.result (err_from_is_err_and c.from_residual-in_err-ended.result c.from_residual-in_err-ended.ensures.1)
    (stopped name engine false graph journal has gathers before faults steps c.in_err-ended.field-0.0
    (journal_front name engine false graph journal has gathers before faults steps o.state o.last (c.requires.named engine false graph journal) c.in_ok-write_head.ensures.whole front)
    (λ was. omega (arith, c.write_head.ensures.later, c.in_err-ended.ensures.fault (ap (λ (e : AsyncError). Err e) was)))
    (omega (arith, c.write_head.ensures.later, c.execute_all.ensures.later)) c.execute_all.ensures.present)

pub returns-in_err-write_tail : goal.returns-in_err-write_tail
returns-in_err-write_tail g c = λ cut.
    let p = g.P.VertexProgram.meaning c.args.program.now in
    let graph = c.args.graph.now in
    let name = c.args.name in
    let engine = Serial c.args.fuel in
    let journal = journal_of p graph c.args.fuel in
    let has = c.requires.legal engine graph journal (serial_has p graph c.args.fuel) in
    let gathers = worker_gathers name engine false graph cut in
    let before = g.K.Sink.written c.args.out.now in
    let faults = g.K.Sink.faults c.args.out.now in
    let steps = c.args.steps.now in
    let ended = c.in_ok-ended.ended in
    let last : LastLine = record { end = ended.end; rounds = None; executions = ended.executions; gathers = ended.gathers } in
    let is : outcome_with journal ended.state last ≡ left_of name engine false graph journal = c.in_ok-ended.ensures.outcome ∙ c.requires.named engine false graph journal in
    let whole = c.in_ok-ended.ensures.written ∙ ap (append_known (g.K.Sink.written c.write_head.new.sink)) (lines c.wide.result (is_wide name) c.wide.ensures graph journal) in
    let sent = journal_sent name engine false graph journal has gathers before faults steps ended.state last is c.in_ok-write_head.ensures.whole whole in
    let begun : faults ≤ g.K.Sink.faults c.execute_all.new.out = omega (arith, c.write_head.ensures.later, c.execute_all.ensures.later) in
    by_error (Reports name engine false graph _ _ _ _ _ _ _) c.from_residual-in_err-write_tail.result (err_from_is_err_and c.from_residual-in_err-write_tail.result c.from_residual-in_err-write_tail.ensures.1)
    (failed name engine false graph journal has gathers before faults steps (tail_front name engine false graph journal has gathers before faults steps ended.state last is sent begun _ c.in_err-write_tail.ensures)
    (omega (arith, c.write_head.ensures.later, c.execute_all.ensures.later, c.in_err-write_tail.ensures.cause refl))
    (omega (arith, c.write_head.ensures.later, c.execute_all.ensures.later, c.write_tail.ensures.later)) c.execute_all.ensures.present)

pub returns : goal.returns
returns g c = λ cut.
    let p = g.P.VertexProgram.meaning c.args.program.now in
    let graph = c.args.graph.now in
    let name = c.args.name in
    let engine = Serial c.args.fuel in
    let journal = journal_of p graph c.args.fuel in
    let has = c.requires.legal engine graph journal (serial_has p graph c.args.fuel) in
    let gathers = worker_gathers name engine false graph cut in
    let before = g.K.Sink.written c.args.out.now in
    let faults = g.K.Sink.faults c.args.out.now in
    let steps = c.args.steps.now in
    let ended = c.in_ok-ended.ended in
    let last : LastLine = record { end = ended.end; rounds = None; executions = ended.executions; gathers = ended.gathers } in
    let is : outcome_with journal ended.state last ≡ left_of name engine false graph journal = c.in_ok-ended.ensures.outcome ∙ c.requires.named engine false graph journal in
    let whole = c.in_ok-ended.ensures.written ∙ ap (append_known (g.K.Sink.written c.write_head.new.sink)) (lines c.wide.result (is_wide name) c.wide.ensures graph journal) in
    let sent = journal_sent name engine false graph journal has gathers before faults steps ended.state last is c.in_ok-write_head.ensures.whole whole in
    let begun : faults ≤ g.K.Sink.faults c.execute_all.new.out = omega (arith, c.write_head.ensures.later, c.execute_all.ensures.later) in
    done name engine false graph journal has gathers before faults steps ended.state last is
    (tail_whole name engine false graph journal has gathers before faults steps ended.state last is sent begun _ c.in_ok-write_tail.ensures)
    (take_by (take_first c.in_ok-ended.ensures.counted)
    (λ worker. ap (λ n. if worker == 0 then n else 0) (ap (λ (made : Outcome). made.last.gathers) c.in_ok-ended.ensures.outcome) ∙ c.requires.counts engine false graph cut worker))
    (omega (arith, c.write_head.ensures.later, c.execute_all.ensures.later, c.write_tail.ensures.later)) c.execute_all.ensures.present
