use Rattle.std.proofs.Common.{sym, subst}
use Rattle.std.specs.Prelude.{Bool, ◌&&◌}
use Rattle.pg_words.specs.Programs.{keeps}
use Rattle.pg_words.specs.declared.job.Engine.{Engine}
use Rattle.pg_words.specs.declared.job.Engine.TheVariants.{Virtual}
use Rattle.pg_words.specs.declared.job.RunJob.{RunJob}
use Rattle.pg_main.specs.Answers.{Reports}
use Rattle.pg_main.specs.Cuts.{job_cut, worker_gathers}
use Rattle.pg_main.specs.Ways.{keeps_by}
use Rattle.pg_main.proofs.programs.report_run.Goals as goal

-- whether the job keeps gathers, if it were by this engine
abbrev kept_by : RunJob → Engine → Bool
kept_by job e = keeps_by e && (keeps job.program && job.cache)

pub returns-in-Sync : goal.returns-in-Sync
returns-in-Sync g c =
    let graph = c.args.graph.now in
    let program = c.args.job.program in
    let Report : Engine → Bool → Type 0 = λ e kept. Reports program e kept graph (worker_gathers program e kept graph (job_cut c.args.job graph))
    (g.K.Sink.written c.args.out.now) (g.K.Sink.written c.report_rounds.new.out) (g.K.Sink.faults c.args.out.now) (g.K.Sink.faults c.report_rounds.new.out)
    c.args.steps.now c.report_rounds.new.steps c.report_rounds.result in
    let By : Engine → Type 0 = λ e. Report e c.keeps_gathers-kept.result in
    subst (Report c.args.job.engine) c.keeps_gathers-kept.ensures.value (subst By (sym c.in-Sync.is) c.report_rounds.ensures)

pub returns-in-Serial : goal.returns-in-Serial
returns-in-Serial g c =
    let graph = c.args.graph.now in
    let program = c.args.job.program in
    let kept = kept_by c.args.job in
    let Report : Engine → Type 0 = λ e. Reports program e (kept e) graph (worker_gathers program e (kept e) graph (job_cut c.args.job graph))
    (g.K.Sink.written c.args.out.now) (g.K.Sink.written c.report_serial.new.out) (g.K.Sink.faults c.args.out.now) (g.K.Sink.faults c.report_serial.new.out)
    c.args.steps.now c.report_serial.new.steps c.report_serial.result in
    subst Report (sym c.in-Serial.is) (c.report_serial.ensures (job_cut c.args.job graph))

pub returns-in-Virtual : goal.returns-in-Virtual
returns-in-Virtual g c =
    let graph = c.args.graph.now in
    let program = c.args.job.program in
    let Report : Engine → Bool → Type 0 = λ e kept. Reports program e kept graph (worker_gathers program e kept graph (job_cut c.args.job graph))
    (g.K.Sink.written c.args.out.now) (g.K.Sink.written c.report_virtual.new.out) (g.K.Sink.faults c.args.out.now) (g.K.Sink.faults c.report_virtual.new.out)
    c.args.steps.now c.report_virtual.new.steps c.report_virtual.result in
    let kept = c.keeps_gathers-kept.result in
    let By : Engine → Type 0 = λ e. Report e kept in
    subst (Report c.args.job.engine) c.keeps_gathers-kept.ensures.value
    (subst By (sym c.in-Virtual.is) (c.report_virtual.ensures (worker_gathers program (Virtual c.in-Virtual.fuel c.in-Virtual.seed) kept graph (job_cut c.args.job graph))))
