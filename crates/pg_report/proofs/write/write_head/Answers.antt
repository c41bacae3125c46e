use Rattle.std.proofs.Common.{arith}
use Rattle.std.proofs.lemmas.Result.{err_from_is_err_and}
use Rattle.pg_base.proofs.Sending.{sent_nothing}
use Rattle.pg_report.specs.Report.{ended}
use Rattle.pg_report.specs.declared.line.ReportLine.TheVariants as line
use Rattle.pg_report.proofs.Sending.{sent_part, sent_rest, sent_stopped}
use Rattle.pg_report.proofs.write.write_head.Goals as goal

pub returns-in_err-write_line : goal.returns-in_err-write_line
returns-in_err-write_line g c =
    let p = err_from_is_err_and c.from_residual.result c.from_residual.ensures.1 in
    rw p.1 (sent_stopped (ended (line.Head c.args.engine c.args.program)) _ (sent_nothing _ _) (omega arith) _ c.in_err-write_line.ensures)

pub returns : goal.returns
returns g c =
    let head = sent_part (ended (line.Head c.args.engine c.args.program)) _ (sent_nothing _ _) c.in_ok-write_line.ensures.whole in
    sent_rest head c.write_line.ensures.later _ c.write_counts.ensures
