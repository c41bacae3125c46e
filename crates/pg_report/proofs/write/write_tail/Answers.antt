use Rattle.std.proofs.Common.{arith}
use Rattle.std.proofs.lemmas.Result.{err_from_is_err_and}
use Rattle.pg_base.proofs.Sending.{sent_nothing}
use Rattle.pg_words.specs.Programs.{is_wide}
use Rattle.pg_report.specs.Report.{values_text, signals_text}
use Rattle.pg_report.proofs.Sending.{sent_part, sent_rest, sent_stopped}
use Rattle.pg_report.proofs.write.write_tail.Goals as goal

pub returns-in_err-write_values : goal.returns-in_err-write_values
returns-in_err-write_values g c =
    let p = err_from_is_err_and c.from_residual.result c.from_residual.ensures.1 in
    rw p.1 (sent_stopped (values_text (is_wide c.args.program) c.args.graph.now c.args.state.now) _ (sent_nothing _ _) (omega arith) _ (rw c.wide.ensures at c.in_err-write_values.ensures))

pub returns-in_err-write_signals : goal.returns-in_err-write_signals
returns-in_err-write_signals g c =
    let p = err_from_is_err_and c.from_residual-in_err-write_signals.result c.from_residual-in_err-write_signals.ensures.1 in
    let values = sent_part (values_text (is_wide c.args.program) c.args.graph.now c.args.state.now) _ (sent_nothing _ _) (rw c.wide.ensures at c.in_ok-write_values.ensures.whole) in
    rw p.1 (sent_stopped (signals_text c.args.graph.now c.args.state.now) _ values c.write_values.ensures.later _ c.in_err-write_signals.ensures)

pub returns : goal.returns
returns g c =
    let values = sent_part (values_text (is_wide c.args.program) c.args.graph.now c.args.state.now) _ (sent_nothing _ _) (rw c.wide.ensures at c.in_ok-write_values.ensures.whole) in
    let signals = sent_part (signals_text c.args.graph.now c.args.state.now) _ values c.in_ok-write_signals.ensures.whole in
    sent_rest signals (omega (arith, c.write_values.ensures.later, c.write_signals.ensures.later)) _ c.write_line.ensures
