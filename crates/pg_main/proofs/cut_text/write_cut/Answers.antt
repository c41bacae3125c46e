use Rattle.std.proofs.Common.{arith}
use Rattle.std.proofs.lemmas.Result.{err_from_is_err_and}
use Rattle.pg_base.proofs.Sending.{sent_nothing}
use Rattle.pg_report.specs.Report.{ended, counts_line}
use Rattle.pg_main.specs.CutTexts.{cut_head, workers_text, cases_text}
use Rattle.pg_report.proofs.Sending.{sent_part, sent_rest, sent_stopped}
use Rattle.pg_main.proofs.cut_text.write_cut.Goals as goal

pub returns-in_err-write_cut_head : goal.returns-in_err-write_cut_head
returns-in_err-write_cut_head g c =
    let p = err_from_is_err_and c.from_residual.result c.from_residual.ensures.1 in
    rw p.1 (sent_stopped (cut_head c.args.kind c.args.made.now.cut.workers) _ (sent_nothing _ _) (omega arith) _ (rw c.workers.ensures.value at c.in_err-write_cut_head.ensures))

pub returns-in_err-write_counts : goal.returns-in_err-write_counts
returns-in_err-write_counts g c =
    let p = err_from_is_err_and c.from_residual-in_err-write_counts.result c.from_residual-in_err-write_counts.ensures.1 in
    let head = sent_part (cut_head c.args.kind c.args.made.now.cut.workers) _ (sent_nothing _ _) (rw c.workers.ensures.value at c.in_ok-write_cut_head.ensures.whole) in
    rw p.1 (sent_stopped (ended (counts_line c.args.graph.now)) _ head c.write_cut_head.ensures.later _ c.in_err-write_counts.ensures)

pub returns-in_err-write_workers : goal.returns-in_err-write_workers
returns-in_err-write_workers g c =
    let p = err_from_is_err_and c.from_residual-in_err-write_workers.result c.from_residual-in_err-write_workers.ensures.1 in
    let head = sent_part (cut_head c.args.kind c.args.made.now.cut.workers) _ (sent_nothing _ _) (rw c.workers.ensures.value at c.in_ok-write_cut_head.ensures.whole) in
    let counts = sent_part (ended (counts_line c.args.graph.now)) _ head c.in_ok-write_counts.ensures.whole in
    rw p.1 (sent_stopped (workers_text c.args.made.now.cut) _ counts (omega (arith, c.write_cut_head.ensures.later, c.write_counts.ensures.later)) _ c.in_err-write_workers.ensures)

pub returns-in_err-write_cases : goal.returns-in_err-write_cases
returns-in_err-write_cases g c =
    let p = err_from_is_err_and c.from_residual-in_err-write_cases.result c.from_residual-in_err-write_cases.ensures.1 in
    let head = sent_part (cut_head c.args.kind c.args.made.now.cut.workers) _ (sent_nothing _ _) (rw c.workers.ensures.value at c.in_ok-write_cut_head.ensures.whole) in
    let counts = sent_part (ended (counts_line c.args.graph.now)) _ head c.in_ok-write_counts.ensures.whole in
    let workers = sent_part (workers_text c.args.made.now.cut) _ counts c.in_ok-write_workers.ensures.whole in
    rw p.1 (sent_stopped (cases_text c.args.made.now.cases) _ workers (omega (arith, c.write_cut_head.ensures.later, c.write_counts.ensures.later, c.write_workers.ensures.later)) _ c.in_err-write_cases.ensures)

pub returns : goal.returns
returns g c =
    let head = sent_part (cut_head c.args.kind c.args.made.now.cut.workers) _ (sent_nothing _ _) (rw c.workers.ensures.value at c.in_ok-write_cut_head.ensures.whole) in
    let counts = sent_part (ended (counts_line c.args.graph.now)) _ head c.in_ok-write_counts.ensures.whole in
    let workers = sent_part (workers_text c.args.made.now.cut) _ counts c.in_ok-write_workers.ensures.whole in
    let cases = sent_part (cases_text c.args.made.now.cases) _ workers c.in_ok-write_cases.ensures.whole in
    sent_rest cases (omega (arith, c.write_cut_head.ensures.later, c.write_counts.ensures.later, c.write_workers.ensures.later, c.write_cases.ensures.later)) _ c.write_replicas.ensures
