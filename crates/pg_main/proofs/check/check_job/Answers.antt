use Rattle.std.proofs.Common.{◌≡◌}
use Rattle.std.proofs.lemmas.Result.{err_from_is_err_and}
use Rattle.pg_check.specs.declared.verdict.Verdict.TheVariants.{Rejected}
use Rattle.pg_main.specs.Checks.{IsJudged, IsConfirmed, IsConfirmedInPart}
use Rattle.pg_main.proofs.Judging.{part_of, judged, confirmed, refused}
use Rattle.pg_main.proofs.Settled.{if_some}
use Rattle.pg_main.proofs.check.check_job.Goals as goal

pub returns-in_err-verdict-clause-event : goal.returns-in_err-verdict-clause-event
returns-in_err-verdict-clause-event g c = λ error is.
    let p = err_from_is_err_and c.from_residual-in_err-verdict.result c.from_residual-in_err-verdict.ensures.1 in
    let read = c.in_ok-part.ensures in
    let there = c.in_ok-find_source.ensures.there in
    let left = g.S.Source.left c.args.input.now in
    let part = part_of c.args.limits c.args.job c.in_ok-part.part.graph _ _ _ _ _ c.in_ok-cutter.cutter left c.in_ok-cutter.ensures.held c.in_ok-cutter.ensures.given
    read.graph read.accepted read.stop read.stop_ended read.behind read.given c.header.ensures in
    let same : error ≡ c.in_err-verdict.field-0.0 = cc in
    rw same (if_some left (λ text p. refused p there c.in_err-verdict.field-0.0 c.in_err-verdict.ensures) part)

pub returns-in_err-write_confirmed-in-Confirmed-clause-front :
    goal.returns-in_err-write_confirmed-in-Confirmed-clause-front
returns-in_err-write_confirmed-in-Confirmed-clause-front g c = λ _.
    let read = c.in_ok-part.ensures in
    let there = c.in_ok-find_source.ensures.there in
    let left = g.S.Source.left c.args.input.now in
    let part = part_of c.args.limits c.args.job c.in_ok-part.part.graph _ _ _ _ _ c.in_ok-cutter.cutter left c.in_ok-cutter.ensures.held c.in_ok-cutter.ensures.given
    read.graph read.accepted read.stop read.stop_ended read.behind read.given c.header.ensures in
    let after = g.K.Sink.written c.write_confirmed.new.out in
    if_some {Q = IsConfirmedInPart c.args.limits (g.K.Sink.written c.args.out.now) after c.args.job} left (λ text p. record {
      judged = judged p there (rw c.in-Confirmed.is at c.in_ok-verdict.ensures);
      front = c.in_err-write_confirmed-in-Confirmed.ensures.written.front;
    }) part

pub returns-in-Confirmed-clause-confirmed : goal.returns-in-Confirmed-clause-confirmed
returns-in-Confirmed-clause-confirmed g c = λ _.
    let read = c.in_ok-part.ensures in
    let there = c.in_ok-find_source.ensures.there in
    let left = g.S.Source.left c.args.input.now in
    let part = part_of c.args.limits c.args.job c.in_ok-part.part.graph _ _ _ _ _ c.in_ok-cutter.cutter left c.in_ok-cutter.ensures.held c.in_ok-cutter.ensures.given
    read.graph read.accepted read.stop read.stop_ended read.behind read.given c.header.ensures in
    let after = g.K.Sink.written c.write_confirmed.new.out in
    let steps = c.judge_named.new.steps in
    if_some {Q = IsConfirmed c.args.limits (g.K.Sink.written c.args.out.now) after c.args.steps.now steps c.args.job} left
    (λ text p. confirmed p there (rw c.in-Confirmed.is at c.in_ok-verdict.ensures) c.in_ok-write_confirmed-in-Confirmed.ensures.written.whole) part

pub returns-clause-rejected : goal.returns-clause-rejected
returns-clause-rejected g c = λ line is.
    let read = c.in_ok-part.ensures in
    let there = c.in_ok-find_source.ensures.there in
    let left = g.S.Source.left c.args.input.now in
    let part = part_of c.args.limits c.args.job c.in_ok-part.part.graph _ _ _ _ _ c.in_ok-cutter.cutter left c.in_ok-cutter.ensures.held c.in_ok-cutter.ensures.given
    read.graph read.accepted read.stop read.stop_ended read.behind read.given c.header.ensures in
    let same : c.in_ok-verdict.verdict ≡ Rejected line = cc in
    if_some {Q = IsJudged c.args.limits (Rejected line) c.args.job} left
    (λ text p. judged p there (rw same at c.in_ok-verdict.ensures)) part
