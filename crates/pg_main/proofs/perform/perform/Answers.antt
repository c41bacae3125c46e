use Rattle.std.proofs.Common.{◌≡◌, ℕ, List, refl, sym, ◌∙◌, ap, subst, ◌⊎◌, inl, inr}
use Rattle.std.specs.Prelude.{IfSome, Ok}
use Rattle.pg_input.specs.declared.error.InputError.TheVariants as input
use Rattle.pg_law.specs.declared.values.End.TheVariants as run
use Rattle.pg_check.specs.declared.verdict.Verdict.TheVariants as verdict
use Rattle.pg_main.specs.declared.status.Status.{Status}
use Rattle.pg_main.specs.declared.status.Status.TheVariants.{Quiescent, Confirmed, Rejected, Reported}
use Rattle.pg_main.specs.Jobs.{IsReportedInPart, IsDividedInPart}
use Rattle.pg_main.specs.Statuses.{status_of_end, status_of_verdict, status_of_cut, IsDone, KeepsOut, IsAnswer, IsCheckAnswer, IsCutAnswer}
use Rattle.pg_main.proofs.Answering.{answered, check_answered, cut_answered}
use Rattle.pg_main.proofs.Settled.{if_any, on_ok, end_succeeds, verdict_succeeds, cut_succeeds, not_of, end_untold, verdict_untold, done_cut, done_as, done_any, found_as, done_check, not_confirmed, not_rejected, not_ended, text_as, limit_as, no_vertex_as, read_fault_as, write_fault_as, memory_as, not_usage, kept_of, end_writes, wrong_line}
use Rattle.pg_main.proofs.perform.perform.Goals as goal

pub returns-in-Run : goal.returns-in-Run
returns-in-Run g c =
    let done = c.run_job.ensures in
    let status = c.settle_run.ensures in
    let j = c.run_job.result in
    let job = c.in-Run.run' in
    let limits = c.args.limits in
    let left = g.S.Source.left c.args.input.now in
    let before = g.K.Sink.written c.args.out.now in
    let after = g.K.Sink.written c.run_job.new.out in
    let Answer : Status → Type 0 = λ s. IfSome left (IsAnswer limits s job) in
    rw c.in-Run.is (record {
      reported = λ end is. rw (done_as j end (sym status ∙ is)) at done.reported;
      meant = λ is. (rw (done_as j run.Quiescent (sym status ∙ is)) at done.meant) refl;
      confirmed = λ is. absurd (not_confirmed j (sym status ∙ is));
      rejected = λ line is. absurd (not_rejected j line (sym status ∙ is));
      divided = λ is. absurd (not_of status_of_end j Reported tt end_untold (sym status ∙ is));
      finished = λ is. on_ok j (done_any j (subst IsDone status is)) done.finished;
      read = λ is. on_ok j (done_any j (subst IsDone status is)) done.read;
      usage = λ place is. not_usage status_of_end end_succeeds j place (sym status ∙ is);
      text = λ line kind is. done.event (input.Line line kind) (text_as status_of_end end_succeeds j line kind (sym status ∙ is));
      limit = λ which limit is. done.event (input.Limit which limit) (limit_as status_of_end end_succeeds j which limit (sym status ∙ is));
      no_vertex = λ id is. done.absent id (no_vertex_as status_of_end end_succeeds j id (sym status ∙ is));
      read_fault = λ is. done.read_fault (read_fault_as status_of_end end_succeeds j (sym status ∙ is));
      write_fault = λ is. done.write_fault (write_fault_as status_of_end end_succeeds j (sym status ∙ is));
      complete = λ reads writes. subst Answer (sym status)
          (answered limits job before after c.args.steps.now c.run_job.new.steps left j done.reported done.event done.absent done.read_fault done.write_fault reads writes);
      kept = λ keeps. kept_of status_of_end end_succeeds j (λ end _ kept. absurd (end_writes end kept)) done.unread done.unsent (subst KeepsOut status keeps);
      front = λ is. done.front (write_fault_as status_of_end end_succeeds j (sym status ∙ is));
      memory = λ is. memory_as status_of_end end_succeeds j
          (λ e was. if_any {A = List ℕ} {P = λ text. (after ≡ before) ⊎ IsReportedInPart limits before after job text} left (λ text. inl (done.unread e was))) done.memory (sym status ∙ is);
      present = done.present;
    })

pub returns-in-Check : goal.returns-in-Check
returns-in-Check g c =
    let done = c.check_job.ensures in
    let status = c.settle_check.ensures in
    let j = c.check_job.result in
    let job = c.in-Check.run' in
    let limits = c.args.limits in
    let left = g.S.Source.left c.args.input.now in
    let before = g.K.Sink.written c.args.out.now in
    let after = g.K.Sink.written c.check_job.new.out in
    let Answer : Status → Type 0 = λ s. IfSome left (IsCheckAnswer limits s job) in
    rw c.in-Check.is (record {
      reported = λ end is. absurd (not_ended j end (sym status ∙ is));
      meant = λ is. absurd (not_ended j run.Quiescent (sym status ∙ is));
      confirmed = λ is. done.confirmed (found_as j verdict.Confirmed (sym status ∙ is));
      rejected = λ line is. done.rejected line (found_as j (verdict.Rejected line) (sym status ∙ is));
      divided = λ is. absurd (not_of status_of_verdict j Reported tt verdict_untold (sym status ∙ is));
      finished = λ is. done.finished (done_check j (subst IsDone status is));
      read = λ is. done.read (done_check j (subst IsDone status is));
      usage = λ place is. not_usage status_of_verdict verdict_succeeds j place (sym status ∙ is);
      text = λ line kind is. done.event (input.Line line kind) (text_as status_of_verdict verdict_succeeds j line kind (sym status ∙ is));
      limit = λ which limit is. done.event (input.Limit which limit) (limit_as status_of_verdict verdict_succeeds j which limit (sym status ∙ is));
      no_vertex = λ id is. done.absent id (no_vertex_as status_of_verdict verdict_succeeds j id (sym status ∙ is));
      read_fault = λ is. done.read_fault (read_fault_as status_of_verdict verdict_succeeds j (sym status ∙ is));
      write_fault = λ is. done.write_fault (write_fault_as status_of_verdict verdict_succeeds j (sym status ∙ is));
      complete = λ reads writes. subst Answer (sym status)
          (check_answered limits job before after c.args.steps.now c.check_job.new.steps left j done.confirmed done.rejected done.event done.absent done.read_fault done.write_fault reads writes);
      kept = λ keeps. kept_of status_of_verdict verdict_succeeds j
          (λ found is kept. wrong_line found (λ line wrong. done.unwritten line (is ∙ ap (λ v. Ok v) wrong)) kept) done.unread done.unsent (subst KeepsOut status keeps);
      front = λ is. done.front (write_fault_as status_of_verdict verdict_succeeds j (sym status ∙ is));
      memory = λ is. if_any left (λ text. memory_as status_of_verdict verdict_succeeds j done.unread done.memory (sym status ∙ is));
      present = done.present;
    })

pub returns-in-Cut : goal.returns-in-Cut
returns-in-Cut g c =
    let done = c.cut_job.ensures in
    let status = c.settle_cut.ensures in
    let j = c.cut_job.result in
    let job = c.in-Cut.cut in
    let limits = c.args.limits in
    let left = g.S.Source.left c.args.input.now in
    let before = g.K.Sink.written c.args.out.now in
    let after = g.K.Sink.written c.cut_job.new.out in
    let Answer : Status → Type 0 = λ s. IfSome left (IsCutAnswer limits s job) in
    rw c.in-Cut.is (record {
      reported = λ end is. absurd (not_of status_of_cut j (status_of_end end) (end_succeeds end) (λ told same. end_untold end (sym same)) (sym status ∙ is));
      meant = λ is. absurd (not_of status_of_cut j Quiescent tt (λ told same. end_untold run.Quiescent (sym same)) (sym status ∙ is));
      confirmed = λ is. absurd (not_of status_of_cut j Confirmed tt (λ told same. verdict_untold verdict.Confirmed (sym same)) (sym status ∙ is));
      rejected = λ line is. absurd (not_of status_of_cut j (Rejected line) tt (λ told same. verdict_untold (verdict.Rejected line) (sym same)) (sym status ∙ is));
      divided = λ is. on_ok j (done_cut j (inr (inr (sym status ∙ is)))) done.divided;
      finished = λ is. on_ok j (done_cut j (subst IsDone status is)) done.finished;
      read = λ is. on_ok j (done_cut j (subst IsDone status is)) done.read;
      usage = λ place is. not_usage status_of_cut cut_succeeds j place (sym status ∙ is);
      text = λ line kind is. done.event (input.Line line kind) (text_as status_of_cut cut_succeeds j line kind (sym status ∙ is));
      limit = λ which limit is. done.event (input.Limit which limit) (limit_as status_of_cut cut_succeeds j which limit (sym status ∙ is));
      no_vertex = λ id is. absurd (done.absent id (no_vertex_as status_of_cut cut_succeeds j id (sym status ∙ is)));
      read_fault = λ is. done.read_fault (read_fault_as status_of_cut cut_succeeds j (sym status ∙ is));
      write_fault = λ is. done.write_fault (write_fault_as status_of_cut cut_succeeds j (sym status ∙ is));
      complete = λ reads writes. subst Answer (sym status)
          (cut_answered limits job before after left j done.divided done.event done.absent done.read_fault done.write_fault reads writes);
      kept = λ keeps. kept_of status_of_cut cut_succeeds j (λ told is kept. absurd kept) done.unread (λ id is. absurd (done.absent id is)) (subst KeepsOut status keeps);
      front = λ is. done.front (write_fault_as status_of_cut cut_succeeds j (sym status ∙ is));
      memory = λ is. memory_as status_of_cut cut_succeeds j
          (λ e was. if_any {A = List ℕ} {P = λ text. (after ≡ before) ⊎ IsDividedInPart limits before after job text} left (λ text. inl (done.unread e was))) done.memory (sym status ∙ is);
      present = c.requires.present;
    })
