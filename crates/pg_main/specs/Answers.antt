-- What writing the report of a run, and judging one, does to the outside and to the counters, and what it
-- answers.
use Rattle.std.specs.Prelude.{◌≡◌, ℕ, ◌≤◌, Bool, List, [], Option, Some, None, Result, IfSome, IfOk, IfErr, OnOk, OnErr, IsErrOf}
use Rattle.std.specs.Io.KnownBytes.{append_known}
use Rattle.pg_base.specs.Faults.{HasRisen}
use Rattle.pg_base.specs.Writing.{SendsFront}
use Rattle.pg_base.specs.declared.limits.Limits.{Limits}
use Rattle.pg_graph.specs.Multigraph.{Multigraph}
use Rattle.pg_input.specs.Events.{IsEventOf}
use Rattle.pg_input.specs.declared.error.InputError.{InputError}
use Rattle.pg_input.specs.declared.error.InputError.TheVariants.{ReadFault}
use Rattle.pg_check.specs.Reports.{ReadLine, read_report}
use Rattle.pg_check.specs.Verdicts.{job_verdict, gathers_of, event_for}
use Rattle.pg_check.specs.declared.verdict.Verdict.{Verdict}
use Rattle.pg_check.specs.declared.verdict.Verdict.TheVariants.{Confirmed}
use Rattle.pg_words.specs.declared.job.RunJob.{RunJob}
use Rattle.pg_law.specs.declared.values.End.{End}
use Rattle.pg_law.specs.declared.values.JournalEntry.{JournalEntry}
use Rattle.pg_law.specs.declared.async_end.AsyncError.{AsyncError}
use Rattle.pg_law.specs.declared.async_end.AsyncError.TheVariants as async
use Rattle.pg_words.specs.declared.job.Engine.{Engine}
use Rattle.pg_words.specs.declared.job.ProgramName.{ProgramName}
use Rattle.pg_main.specs.Counters.{ArePresent, FirstTakes, Counted}
use Rattle.pg_check.specs.Outcomes.{HasJournalOf, left_of, kept_text}
use Rattle.pg_main.specs.declared.refusal.Refusal.{Refusal}
use Rattle.pg_main.specs.declared.refusal.Refusal.TheVariants.{Input, NoVertex, WriteFault, Memory}

-- a refusal that comes after the graph was read and the source was found
abbrev pub IsLate : Refusal → Type 0
IsLate (Input error) = ⊥
IsLate (NoVertex id) = ⊥
IsLate WriteFault = Unit {0}
IsLate Memory = Unit {0}

-- why a run of executions gave no report
abbrev pub refusal_of : AsyncError → Refusal
refusal_of async.WriteFault = WriteFault
refusal_of async.Memory = Memory

-- the report of a journal was appended and each counter took the gathers of its worker; or a front of it was
-- appended
pub record Reports (name : ProgramName) (engine : Engine) (kept : Bool) (g : Multigraph) (gathers : ℕ → ℕ)
    (before after : Option (List ℕ)) (faults_before faults_after : ℕ)
    (steps_before steps_after : List (Option ℕ)) (result : Result End Refusal) : Type 0 where
  pub journal : List JournalEntry
  pub is_journal : HasJournalOf name engine g journal
  pub end : IfOk result (λ end. (left_of name engine kept g journal).last.end ≡ end)
  pub whole : OnOk result (after ≡ append_known before (kept_text name engine kept g journal))
  pub counted : OnOk result (Counted engine steps_before steps_after gathers)
  pub late : IfErr result IsLate
  pub front : OnErr result (SendsFront before after (kept_text name engine kept g journal))
  pub fault : IsErrOf result WriteFault → HasRisen faults_before faults_after
  pub later : faults_before ≤ faults_after
  pub present : ArePresent steps_after

-- the report that begins with this header, and has this text behind it, was judged for the job
pub record Judges (limits : Limits) (job : RunJob) (g : Multigraph) (header : Option ReadLine) (given : ℕ)
    (behind after : Option (List ℕ)) (faults_before faults_after : ℕ)
    (steps_before steps_after : List (Option ℕ)) (result : Result Verdict InputError) : Type 0 where
  pub judged : IfOk result (λ verdict. IfSome behind (λ text.
      verdict ≡ job_verdict job g (read_report header text)))
  pub within : IfOk result (λ verdict. IfSome behind (λ text.
      event_for limits.bytes given verdict text ≡ None))
  pub read : IfOk result (λ verdict. verdict ≡ Confirmed → IfSome behind (λ _. after ≡ Some []))
  pub counted : IfOk result (λ verdict. verdict ≡ Confirmed → IfSome behind (λ text.
      FirstTakes steps_before steps_after
      (gathers_of job.program job.engine g (read_report header text))))
  pub event : IfErr result (λ error. IfSome behind (λ text. IsEventOf
      (event_for limits.bytes given (job_verdict job g (read_report header text)) text) error))
  pub fault : IsErrOf result ReadFault → HasRisen faults_before faults_after
  pub later : faults_before ≤ faults_after
  pub present : ArePresent steps_after
