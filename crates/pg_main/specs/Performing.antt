-- What doing a job does to the outside, and what it answers.
use Rattle.std.specs.Prelude.{◌≡◌, ℕ, ◌⊎◌, Bool, true, List, [], Option, Some, IfSome}
use Rattle.pg_base.specs.declared.limits.Limits.{Limits}
use Rattle.pg_base.specs.Faults.{HasRisen}
use Rattle.pg_readers.specs.declared.line.BadLine.{BadLine}
use Rattle.pg_input.specs.Reading.{first_event}
use Rattle.pg_input.specs.declared.error.InputError.TheVariants as input
use Rattle.pg_input.specs.declared.error.Which.{Which}
use Rattle.pg_law.specs.declared.values.End.{End}
use Rattle.pg_words.specs.declared.job.Job.{Job}
use Rattle.pg_check.specs.declared.verdict.Verdict.TheVariants as verdict
use Rattle.pg_main.specs.Checks.{event_before, IsJudged, IsConfirmed, IsConfirmedInPart, IsAbsentBefore, IsEventIn}
use Rattle.pg_main.specs.Counters.{ArePresent}
use Rattle.pg_main.specs.Jobs.{IsReported, IsMeant, IsReportedInPart, IsAbsent, IsDivided, IsDividedInPart}
use Rattle.pg_main.specs.Jobs.{RunHas, CheckHas, CutHas, JobHas}
use Rattle.pg_main.specs.Statuses.{status_of_end, IsDone, KeepsOut, IsAnswer, IsCheckAnswer, IsCutAnswer}
use Rattle.pg_main.specs.declared.status.Status.{Status}
use Rattle.pg_main.specs.declared.status.Status.TheVariants as status

-- what input, output and counters show: the bytes still to come and those that were written, where they are
-- told, how many reads and writes failed, whether the output is finished
pub record Outside : Type 0 where
  pub left : Option (List ℕ)
  pub reads : ℕ
  pub written : Option (List ℕ)
  pub writes : ℕ
  pub is_finished : Bool
  pub steps : List (Option ℕ)

abbrev pub outside : Option (List ℕ) → ℕ → Option (List ℕ) → ℕ → Bool → List (Option ℕ) → Outside
outside left reads written writes is_finished steps = record {
  left = left;
  reads = reads;
  written = written;
  writes = writes;
  is_finished = is_finished;
  steps = steps;
}

-- the job was done on what was before, or refused; each field is the clause of the top call with its name
pub record Performs (limits : Limits) (job : Job) (before after : Outside) (s : Status) : Type 0 where
  pub reported : (end : End) → s ≡ status_of_end end → RunHas job before.left
      (IsReported limits before.written after.written before.steps after.steps end)
  pub meant : s ≡ status.Quiescent → RunHas job before.left
      (IsMeant limits before.written after.written)
  pub confirmed : s ≡ status.Confirmed → CheckHas job before.left
      (IsConfirmed limits before.written after.written before.steps after.steps)
  pub rejected : (line : ℕ) → s ≡ status.Rejected line → CheckHas job before.left
      (IsJudged limits (verdict.Rejected line))
  pub divided : s ≡ status.Reported → CutHas job before.left
      (IsDivided limits before.written after.written)
  pub finished : IsDone s → after.is_finished ≡ true
  pub read : IsDone s → IfSome before.left (λ _. after.left ≡ Some [])
  pub usage : (place : ℕ) → s ≡ status.Usage place → ⊥
  pub text : (line : ℕ) (kind : BadLine) → s ≡ status.Text line kind → JobHas job before.left
      (λ run text. first_event run.format limits text ≡ Some (input.Line line kind))
      (λ run text. event_before run.format limits text ≡ Some (input.Line line kind))
      (λ cut text. first_event cut.format limits text ≡ Some (input.Line line kind))
  pub limit : (which : Which) (limit : ℕ) → s ≡ status.Limit which limit → JobHas job before.left
      (λ run text. first_event run.format limits text ≡ Some (input.Limit which limit))
      (IsEventIn limits (input.Limit which limit))
      (λ cut text. first_event cut.format limits text ≡ Some (input.Limit which limit))
  pub no_vertex : (id : ℕ) → s ≡ status.NoVertex id → JobHas job before.left
      (IsAbsent limits id) (IsAbsentBefore limits id) (λ cut text. ⊥)
  pub read_fault : s ≡ status.ReadFault → HasRisen before.reads after.reads
  pub write_fault : s ≡ status.WriteFault → HasRisen before.writes after.writes
  pub complete : (HasRisen before.reads after.reads → ⊥) → (HasRisen before.writes after.writes → ⊥)
      → JobHas job before.left (IsAnswer limits s) (IsCheckAnswer limits s)
      (IsCutAnswer limits s)
  pub kept : KeepsOut s → after.written ≡ before.written
  pub front : s ≡ status.WriteFault → JobHas job before.left
      (IsReportedInPart limits before.written after.written)
      (IsConfirmedInPart limits before.written after.written)
      (IsDividedInPart limits before.written after.written)
  pub memory : s ≡ status.Memory → JobHas job before.left
      (λ run text. (after.written ≡ before.written)
      ⊎ IsReportedInPart limits before.written after.written run text)
      (λ run text. after.written ≡ before.written)
      (λ cut text. (after.written ≡ before.written)
      ⊎ IsDividedInPart limits before.written after.written cut text)
  pub present : ArePresent after.steps
