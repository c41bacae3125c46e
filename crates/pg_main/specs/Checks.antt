-- What a check reads, a graph text and then a report, and what is said of it.
use Rattle.std.specs.Prelude.{◌≡◌, ℕ, ◌-◌, ◌⊎◌, List, length, codes, Option, Some, None}
use Rattle.std.specs.Io.KnownBytes.{append_known}
use Rattle.std.specs.Option.{option_map}
use Rattle.pg_base.specs.declared.limits.Limits.{Limits}
use Rattle.pg_base.specs.Writing.{SendsFront}
use Rattle.pg_graph.specs.Building.{IsGraphOf}
use Rattle.pg_graph.specs.Multigraph.{Multigraph}
use Rattle.pg_readers.specs.declared.line.Format.{Format}
use Rattle.pg_input.specs.Reading.{built_until, event_until, stop_of, behind_stop}
use Rattle.pg_input.specs.Texts.{TextLine}
use Rattle.pg_input.specs.declared.error.InputError.{InputError}
use Rattle.pg_input.specs.declared.error.InputError.TheVariants as input
use Rattle.pg_words.specs.declared.job.RunJob.{RunJob}
use Rattle.pg_check.specs.Reports.{ReadLine, read_line, read_report}
use Rattle.pg_check.specs.Verdicts.{job_verdict, gathers_of, event_for}
use Rattle.pg_check.specs.declared.verdict.Verdict.{Verdict}
use Rattle.pg_check.specs.declared.verdict.Verdict.TheVariants.{Confirmed}
use Rattle.pg_main.specs.Counters.{FirstTakes}
use Rattle.pg_main.specs.Jobs.{absent_source}

-- the first line that begins so is the header of the report
abbrev pub report_mark : List ℕ
report_mark = codes "# pgreport "

abbrev pub header_of : List ℕ → Option TextLine
header_of text = stop_of (Some report_mark) text

-- the bytes behind it
abbrev pub behind_header : List ℕ → List ℕ
behind_header text = behind_stop (header_of text)

-- the lines of the report
abbrev pub report_lines : List ℕ → List ReadLine
report_lines text = read_report (option_map read_line (header_of text)) (behind_header text)

-- the graph of the lines before the report
abbrev pub IsGraphBefore : Format → Limits → List ℕ → Multigraph → Type 0
IsGraphBefore format limits text g =
    IsGraphOf (built_until format (Some report_mark) limits text) g

-- the first event of those lines and the header, which may pass the limit of bytes
abbrev pub event_before : Format → Limits → List ℕ → Option InputError
event_before format limits text = event_until format (Some report_mark) limits 0 text

-- the verdict on the report
abbrev pub verdict_on : RunJob → Multigraph → List ℕ → Verdict
verdict_on job g text = job_verdict job g (report_lines text)

-- the event of the report's later lines: one that is read for the verdict passes the limit of bytes
abbrev pub event_behind : RunJob → Limits → Multigraph → List ℕ → Option InputError
event_behind job limits g text = event_for limits.bytes (length text - length (behind_header text))
    (verdict_on job g text) (behind_header text)

-- the graph of an accepted text, which has the source that the job names
pub record IsBase (limits : Limits) (job : RunJob) (text : List ℕ) (graph : Multigraph) : Type 0 where
  pub accepted : event_before job.format limits text ≡ None
  pub graph_of : IsGraphBefore job.format limits text graph
  pub source : absent_source job graph ≡ None

-- the report has this verdict, and no line that is read for it passes the limit
pub record IsJudged (limits : Limits) (verdict : Verdict) (job : RunJob) (text : List ℕ) : Type 0 where
  pub graph : Multigraph
  pub base : IsBase limits job text graph
  pub within : event_behind job limits graph text ≡ None
  pub judged : verdict_on job graph text ≡ verdict

-- what is written of a report that is right
abbrev pub confirmed_text : List ℕ
confirmed_text = codes "confirmed\n"

-- the report is right, that was appended, and the first counter took as many steps as the run gathered
pub record IsConfirmed (limits : Limits) (before after : Option (List ℕ)) (steps_before steps_after : List (Option ℕ)) (job : RunJob) (text : List ℕ) : Type 0 where
  pub graph : Multigraph
  pub base : IsBase limits job text graph
  pub within : event_behind job limits graph text ≡ None
  pub judged : verdict_on job graph text ≡ Confirmed
  pub appended : after ≡ append_known before confirmed_text
  pub counted : FirstTakes steps_before steps_after
      (gathers_of job.program job.engine graph (report_lines text))

-- the report is right, and a front of that was appended
pub record IsConfirmedInPart (limits : Limits) (before after : Option (List ℕ)) (job : RunJob) (text : List ℕ) : Type 0 where
  pub judged : IsJudged limits Confirmed job text
  pub front : SendsFront before after confirmed_text

-- the text before the report is accepted, and its graph has no vertex of this id, which the job names
pub record IsAbsentBefore (limits : Limits) (id : ℕ) (job : RunJob) (text : List ℕ) : Type 0 where
  pub graph : Multigraph
  pub accepted : event_before job.format limits text ≡ None
  pub graph_of : IsGraphBefore job.format limits text graph
  pub absent : absent_source job graph ≡ Some id

-- a later line of the report has this event
pub record IsEventBehind (limits : Limits) (event : InputError) (job : RunJob) (text : List ℕ) : Type 0 where
  pub graph : Multigraph
  pub base : IsBase limits job text graph
  pub behind : event_behind job limits graph text ≡ Some event

-- the first event of the text before the report and of the header, or of a later line
abbrev pub IsEventIn : Limits → InputError → RunJob → List ℕ → Type 0
IsEventIn limits event job text =
    (event_before job.format limits text ≡ Some event) ⊎ IsEventBehind limits event job text

-- an error that tells of the text tells its first event
abbrev pub IsEventOfCheck : Limits → InputError → RunJob → List ℕ → Type 0
IsEventOfCheck limits (input.Line number kind) job text =
    event_before job.format limits text ≡ Some (input.Line number kind)
IsEventOfCheck limits (input.Limit which limit) job text =
    IsEventIn limits (input.Limit which limit) job text
IsEventOfCheck limits input.ReadFault job text = Unit {0}
IsEventOfCheck limits input.Memory job text = Unit {0}
