-- The reports that are right for a job, by what a run may leave, and that a check confirms these
-- alone.
use Rattle.std.specs.Prelude.{◌≡◌, ℕ, Bool, All, List, [], ◌++◌, map}
use Rattle.pg_graph.specs.Multigraph.{Multigraph, IsMultigraph}
use Rattle.pg_input.specs.Texts.{lines}
use Rattle.pg_law.specs.declared.values.JournalEntry.{JournalEntry}
use Rattle.pg_law.specs.Configuration.{start_state}
use Rattle.pg_law.specs.Journal.{IsLegal, FitsFuel}
use Rattle.pg_law.specs.Program.{Program}
use Rattle.pg_report.specs.Lines.{IsLine}
use Rattle.pg_report.specs.declared.line.ReportLine.{ReportLine}
use Rattle.pg_words.specs.Programs.{is_wide}
use Rattle.pg_words.specs.declared.job.Engine.{Engine}
use Rattle.pg_words.specs.declared.job.Engine.TheVariants.{Sync, Serial, Virtual}
use Rattle.pg_words.specs.declared.job.ProgramName.{ProgramName}
use Rattle.pg_check.specs.Outcomes.{Outcome, left_by, engine_name, text_of}
use Rattle.pg_check.specs.Reports.{read_line, entry_row, head_lines, tail_lines}
use Rattle.pg_check.specs.Verdicts.{verdict_by}
use Rattle.pg_check.specs.declared.verdict.Verdict.{Verdict}
use Rattle.pg_check.specs.declared.verdict.Verdict.TheVariants.{Confirmed}

-- the lines of the report of a run
abbrev pub report_lines : ProgramName → Engine → Multigraph → Outcome → List ReportLine
report_lines name engine g outcome =
    head_lines (engine_name engine) name g
    ++ (map (entry_row (is_wide name) g) outcome.journal
    ++ tail_lines name g outcome.state outcome.last)

module _ {Acc Carry : Type 0} (p : Program Acc Carry) (g : Multigraph) where
  -- a legal journal that fits the fuel, and what it leaves
  pub record IsReplayed (engine : Engine) (fuel : ℕ) (kept : Bool) (outcome : Outcome) : Type 0 where
    pub journal : List JournalEntry
    pub legal : IsLegal p g (start_state p g) journal
    pub fits : FitsFuel p g (start_state p g) journal fuel
    pub outcome_is : outcome ≡ left_by p g engine kept journal

  -- what a run of an engine may leave, where gathers are kept or not: the rounds, or the replay of any
  -- legal journal that fits the fuel
  abbrev pub IsOutcome : Engine → Bool → Outcome → Type 0
  IsOutcome (Sync limit) kept outcome = outcome ≡ left_by p g (Sync limit) kept []
  IsOutcome (Serial fuel) kept outcome = IsReplayed (Serial fuel) fuel kept outcome
  IsOutcome (Virtual fuel seed) kept outcome = IsReplayed (Virtual fuel seed) fuel kept outcome

module _ {Acc Carry : Type 0} (p : Program Acc Carry) (name : ProgramName) (g : Multigraph) where
  -- a text is the report of what a run may leave
  pub record IsRightText (engine : Engine) (kept : Bool) (text : List ℕ) : Type 0 where
    pub outcome : Outcome
    pub left : IsOutcome p g engine kept outcome
    pub text_is : text ≡ text_of name engine g outcome

  -- what a check finds of a text that begins with a header
  abbrev pub finds : Engine → Bool → List ℕ → Verdict
  finds engine kept text = verdict_by p name g engine kept (map read_line (lines text))

module _ {Acc Carry : Type 0} (p : Program Acc Carry) where
  -- each report of what a run may leave is confirmed, where its numbers have room in their fields
  abbrev pub ConfirmsRight : Type 0
  ConfirmsRight = (name : ProgramName) (engine : Engine) (kept : Bool) (g : Multigraph)
      (outcome : Outcome) → IsMultigraph g → IsOutcome p g engine kept outcome
      → All IsLine (report_lines name engine g outcome)
      → finds p name g engine kept (text_of name engine g outcome) ≡ Confirmed

  -- what is confirmed is the report of what a run may leave
  abbrev pub ConfirmedIsRight : Type 0
  ConfirmedIsRight = (name : ProgramName) (engine : Engine) (kept : Bool) (g : Multigraph)
      (text : List ℕ) → finds p name g engine kept text ≡ Confirmed
      → IsRightText p name g engine kept text
