-- Whether a report is right for its job, or its first line that is wrong. Lines are numbered from the
-- header, which is line 1.
use Rattle.std.specs.Prelude.{ℕ, zero, suc, ◌+◌, ◌-◌, ◌==◌, Bool, ◌||◌, ◌&&◌, nat_lt, List, [], ◌∷◌, length, take, drop, Option, Some, None, if◌then◌else◌}
use Rattle.std.specs.List.{find}
use Rattle.pg_graph.specs.Multigraph.{Multigraph}
use Rattle.pg_input.specs.Texts.{TextLine, lines, width}
use Rattle.pg_input.specs.declared.error.InputError.{InputError}
use Rattle.pg_input.specs.declared.error.InputError.TheVariants.{Limit}
use Rattle.pg_input.specs.declared.error.Which.TheVariants.{Bytes}
use Rattle.pg_law.specs.declared.values.JournalEntry.{JournalEntry}
use Rattle.pg_law.specs.Configuration.{Configuration, start_state, signalled, is_quiet}
use Rattle.pg_law.specs.Program.{Program}
use Rattle.pg_law.specs.Round.{execution}
use Rattle.pg_law.specs.Rounds.{rounds}
use Rattle.pg_colour.specs.Colouring.{colouring}
use Rattle.pg_paths.specs.Components.{components}
use Rattle.pg_paths.specs.ShortestPaths.{shortest_paths}
use Rattle.pg_paths.specs.Trees.{tree}
use Rattle.pg_rank.specs.PageRank.{page_rank}
use Rattle.pg_report.specs.Lines.{line_text}
use Rattle.pg_report.specs.declared.line.ReportLine.{ReportLine}
use Rattle.pg_serial.specs.Journals.{gathers_over}
use Rattle.pg_serial.specs.Serial.{entry_of, entries_from}
use Rattle.pg_words.specs.Programs.{is_wide, keeps}
use Rattle.pg_words.specs.declared.job.Engine.{Engine}
use Rattle.pg_words.specs.declared.job.Engine.TheVariants.{Sync, Serial, Virtual}
use Rattle.pg_words.specs.declared.job.ProgramName.{ProgramName}
use Rattle.pg_words.specs.declared.job.ProgramName.TheVariants.{Components, Colour, Sssp, Rank, Tree}
use Rattle.pg_words.specs.declared.job.RunJob.{RunJob}
use Rattle.pg_check.specs.Outcomes.{Outcome, left_by, engine_name}
use Rattle.pg_check.specs.Reports.{ReadLine, has_text, entry_row, head_lines, tail_lines}
use Rattle.pg_check.specs.declared.verdict.Verdict.{Verdict}
use Rattle.pg_check.specs.declared.verdict.Verdict.TheVariants.{Confirmed, Rejected}

-- what is said of lines, of which the first has this number
abbrev pub Judge : Type 0
Judge = ℕ → List ReadLine → Verdict

-- no line is left
abbrev pub ends : Judge
ends number [] = Confirmed
ends number (line ∷ lines) = Rejected number

-- these lines stand first, and the others are judged so; the first that is missing or another is
-- rejected
abbrev pub expects : List ReportLine → Judge → Judge
expects [] others number lines = others number lines
expects (expected ∷ more) others number [] = Rejected number
expects (expected ∷ more) others number (line ∷ lines) =
    if has_text (line_text expected) line then expects more others (number + 1) lines
    else Rejected number

module _ {Acc Carry : Type 0} (p : Program Acc Carry) (name : ProgramName) (g : Multigraph) where
  -- the signalled vertex whose execution has this line as its entry
  abbrev pub vertex_of : Configuration → ReadLine → Option ℕ
  vertex_of s line =
      find (λ u. has_text (line_text (entry_row (is_wide name) g (entry_of p g s u))) line)
      (signalled g s)

  -- the longest legal journal within the fuel whose entries are the first of these lines
  unfoldable pub journal_in : Configuration → ℕ → List ReadLine → List JournalEntry
  journal_in s zero lines = []
  journal_in s (suc fuel) [] = []
  journal_in s (suc fuel) (line ∷ lines) =
      entries_from p g s (vertex_of s line) (λ u. journal_in (execution p g s u) fuel lines)

  -- a journal that leaves nothing signalled or spends the fuel is followed by the rest of its report;
  -- behind another one more entry is missing
  abbrev pub completes : ℕ → Outcome → Judge
  completes fuel outcome number lines =
      if is_quiet g outcome.state || (length outcome.journal == fuel)
      then expects (tail_lines name g outcome.state outcome.last) ends number lines
      else Rejected number

  -- the lines of a journal, and those behind it; a line that begins as an entry and is none of the
  -- journal's is no line of the rest either
  abbrev pub replays : Engine → ℕ → Bool → Judge
  replays engine fuel kept number lines =
      let journal = journal_in (start_state p g) fuel lines in
      completes fuel (left_by p g engine kept journal) (number + length journal)
      (drop (length journal) lines)

  -- what is expected behind the counts, where gathers are kept or not: of rounds the one right text, of
  -- executions that of a legal journal that fits the fuel
  abbrev pub judges : Engine → Bool → Judge
  judges (Sync limit) kept =
      let outcome = left_by p g (Sync limit) kept [] in
      expects (tail_lines name g outcome.state outcome.last) ends
  judges (Serial fuel) kept = replays (Serial fuel) fuel kept
  judges (Virtual fuel seed) kept = replays (Virtual fuel seed) fuel kept

  -- what a check finds of a report
  abbrev pub verdict_by : Engine → Bool → List ReadLine → Verdict
  verdict_by engine kept lines =
      expects (head_lines (engine_name engine) name g) (judges engine kept) 1 lines

  -- how many edges the run gathers over whose report this is, each execution anew
  abbrev pub gathers_by : Engine → List ReadLine → ℕ
  gathers_by (Sync limit) lines = (rounds p g (start_state p g) limit).gathers
  gathers_by (Serial fuel) lines =
      gathers_over p g (journal_in (start_state p g) fuel (drop 2 lines))
  gathers_by (Virtual fuel seed) lines =
      gathers_over p g (journal_in (start_state p g) fuel (drop 2 lines))

-- the same of the program with this name
abbrev pub verdict_of : ProgramName → Engine → Bool → Multigraph → List ReadLine → Verdict
verdict_of Components engine kept g = verdict_by components Components g engine kept
verdict_of Colour engine kept g = verdict_by colouring Colour g engine kept
verdict_of (Sssp source) engine kept g =
    verdict_by (shortest_paths source) (Sssp source) g engine kept
verdict_of (Rank tolerance) engine kept g =
    verdict_by (page_rank tolerance) (Rank tolerance) g engine kept
verdict_of (Tree source) engine kept g = verdict_by (tree source) (Tree source) g engine kept

abbrev pub gathers_of : ProgramName → Engine → Multigraph → List ReadLine → ℕ
gathers_of Components engine g = gathers_by components Components g engine
gathers_of Colour engine g = gathers_by colouring Colour g engine
gathers_of (Sssp source) engine g = gathers_by (shortest_paths source) (Sssp source) g engine
gathers_of (Rank tolerance) engine g = gathers_by (page_rank tolerance) (Rank tolerance) g engine
gathers_of (Tree source) engine g = gathers_by (tree source) (Tree source) g engine

-- whether the report of a job is of a run that keeps gathers: the job says so, of a program whose scatters
-- tell how a gather changes
abbrev pub counts_once : RunJob → Bool
counts_once job = keeps job.program && job.cache

-- and of a job
abbrev pub job_verdict : RunJob → Multigraph → List ReadLine → Verdict
job_verdict job g lines = verdict_of job.program job.engine (counts_once job) g lines

-- the lines behind the header that are read for a verdict: all, or those up to the rejected one
abbrev pub lines_for : Verdict → List TextLine → List TextLine
lines_for Confirmed lines = lines
lines_for (Rejected number) lines = take (number - 1) lines

-- the first of these lines whose end lies past the limit of bytes, behind so many bytes
abbrev pub event_in : ℕ → ℕ → List TextLine → Option InputError
event_in limit given [] = None
event_in limit given (line ∷ lines) =
    if nat_lt limit (given + width line) then Some (Limit Bytes limit)
    else event_in limit (given + width line) lines

-- a line of a report that passes the limit, where the header was read already: a line that is read
-- passes it before it is compared
abbrev pub event_for : ℕ → ℕ → Verdict → List ℕ → Option InputError
event_for limit given verdict text = event_in limit given (lines_for verdict (lines text))
