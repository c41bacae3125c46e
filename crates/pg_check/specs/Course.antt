-- What a check still expects of a report whose first lines it has read.
use Rattle.std.specs.Prelude.{◌≡◌, ℕ, ◌+◌, ◌-◌, ◌*◌, ◌^◌, ◌<◌, ◌≤◌, ◌==◌, ◌||◌, Bool, true, false, cond, List, [], ◌∷◌, ◌++◌, length, drop, filter, sum_by, Option, Some, None, IsSome, slice_index, slice_index_or, if◌then◌else◌}
use Rattle.std.specs.List.{flat_map}
use Rattle.pg_graph.specs.Multigraph.{Multigraph, vertices}
use Rattle.pg_law.specs.declared.values.JournalEntry.{JournalEntry}
use Rattle.pg_law.specs.Configuration.{Configuration, message_in, is_quiet, IsFit}
use Rattle.pg_law.specs.Journal.{replay}
use Rattle.pg_law.specs.Program.{Program}
use Rattle.pg_law.specs.Round.{execution}
use Rattle.pg_law.specs.Rounds.{end_of}
use Rattle.pg_report.specs.Report.{counts_line}
use Rattle.pg_report.specs.declared.line.LastLine.{LastLine}
use Rattle.pg_report.specs.declared.line.ReportLine.{ReportLine}
use Rattle.pg_report.specs.declared.line.ReportLine.TheVariants as line
use Rattle.pg_serial.specs.Distinct.{has_entry}
use Rattle.pg_serial.specs.Journals.{gathers_over, gather_degree}
use Rattle.pg_serial.specs.Serial.{entry_of}
use Rattle.pg_words.specs.Programs.{is_wide}
use Rattle.pg_words.specs.declared.job.Engine.{Engine}
use Rattle.pg_words.specs.declared.job.Engine.TheVariants.{Sync, Serial, Virtual}
use Rattle.pg_words.specs.declared.job.ProgramName.{ProgramName}
use Rattle.pg_check.specs.Reports.{ReadLine, has_text, value_lines, message_lines, tail_lines}
use Rattle.pg_check.specs.Verdicts.{Judge, ends, expects, journal_in}
use Rattle.pg_check.specs.declared.course.Course.{Course}
use Rattle.pg_check.specs.declared.entry.Found.{Found}
use Rattle.pg_check.specs.declared.entry.Found.TheVariants.{Entry, WrongEntry, Other}
use Rattle.pg_check.specs.declared.place.Place.{Place}
use Rattle.pg_check.specs.declared.place.Tally.{Tally}
use Rattle.pg_check.specs.declared.place.Place.TheVariants.{Counts, Journal, Tail}
use Rattle.pg_check.specs.declared.tail.TailPlace.{TailPlace}
use Rattle.pg_check.specs.declared.tail.TailPlace.TheVariants.{Value, Signal, Last, End}
use Rattle.pg_check.specs.declared.verdict.Verdict.{Verdict}
use Rattle.pg_check.specs.declared.verdict.Verdict.TheVariants.{Confirmed, Rejected}

-- how a run of executions ended, and what it took
abbrev pub last_of : Multigraph → Configuration → ℕ → ℕ → LastLine
last_of g s executions gathers =
    record { end = end_of g s; rounds = None; executions = executions; gathers = gathers }

-- the signals from a vertex on, and the last line
abbrev pub signals_from : Multigraph → Configuration → LastLine → ℕ → List ReportLine
signals_from g s last v =
    flat_map (λ u. message_lines (slice_index g.ids u) (message_in s.messages u))
    (drop v (vertices g))
    ++ line.Last last ∷ []

-- the values from a vertex on, and all behind them
abbrev pub values_from : ProgramName → Multigraph → Configuration → LastLine → ℕ → List ReportLine
values_from name g s last v =
    drop v (value_lines (is_wide name) g s) ++ signals_from g s last 0

-- the lines from a place on
abbrev pub lines_from : ProgramName → Multigraph → Configuration → LastLine → TailPlace
    → List ReportLine
lines_from name g s last (Value v) = values_from name g s last v
lines_from name g s last (Signal v message) =
    line.Signal (slice_index g.ids v) message ∷ signals_from g s last (v + 1)
lines_from name g s last Last = line.Last last ∷ []
lines_from name g s last End = []

-- a place of a vertex of the graph
abbrev pub IsTailPlace : Multigraph → TailPlace → Type 0
IsTailPlace g (Value v) = v < length g.ids
IsTailPlace g (Signal v message) = v < length g.ids
IsTailPlace g Last = Unit {0}
IsTailPlace g End = Unit {0}

-- entries and fuel are less than 2 ^ 32, and each entry gathers over 2 ^ 24 edges at most
pub record IsTally (tally : Tally) : Type 0 where
  pub few : tally.executions + tally.left < 2 ^ 32
  pub gathers : tally.gathers ≤ tally.executions * 2 ^ 24

abbrev pub IsPlace : Multigraph → Place → Type 0
IsPlace g Counts = Unit {0}
IsPlace g (Journal tally) = IsTally tally
IsPlace g (Tail at) = IsTailPlace g at

-- no entry yet, and one more
abbrev pub full : ℕ → Tally
full fuel = record { left = fuel; executions = 0; gathers = 0 }

abbrev pub with_entry : Tally → ℕ → Tally
with_entry tally gathers = record {
  left = tally.left - 1;
  executions = tally.executions + 1;
  gathers = tally.gathers + gathers;
}

-- a course at another place
abbrev pub at_place : Course → Place → Course
at_place c place = record c { place = place }

-- what is noted, where each vertex counts once, behind an execution: its vertex besides
abbrev pub AreNoted : Multigraph → Bool → List Bool → List Bool → ℕ → Type 0
AreNoted g kept old new u = kept ≡ true → (v : ℕ) → v < length g.ids
    → slice_index_or new v false ≡ (slice_index_or old v false || (u == v))

-- a line, where there is one, and those behind it
abbrev pub with_line : Option ReadLine → List ReadLine → List ReadLine
with_line None lines = []
with_line (Some line) lines = line ∷ lines

-- whether a line is there and has this text
abbrev pub stands : List ℕ → Option ReadLine → Bool
stands text None = false
stands text (Some line) = has_text text line

module _ {Acc Carry : Type 0} (p : Program Acc Carry) (g : Multigraph) where
  -- how many gathers are told, where these vertices were noted and so many gathers were made, and these
  -- entries follow: where gathers are kept, those of the distinct vertices
  abbrev pub told_gathers : Bool → List Bool → ℕ → List JournalEntry → ℕ
  told_gathers kept noted gathers more = cond kept
      (sum_by (gather_degree p g)
      (filter (λ v. slice_index_or noted v false || has_entry more v) (vertices g)))
      (gathers + gathers_over p g more)

module _ {Acc Carry : Type 0} (p : Program Acc Carry) (name : ProgramName) (g : Multigraph) where
  -- the rest of a journal from a state on, with so much fuel left, and the rest of the report, which
  -- tells these executions and gathers besides
  abbrev pub replays_from : Bool → List Bool → Configuration → Tally → Judge
  replays_from kept noted s tally number lines =
      let more = journal_in p name g s tally.left lines in
      let now = replay p g s more in
      if is_quiet g now || (length more == tally.left)
      then expects
      (tail_lines name g now
      (last_of g now (tally.executions + length more)
      (told_gathers p g kept noted tally.gathers more)))
      ends (number + length more) (drop (length more) lines)
      else Rejected (number + length more)

  abbrev pub behind_counts : Engine → Bool → Course → Judge
  behind_counts (Sync limit) kept c = expects (tail_lines name g c.state c.last) ends
  behind_counts (Serial fuel) kept c = replays_from kept c.noted.items c.state (full fuel)
  behind_counts (Virtual fuel seed) kept c = replays_from kept c.noted.items c.state (full fuel)

  -- what is expected from a place on, where gathers are kept or not
  abbrev pub expects_from : Engine → Bool → Course → Place → Judge
  expects_from engine kept c Counts = expects (counts_line g ∷ []) (behind_counts engine kept c)
  expects_from engine kept c (Journal tally) = replays_from kept c.noted.items c.state tally
  expects_from engine kept c (Tail at) = expects (lines_from name g c.state c.last at) ends

  -- how many edges the run gathers over, by the lines from a place on
  abbrev pub gathers_behind : Engine → Course → List ReadLine → ℕ
  gathers_behind (Sync limit) c lines = c.made
  gathers_behind (Serial fuel) c lines = gathers_over p g (journal_in p name g c.state fuel lines)
  gathers_behind (Virtual fuel seed) c lines =
      gathers_over p g (journal_in p name g c.state fuel lines)

  abbrev pub gathers_from : Engine → Course → Place → List ReadLine → ℕ
  gathers_from engine c Counts lines = gathers_behind engine c (drop 1 lines)
  gathers_from engine c (Journal tally) lines =
      tally.gathers + gathers_over p g (journal_in p name g c.state tally.left lines)
  gathers_from engine c (Tail at) lines = c.made

  -- and how many were made
  abbrev pub gathers_made : Engine → Course → Place → ℕ
  gathers_made (Sync limit) c Counts = c.made
  gathers_made (Serial fuel) c Counts = 0
  gathers_made (Virtual fuel seed) c Counts = 0
  gathers_made engine c (Journal tally) = tally.gathers
  gathers_made engine c (Tail at) = c.made

  -- what a line is, where so much fuel is left: the entry of an execution; an entry that isn't that of
  -- its execution, although there is one; or another line, or none
  pub record IsEntry (old new : Configuration) (left : ℕ) (line : Option ReadLine)
      (vertex gathers : ℕ) : Type 0 where
    pub within : vertex < length g.ids
    pub some : 0 < left
    pub there : IsSome line
    pub executed : new ≡ execution p g old vertex
    pub entries : (lines : List ReadLine) → journal_in p name g old left (with_line line lines)
        ≡ entry_of p g old vertex ∷ journal_in p name g new (left - 1) lines
    pub degree : gathers ≡ gather_degree p g vertex
    pub few : gathers ≤ 2 ^ 24

  pub record IsNoEntry (old : Configuration) (left : ℕ) (line : Option ReadLine) : Type 0 where
    pub none : (lines : List ReadLine) → journal_in p name g old left (with_line line lines) ≡ []

  pub record IsWrongEntry (old : Configuration) (left : ℕ) (line : Option ReadLine) : Type 0 where
    pub none : (lines : List ReadLine) → journal_in p name g old left (with_line line lines) ≡ []
    pub some : 0 < left
    pub signalled : is_quiet g old ≡ false

  abbrev pub IsFound : Configuration → Configuration → ℕ → ℕ → ℕ → Option ReadLine → Found → Type 0
  IsFound old new steps_old steps_new left line (Entry vertex gathers) =
      IsEntry old new left line vertex gathers × (steps_new ≡ steps_old + gathers)
  IsFound old new steps_old steps_new left line WrongEntry =
      IsWrongEntry old left line × (steps_old ≤ steps_new)
  IsFound old new steps_old steps_new left line Other =
      IsNoEntry old left line × (new ≡ old) × (steps_new ≡ steps_old)

  -- a course whose numbers are in their ranges; where gathers are kept, each vertex has a mark
  pub record IsCourse (kept : Bool) (c : Course) : Type 0 where
    pub fit : IsFit p g c.state
    pub place : IsPlace g c.place
    pub marks : kept ≡ true → length c.noted.items ≡ length g.ids

  -- a line was taken, and the course goes on behind it
  pub record GoesOn (engine : Engine) (kept : Bool) (old new : Course) (steps_old steps_new : ℕ)
      (line : Option ReadLine) (number : ℕ) : Type 0 where
    pub there : IsSome line
    pub course : IsCourse kept new
    pub verdict : (lines : List ReadLine)
        → expects_from engine kept old old.place number (with_line line lines)
        ≡ expects_from engine kept new new.place (number + 1) lines
    pub gathers : (lines : List ReadLine)
        → gathers_from engine old old.place (with_line line lines)
        ≡ gathers_from engine new new.place lines
    pub steps : steps_new + gathers_made engine old old.place
        ≡ steps_old + gathers_made engine new new.place

  -- the report ends, and is right
  pub record IsConfirmed (engine : Engine) (kept : Bool) (old : Course) (steps_old steps_new : ℕ)
      (line : Option ReadLine) (number : ℕ) : Type 0 where
    pub none : line ≡ None
    pub verdict : expects_from engine kept old old.place number [] ≡ Confirmed
    pub gathers : gathers_from engine old old.place [] ≡ gathers_made engine old old.place
    pub steps : steps_new ≡ steps_old

  -- the line is wrong, or missing
  pub record IsRejected (engine : Engine) (kept : Bool) (old : Course) (steps_old steps_new : ℕ)
      (line : Option ReadLine) (number rejected : ℕ) : Type 0 where
    pub steps : steps_old ≤ steps_new
    pub here : rejected ≡ number
    pub verdict : (lines : List ReadLine)
        → expects_from engine kept old old.place number (with_line line lines) ≡ Rejected number

  -- what a course makes of the line with this number, or of the end of the report there
  abbrev pub IsTaken : Engine → Bool → Course → Course → ℕ → ℕ → Option ReadLine → ℕ
      → Option Verdict → Type 0
  IsTaken engine kept old new steps_old steps_new line number None =
      GoesOn engine kept old new steps_old steps_new line number
  IsTaken engine kept old new steps_old steps_new line number (Some Confirmed) =
      IsConfirmed engine kept old steps_old steps_new line number
  IsTaken engine kept old new steps_old steps_new line number (Some (Rejected rejected)) =
      IsRejected engine kept old steps_old steps_new line number rejected
