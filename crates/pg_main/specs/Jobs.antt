-- What a job computes on the graph of its text, and what is said of its output.
use Rattle.std.specs.Prelude.{◌≡◌, ℕ, List, Option, Some, None, IfSome, if◌then◌else◌}
use Rattle.std.specs.List.{list_any}
use Rattle.std.specs.Prelude.{◌==◌}
use Rattle.std.specs.Io.KnownBytes.{append_known}
use Rattle.pg_base.specs.declared.limits.Limits.{Limits}
use Rattle.pg_base.specs.Writing.{SendsFront}
use Rattle.pg_graph.specs.Multigraph.{Multigraph}
use Rattle.pg_input.specs.Reading.{IsGraphOfText, first_event}
use Rattle.pg_law.specs.declared.values.End.{End}
use Rattle.pg_law.specs.declared.values.JournalEntry.{JournalEntry}
use Rattle.pg_words.specs.Names.{Word}
use Rattle.pg_words.specs.Reading.{job_of}
use Rattle.pg_words.specs.declared.job.Job.{Job}
use Rattle.pg_words.specs.declared.job.Job.TheVariants as job
use Rattle.pg_words.specs.declared.job.ProgramName.{ProgramName}
use Rattle.pg_words.specs.declared.job.ProgramName.TheVariants.{Components, Colour, Sssp, Rank, Tree}
use Rattle.pg_words.specs.declared.job.CutJob.{CutJob}
use Rattle.pg_words.specs.declared.job.RunJob.{RunJob}
use Rattle.pg_main.specs.Counters.{Counted}
use Rattle.pg_main.specs.Cuts.{job_gathers}
use Rattle.pg_main.specs.CutTexts.{job_cut_text}
use Rattle.pg_main.specs.Meanings.{Means}
use Rattle.pg_check.specs.Outcomes.{Outcome, HasJournalOf, left_of, kept_text}
use Rattle.pg_main.specs.Ways.{is_kept}

-- what a job leaves on a graph by a journal, and its report
abbrev pub job_outcome : RunJob → Multigraph → List JournalEntry → Outcome
job_outcome job g journal = left_of job.program job.engine (is_kept job) g journal

abbrev pub job_text : RunJob → Multigraph → List JournalEntry → List ℕ
job_text job g journal = kept_text job.program job.engine (is_kept job) g journal

-- the journal is one of the job: that of the serial machine, or of actors any legal one that fits the fuel
abbrev pub IsJournal : RunJob → Multigraph → List JournalEntry → Type 0
IsJournal job g journal = HasJournalOf job.program job.engine g journal

-- the id at which the paths of the program begin, where it has one
abbrev pub source_of : ProgramName → Option ℕ
source_of Components = None
source_of Colour = None
source_of (Sssp source) = Some source
source_of (Rank tolerance) = None
source_of (Tree source) = Some source

-- this id, where the graph has no such vertex
abbrev pub absent_in : Multigraph → Option ℕ → Option ℕ
absent_in g None = None
absent_in g (Some source) = if list_any (λ id. source == id) g.ids then None else Some source

abbrev pub absent_source : RunJob → Multigraph → Option ℕ
absent_source job g = absent_in g (source_of job.program)

-- what was appended is the report of the text's graph by a journal of the job, the run ended so, and each
-- worker's counter took as many steps as the worker gathered
pub record IsReported (limits : Limits) (before after : Option (List ℕ)) (steps_before steps_after : List (Option ℕ)) (end : End) (job : RunJob) (text : List ℕ) : Type 0 where
  pub graph : Multigraph
  pub accepted : first_event job.format limits text ≡ None
  pub graph_of : IsGraphOfText job.format limits text graph
  pub source : absent_source job graph ≡ None
  pub journal : List JournalEntry
  pub is_journal : IsJournal job graph journal
  pub ended : (job_outcome job graph journal).last.end ≡ end
  pub appended : after ≡ append_known before (job_text job graph journal)
  pub counted : Counted job.engine steps_before steps_after (job_gathers job graph)

-- what was appended is the report of the text's graph, and its values mean what the program is for
pub record IsMeant (limits : Limits) (before after : Option (List ℕ)) (job : RunJob) (text : List ℕ) : Type 0 where
  pub graph : Multigraph
  pub graph_of : IsGraphOfText job.format limits text graph
  pub journal : List JournalEntry
  pub is_journal : IsJournal job graph journal
  pub appended : after ≡ append_known before (job_text job graph journal)
  pub meaning : Means job.program graph (job_outcome job graph journal).state.values

-- what was appended is a front of the report of the text's graph
pub record IsReportedInPart (limits : Limits) (before after : Option (List ℕ)) (job : RunJob) (text : List ℕ) : Type 0 where
  pub graph : Multigraph
  pub accepted : first_event job.format limits text ≡ None
  pub graph_of : IsGraphOfText job.format limits text graph
  pub source : absent_source job graph ≡ None
  pub journal : List JournalEntry
  pub is_journal : IsJournal job graph journal
  pub front : SendsFront before after (job_text job graph journal)

-- the text is accepted, and its graph has no vertex of this id, which the job names
pub record IsAbsent (limits : Limits) (id : ℕ) (job : RunJob) (text : List ℕ) : Type 0 where
  pub graph : Multigraph
  pub accepted : first_event job.format limits text ≡ None
  pub graph_of : IsGraphOfText job.format limits text graph
  pub absent : absent_source job graph ≡ Some id

-- what was appended is the text of the cut of the text's graph
pub record IsDivided (limits : Limits) (before after : Option (List ℕ)) (job : CutJob) (text : List ℕ) : Type 0 where
  pub graph : Multigraph
  pub accepted : first_event job.format limits text ≡ None
  pub graph_of : IsGraphOfText job.format limits text graph
  pub appended : after ≡ append_known before (job_cut_text job graph)

-- what was appended is a front of that text
pub record IsDividedInPart (limits : Limits) (before after : Option (List ℕ)) (job : CutJob) (text : List ℕ) : Type 0 where
  pub graph : Multigraph
  pub accepted : first_event job.format limits text ≡ None
  pub graph_of : IsGraphOfText job.format limits text graph
  pub front : SendsFront before after (job_cut_text job graph)

-- what holds of a run and its text, where the text is told; the job is of no other kind
abbrev pub RunHas : Job → Option (List ℕ) → (RunJob → List ℕ → Type 0) → Type 0
RunHas (job.Run run) left P = IfSome left (P run)
RunHas (job.Check run) left P = ⊥
RunHas (job.Cut cut) left P = ⊥

-- the same of a check
abbrev pub CheckHas : Job → Option (List ℕ) → (RunJob → List ℕ → Type 0) → Type 0
CheckHas (job.Run run) left P = ⊥
CheckHas (job.Check run) left P = IfSome left (P run)
CheckHas (job.Cut cut) left P = ⊥

-- and of a cut
abbrev pub CutHas : Job → Option (List ℕ) → (CutJob → List ℕ → Type 0) → Type 0
CutHas (job.Run run) left P = ⊥
CutHas (job.Check run) left P = ⊥
CutHas (job.Cut cut) left P = IfSome left (P cut)

-- what holds of a run, of a check, or of a cut, and its text
abbrev pub JobHas : Job → Option (List ℕ) → (RunJob → List ℕ → Type 0) → (RunJob → List ℕ → Type 0)
    → (CutJob → List ℕ → Type 0) → Type 0
JobHas (job.Run run) left P Q R = IfSome left (P run)
JobHas (job.Check run) left P Q R = IfSome left (Q run)
JobHas (job.Cut cut) left P Q R = IfSome left (R cut)

-- the same of the job that the words name
abbrev pub OfRun : List Word → Option (List ℕ) → (RunJob → List ℕ → Type 0) → Type 0
OfRun words left P = IfSome (job_of words) (λ job. RunHas job left P)

abbrev pub OfCheck : List Word → Option (List ℕ) → (RunJob → List ℕ → Type 0) → Type 0
OfCheck words left P = IfSome (job_of words) (λ job. CheckHas job left P)

abbrev pub OfCut : List Word → Option (List ℕ) → (CutJob → List ℕ → Type 0) → Type 0
OfCut words left P = IfSome (job_of words) (λ job. CutHas job left P)

abbrev pub OfJob : List Word → Option (List ℕ) → (RunJob → List ℕ → Type 0)
    → (RunJob → List ℕ → Type 0) → (CutJob → List ℕ → Type 0) → Type 0
OfJob words left P Q R = IfSome (job_of words) (λ job. JobHas job left P Q R)
