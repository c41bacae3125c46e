-- What a run of a program leaves, and the text that reports it.
use Rattle.std.specs.Prelude.{◌≡◌, ℕ, Bool, cond, List, [], length, sum_by, Some, None}
use Rattle.pg_graph.specs.Multigraph.{Multigraph}
use Rattle.pg_law.specs.declared.values.JournalEntry.{JournalEntry}
use Rattle.pg_law.specs.Configuration.{Configuration, start_state}
use Rattle.pg_law.specs.Journal.{replay, IsLegal, FitsFuel}
use Rattle.pg_law.specs.Program.{Program}
use Rattle.pg_law.specs.Rounds.{Run, rounds, end_of}
use Rattle.pg_colour.specs.Colouring.{colouring}
use Rattle.pg_paths.specs.Components.{components}
use Rattle.pg_paths.specs.ShortestPaths.{shortest_paths}
use Rattle.pg_paths.specs.Trees.{tree}
use Rattle.pg_rank.specs.PageRank.{page_rank}
use Rattle.pg_rounds.specs.Executed.{executed}
use Rattle.pg_serial.specs.Distinct.{executed_in}
use Rattle.pg_serial.specs.Journals.{gather_degree, gathers_over}
use Rattle.pg_serial.specs.Serial.{serial_journal, IsSerialJournal}
use Rattle.pg_words.specs.declared.job.Engine.{Engine}
use Rattle.pg_words.specs.declared.job.Engine.TheVariants.{Sync, Serial, Virtual}
use Rattle.pg_words.specs.declared.job.ProgramName.{ProgramName}
use Rattle.pg_words.specs.declared.job.ProgramName.TheVariants.{Components, Colour, Sssp, Rank, Tree}
use Rattle.pg_words.specs.declared.names.EngineName.{EngineName}
use Rattle.pg_words.specs.declared.names.EngineName.TheVariants as named
use Rattle.pg_report.specs.declared.line.LastLine.{LastLine}
use Rattle.pg_report.specs.Report.{report_text}

-- what a run leaves: its journal, which rounds don't have, the state, and how it ended
pub record Outcome : Type 0 where
  pub journal : List JournalEntry
  pub state : Configuration
  pub last : LastLine

abbrev pub after_rounds : Multigraph → Run → Outcome
after_rounds g run = record {
  journal = [];
  state = run.state;
  last = record {
    end = end_of g run.state;
    rounds = Some run.rounds;
    executions = run.executions;
    gathers = run.gathers;
  };
}

abbrev pub outcome_with : List JournalEntry → Configuration → LastLine → Outcome
outcome_with journal state last = record { journal = journal; state = state; last = last }

-- the same, but that so many gathers are told, where gathers are kept: nothing else is another then
abbrev pub with_kept : Bool → ℕ → Outcome → Outcome
with_kept kept distinct o = record {
  journal = o.journal;
  state = o.state;
  last = record {
    end = o.last.end;
    rounds = o.last.rounds;
    executions = o.last.executions;
    gathers = cond kept distinct o.last.gathers;
  };
}

module _ {Acc Carry : Type 0} (p : Program Acc Carry) (g : Multigraph) where
  abbrev pub after_journal : List JournalEntry → Outcome
  after_journal journal = record {
    journal = journal;
    state = replay p g (start_state p g) journal;
    last = record {
      end = end_of g (replay p g (start_state p g) journal);
      rounds = None;
      executions = length journal;
      gathers = gathers_over p g journal;
    };
  }

  -- the journal of the serial machine from the start of the program
  abbrev pub journal_of : ℕ → List JournalEntry
  journal_of fuel = serial_journal p g (start_state p g) fuel

  -- what a run of the program from its start leaves: bulk-synchronous rounds, or the executions of a
  -- journal, one after another
  abbrev pub outcome_by : Engine → List JournalEntry → Outcome
  outcome_by (Sync limit) journal = after_rounds g (rounds p g (start_state p g) limit)
  outcome_by (Serial fuel) journal = after_journal journal
  outcome_by (Virtual fuel seed) journal = after_journal journal

  -- the distinct vertices that a run executes, ascending
  abbrev pub executed_by : Engine → List JournalEntry → List ℕ
  executed_by (Sync limit) journal = executed p g (start_state p g) limit
  executed_by (Serial fuel) journal = executed_in g journal
  executed_by (Virtual fuel seed) journal = executed_in g journal

  -- over how many edges they gather, each once
  abbrev pub distinct_by : Engine → List JournalEntry → ℕ
  distinct_by engine journal = sum_by (gather_degree p g) (executed_by engine journal)

  -- what a run leaves, where gathers are kept or not
  abbrev pub left_by : Engine → Bool → List JournalEntry → Outcome
  left_by engine kept journal =
      with_kept kept (distinct_by engine journal) (outcome_by engine journal)

  -- the journal of the serial machine: each entry is of the signalled vertex of least number
  pub record IsSerial (fuel : ℕ) (journal : List JournalEntry) : Type 0 where
    pub is : journal ≡ journal_of fuel
    pub serial : IsSerialJournal p g (start_state p g) fuel journal

  -- a journal that is legal from the start and fits the fuel
  pub record IsAny (fuel : ℕ) (journal : List JournalEntry) : Type 0 where
    pub legal : IsLegal p g (start_state p g) journal
    pub fits : FitsFuel p g (start_state p g) journal fuel

  -- the journal of a run: rounds have none, the serial machine has its own, and actors have any legal one
  abbrev pub HasJournal : Engine → List JournalEntry → Type 0
  HasJournal (Sync limit) journal = journal ≡ []
  HasJournal (Serial fuel) journal = IsSerial fuel journal
  HasJournal (Virtual fuel seed) journal = IsAny fuel journal

-- the same of the program with this name
abbrev pub outcome_of : ProgramName → Engine → Multigraph → List JournalEntry → Outcome
outcome_of Components engine g journal = outcome_by components g engine journal
outcome_of Colour engine g journal = outcome_by colouring g engine journal
outcome_of (Sssp source) engine g journal = outcome_by (shortest_paths source) g engine journal
outcome_of (Rank tolerance) engine g journal = outcome_by (page_rank tolerance) g engine journal
outcome_of (Tree source) engine g journal = outcome_by (tree source) g engine journal

abbrev pub distinct_of : ProgramName → Engine → Multigraph → List JournalEntry → ℕ
distinct_of Components engine g journal = distinct_by components g engine journal
distinct_of Colour engine g journal = distinct_by colouring g engine journal
distinct_of (Sssp source) engine g journal = distinct_by (shortest_paths source) g engine journal
distinct_of (Rank tolerance) engine g journal = distinct_by (page_rank tolerance) g engine journal
distinct_of (Tree source) engine g journal = distinct_by (tree source) g engine journal

abbrev pub left_of : ProgramName → Engine → Bool → Multigraph → List JournalEntry → Outcome
left_of name engine kept g journal =
    with_kept kept (distinct_of name engine g journal) (outcome_of name engine g journal)

abbrev pub HasJournalOf : ProgramName → Engine → Multigraph → List JournalEntry → Type 0
HasJournalOf Components engine g journal = HasJournal components g engine journal
HasJournalOf Colour engine g journal = HasJournal colouring g engine journal
HasJournalOf (Sssp source) engine g journal = HasJournal (shortest_paths source) g engine journal
HasJournalOf (Rank tolerance) engine g journal = HasJournal (page_rank tolerance) g engine journal
HasJournalOf (Tree source) engine g journal = HasJournal (tree source) g engine journal

-- the report of what a run left
abbrev pub engine_name : Engine → EngineName
engine_name (Sync limit) = named.Sync
engine_name (Serial fuel) = named.Async
engine_name (Virtual fuel seed) = named.Async

abbrev pub text_of : ProgramName → Engine → Multigraph → Outcome → List ℕ
text_of program engine g outcome =
    report_text (engine_name engine) program g outcome.journal outcome.state outcome.last

abbrev pub kept_text : ProgramName → Engine → Bool → Multigraph → List JournalEntry → List ℕ
kept_text name engine kept g journal = text_of name engine g (left_of name engine kept g journal)
