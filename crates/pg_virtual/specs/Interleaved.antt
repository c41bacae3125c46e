-- What a run by actors in some order leaves. Which order that is, no definition says.
use Rattle.std.specs.Prelude.{ℕ, ◌≡◌, Bool, cond, List, length, flat_map, Option}
use Rattle.std.specs.Io.KnownBytes.{append_known}
use Rattle.pg_base.specs.Writing.{SendsFront}
use Rattle.pg_graph.specs.Multigraph.{Multigraph}
use Rattle.pg_law.specs.declared.values.JournalEntry.{JournalEntry}
use Rattle.pg_law.specs.declared.async_end.AsyncEnd.{AsyncEnd}
use Rattle.pg_law.specs.Program.{Program}
use Rattle.pg_law.specs.Configuration.{Configuration}
use Rattle.pg_law.specs.Rounds.{end_of}
use Rattle.pg_law.specs.Journal.{replay, IsLegal, FitsFuel}
use Rattle.pg_serial.specs.Distinct.{distinct_gathers}
use Rattle.pg_serial.specs.Journals.{gathers_over}

module _ {Acc Carry : Type 0} (p : Program Acc Carry) (g : Multigraph) where
  -- over how many edges its executions gather; where gathers are kept, each vertex counts once
  abbrev pub gathers_in : Bool → List JournalEntry → ℕ
  gathers_in kept journal =
      cond kept (distinct_gathers p g journal) (gathers_over p g journal)

  -- a journal that is legal from a state and fits a fuel
  pub record IsJournal (s : Configuration) (fuel : ℕ) (journal : List JournalEntry) : Type 0 where
    pub legal : IsLegal p g s journal
    pub fits : FitsFuel p g s journal fuel

  -- the texts of the entries of such a journal were appended, and this is where it leads
  pub record Ran (texts : JournalEntry → List ℕ) (s : Configuration) (fuel : ℕ) (kept : Bool)
      (before after : Option (List ℕ)) (end : AsyncEnd) : Type 0 where
    pub journal : List JournalEntry
    pub is_journal : IsJournal s fuel journal
    pub written : after ≡ append_known before (flat_map texts journal)
    pub state : end.state ≡ replay p g s journal
    pub executions : end.executions ≡ length journal
    pub gathers : end.gathers ≡ gathers_in kept journal
    pub ended : end.end ≡ end_of g end.state

  -- a front of the texts of such a journal was appended
  pub record RanInPart (texts : JournalEntry → List ℕ) (s : Configuration) (fuel : ℕ)
      (before after : Option (List ℕ)) : Type 0 where
    pub journal : List JournalEntry
    pub is_journal : IsJournal s fuel journal
    pub front : SendsFront before after (flat_map texts journal)
