-- The serial run, which executes the signalled vertex of least number each time.
use Rattle.std.specs.Prelude.{◌≡◌, ℕ, zero, suc, Option, Some, None, List, [], ◌∷◌, slice_get}
use Rattle.pg_graph.specs.Multigraph.{Multigraph}
use Rattle.pg_law.specs.declared.values.JournalEntry.{JournalEntry}
use Rattle.pg_law.specs.Program.{Program}
use Rattle.pg_law.specs.Configuration.{Configuration, datum_in, signalled}
use Rattle.pg_law.specs.Round.{execution}
use Rattle.pg_law.specs.Journal.{IsLegal, FitsFuel}

-- the signalled vertex of least number
abbrev pub least_signalled : Multigraph → Configuration → Option ℕ
least_signalled g s = slice_get (signalled g s) 0

-- the entry of an execution that left this state
abbrev pub entry_after : Configuration → ℕ → JournalEntry
entry_after s u = record { vertex = u; datum = datum_in s.values u }

module _ {Acc Carry : Type 0} (p : Program Acc Carry) (g : Multigraph) where
  -- the entry of an execution
  abbrev pub entry_of : Configuration → ℕ → JournalEntry
  entry_of s u = entry_after (execution p g s u) u

  -- an entry, if there is a vertex, and what follows it
  abbrev pub entries_from : Configuration → Option ℕ → (ℕ → List JournalEntry) → List JournalEntry
  entries_from s None rest = []
  entries_from s (Some u) rest = entry_of s u ∷ rest u

  -- the journal of the serial run with so much fuel
  unfoldable pub serial_journal : Configuration → ℕ → List JournalEntry
  serial_journal s zero = []
  serial_journal s (suc fuel) =
      entries_from s (least_signalled g s) (λ u. serial_journal (execution p g s u) fuel)

  -- each entry is of the signalled vertex of least number at its place
  unfoldable pub IsLeastFirst : Configuration → List JournalEntry → Type 0
  IsLeastFirst s [] = Unit {0}
  IsLeastFirst s (entry ∷ journal) = (least_signalled g s ≡ Some entry.vertex)
      × IsLeastFirst (execution p g s entry.vertex) journal

  -- a journal of executions within a fuel, each of the signalled vertex of least number
  pub record IsSerialJournal (s : Configuration) (fuel : ℕ) (journal : List JournalEntry)
      : Type 0 where
    pub legal : IsLegal p g s journal
    pub fits : FitsFuel p g s journal fuel
    pub least : IsLeastFirst s journal
