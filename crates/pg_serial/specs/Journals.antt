-- What executing a journal again finds: that it is legal, or the first entry that breaks it.
use Rattle.std.specs.Prelude.{◌≡◌, ◌≢◌, ℕ, ◌+◌, ◌<◌, false, IsTrue, List, length, take}
use Rattle.std.specs.Prelude.{slice_index_or}
use Rattle.std.specs.Prelude.{sum_by}
use Rattle.pg_graph.specs.Multigraph.{Multigraph}
use Rattle.pg_law.specs.declared.values.Datum.{Datum}
use Rattle.pg_law.specs.declared.values.JournalEntry.{JournalEntry}
use Rattle.pg_law.specs.Values.{one}
use Rattle.pg_law.specs.Program.{Program}
use Rattle.pg_law.specs.Configuration.{Configuration, datum_in, is_signalled, IsFit}
use Rattle.pg_law.specs.Round.{edges_over, execution}
use Rattle.pg_law.specs.Journal.{replay, IsLegal}
use Rattle.pg_serial.specs.declared.replaying.Replayed.{Replayed}
use Rattle.pg_serial.specs.declared.replaying.Replayed.TheVariants.{Legal, NotSignalled, WrongValue}

abbrev pub no_entry : JournalEntry
no_entry = record { vertex = 0; datum = one 0 }

abbrev pub entry_at : List JournalEntry → ℕ → JournalEntry
entry_at journal at = slice_index_or journal at no_entry

-- the entries that a replay executes until it answers this
abbrev pub executed_by : List JournalEntry → Replayed → List JournalEntry
executed_by journal (Legal state) = journal
executed_by journal (NotSignalled at) = take at journal
executed_by journal (WrongValue at datum) = take (at + 1) journal

module _ {Acc Carry : Type 0} (p : Program Acc Carry) (g : Multigraph) where
  -- the datum that an execution gives its vertex
  abbrev pub datum_given : Configuration → ℕ → Datum
  datum_given s u = datum_in (execution p g s u).values u

  -- how many edges an execution gathers over, and how many those of a journal do
  abbrev pub gather_degree : ℕ → ℕ
  gather_degree u = length (edges_over p.gather_edges g u)

  abbrev pub gathers_over : List JournalEntry → ℕ
  gathers_over journal = sum_by (λ entry. gather_degree entry.vertex) journal

  -- the state at a place of a journal
  abbrev pub state_at : Configuration → List JournalEntry → ℕ → Configuration
  state_at s journal at = replay p g s (take at journal)

  -- the entries before this place are legal, and the vertex of the one there isn't signalled
  pub record IsNotSignalledAt (s : Configuration) (journal : List JournalEntry) (at : ℕ)
      : Type 0 where
    pub within : at < length journal
    pub legal : IsLegal p g s (take at journal)
    pub breaks : is_signalled (state_at s journal at) (entry_at journal at).vertex ≡ false

  -- the entries before this place are legal, and the execution there gives another datum
  pub record IsWrongAt (s : Configuration) (journal : List JournalEntry) (at : ℕ) (datum : Datum)
      : Type 0 where
    pub within : at < length journal
    pub legal : IsLegal p g s (take at journal)
    pub vertex : (entry_at journal at).vertex < length g.ids
    pub signalled : IsTrue (is_signalled (state_at s journal at) (entry_at journal at).vertex)
    pub given : datum ≡ datum_given (state_at s journal at) (entry_at journal at).vertex
    pub breaks : datum ≢ (entry_at journal at).datum

  -- what a replay answers
  abbrev pub IsReplayed : Configuration → List JournalEntry → Replayed → Type 0
  IsReplayed s journal (Legal state) = IsLegal p g s journal × (state ≡ replay p g s journal)
  IsReplayed s journal (NotSignalled at) = IsNotSignalledAt s journal at
  IsReplayed s journal (WrongValue at datum) = IsWrongAt s journal at datum

  -- a state that a replay hands back fits
  abbrev pub IsReplayFit : Replayed → Type 0
  IsReplayFit (Legal state) = IsFit p g state
  IsReplayFit (NotSignalled at) = Unit {0}
  IsReplayFit (WrongValue at datum) = Unit {0}
