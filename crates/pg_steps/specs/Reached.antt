-- The states that a program reaches from its start.
use Rattle.std.specs.Prelude.{ℕ, List}
use Rattle.pg_graph.specs.Multigraph.{Multigraph}
use Rattle.pg_law.specs.declared.values.JournalEntry.{JournalEntry}
use Rattle.pg_law.specs.Program.{Program}
use Rattle.pg_law.specs.Configuration.{Configuration, start_state}
use Rattle.pg_law.specs.Rounds.{rounds}
use Rattle.pg_law.specs.Journal.{replay}

module _ {Acc Carry : Type 0} (p : Program Acc Carry) (g : Multigraph) where
  -- by rounds, until nothing is signalled or so many were made
  abbrev pub after_rounds : ℕ → Configuration
  after_rounds limit = (rounds p g (start_state p g) limit).state

  -- by single executions, in the order of a journal
  abbrev pub after_journal : List JournalEntry → Configuration
  after_journal journal = replay p g (start_state p g) journal

  -- by a journal, and then by so many rounds
  abbrev pub after_both : List JournalEntry → ℕ → Configuration
  after_both journal limit = (rounds p g (after_journal journal) limit).state
