-- The distinct vertices of a journal, where each counts once.
use Rattle.std.specs.Prelude.{ℕ, ◌==◌, Bool, List, filter, sum_by}
use Rattle.std.specs.List.{list_any}
use Rattle.pg_graph.specs.Multigraph.{Multigraph, vertices}
use Rattle.pg_law.specs.declared.values.JournalEntry.{JournalEntry}
use Rattle.pg_law.specs.Program.{Program}
use Rattle.pg_serial.specs.Journals.{gather_degree}

-- whether a vertex has an entry
abbrev pub has_entry : List JournalEntry → ℕ → Bool
has_entry journal v = list_any (λ entry. entry.vertex == v) journal

-- the distinct vertices of a journal, ascending
abbrev pub executed_in : Multigraph → List JournalEntry → List ℕ
executed_in g journal = filter (has_entry journal) (vertices g)

-- over how many edges they gather, each once
abbrev pub distinct_gathers : {Acc Carry : Type 0} → Program Acc Carry → Multigraph
    → List JournalEntry → ℕ
distinct_gathers p g journal = sum_by (gather_degree p g) (executed_in g journal)
