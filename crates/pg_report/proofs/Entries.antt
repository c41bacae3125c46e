-- The line of a journal's entry is that of the report's entries.
use Rattle.std.proofs.Common.{◌≡◌, ℕ, List, ◌++◌, Bool, true, false, slice_index, codes, decimal, refl, sym, ap, append-nil}
use Rattle.pg_graph.specs.Multigraph.{Multigraph}
use Rattle.pg_journal.specs.Entry.{entry_line}
use Rattle.pg_law.specs.declared.values.JournalEntry.{JournalEntry}
use Rattle.pg_report.specs.Report.{ended, second_if}
use Rattle.pg_report.specs.declared.line.ReportLine.TheVariants as line

pub entry_is_line : (g : Multigraph) (wide : Bool) (entry : JournalEntry) → entry_line g wide entry
    ≡ ended (line.Entry (slice_index g.ids entry.vertex) entry.datum.first (second_if wide entry.datum))
entry_is_line g true entry = refl
entry_is_line g false entry =
    ap (λ (value : List ℕ). (codes "@" ++ (decimal (slice_index g.ids entry.vertex) ++ (codes "\t" ++ value))) ++ codes "\n")
    (sym (append-nil (decimal entry.datum.first)))
