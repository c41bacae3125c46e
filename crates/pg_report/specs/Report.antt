-- The report of a run.
use Rattle.std.specs.Prelude.{◌≡◌, ℕ, Bool, List, [], ◌++◌, Option, Some, None, length, slice_index, codes, if◌then◌else◌}
use Rattle.std.specs.List.{flat_map}
use Rattle.pg_graph.specs.Multigraph.{Multigraph, vertices}
use Rattle.pg_journal.specs.Entry.{entry_line}
use Rattle.pg_law.specs.declared.values.Datum.{Datum}
use Rattle.pg_law.specs.declared.values.JournalEntry.{JournalEntry}
use Rattle.pg_law.specs.Configuration.{Configuration, datum_in, message_in}
use Rattle.pg_words.specs.declared.names.EngineName.{EngineName}
use Rattle.pg_words.specs.declared.job.ProgramName.{ProgramName}
use Rattle.pg_words.specs.Programs.{is_wide}
use Rattle.pg_report.specs.Lines.{line_text}
use Rattle.pg_report.specs.declared.line.LastLine.{LastLine}
use Rattle.pg_report.specs.declared.line.ReportLine.{ReportLine}
use Rattle.pg_report.specs.declared.line.ReportLine.TheVariants as line

-- a line with its line feed
abbrev pub ended : ReportLine → List ℕ
ended line = line_text line ++ codes "\n"

-- the header, and the counts of the graph
abbrev pub counts_line : Multigraph → ReportLine
counts_line g = line.Counts (length g.ids) (length g.edges) g.loops

abbrev pub head_text : EngineName → ProgramName → Multigraph → List ℕ
head_text engine program g =
    ended (line.Head engine program) ++ ended (counts_line g)

-- a second value, where the program is wide
abbrev pub second_if : Bool → Datum → Option ℕ
second_if wide datum = if wide then Some datum.second else None

-- a line for each execution, in the order of the journal
abbrev pub journal_text : Bool → Multigraph → List JournalEntry → List ℕ
journal_text wide g journal = flat_map (entry_line g wide) journal

-- a line for each vertex, ascending
abbrev pub value_line : Bool → ℕ → Datum → ReportLine
value_line wide id datum = line.Value id datum.first (second_if wide datum)

abbrev pub value_at : Bool → Multigraph → Configuration → ℕ → List ℕ
value_at wide g s v = ended (value_line wide (slice_index g.ids v) (datum_in s.values v))

abbrev pub values_text : Bool → Multigraph → Configuration → List ℕ
values_text wide g s = flat_map (value_at wide g s) (vertices g)

-- a line for each signalled vertex, ascending
abbrev pub message_text : ℕ → Option ℕ → List ℕ
message_text id None = []
message_text id (Some message) = ended (line.Signal id message)

abbrev pub signal_at : Multigraph → Configuration → ℕ → List ℕ
signal_at g s v = message_text (slice_index g.ids v) (message_in s.messages v)

abbrev pub signals_text : Multigraph → Configuration → List ℕ
signals_text g s = flat_map (signal_at g s) (vertices g)

-- the values, the signals, and how the run ended
abbrev pub tail_text : ProgramName → Multigraph → Configuration → LastLine → List ℕ
tail_text program g s last =
    values_text (is_wide program) g s ++ (signals_text g s ++ ended (line.Last last))

-- the report of a run with this journal, which left this state; the journal of rounds is empty
abbrev pub report_text : EngineName
    → ProgramName → Multigraph → List JournalEntry → Configuration → LastLine → List ℕ
report_text engine program g journal s last =
    head_text engine program g
    ++ (journal_text (is_wide program) g journal ++ tail_text program g s last)

-- the line of an entry is that of the report's entries
abbrev pub EntriesAreLines : Type 0
EntriesAreLines = (g : Multigraph) (wide : Bool) (entry : JournalEntry)
    → entry_line g wide entry
    ≡ ended (line.Entry (slice_index g.ids entry.vertex) entry.datum.first (second_if wide entry.datum))
