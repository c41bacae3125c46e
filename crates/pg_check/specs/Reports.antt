-- A report by its lines, and the lines of a text that is read.
use Rattle.std.specs.Prelude.{ℕ, ◌&&◌, Bool, List, [], ◌∷◌, ◌++◌, map, Option, Some, None, slice_index}
use Rattle.std.specs.List.{flat_map}
use Rattle.std.specs.Str.{bytes_eq}
use Rattle.pg_graph.specs.Multigraph.{Multigraph, vertices}
use Rattle.pg_input.specs.Texts.{TextLine, lines}
use Rattle.pg_law.specs.declared.values.JournalEntry.{JournalEntry}
use Rattle.pg_law.specs.Configuration.{Configuration, datum_in, message_in}
use Rattle.pg_words.specs.declared.names.EngineName.{EngineName}
use Rattle.pg_words.specs.declared.job.ProgramName.{ProgramName}
use Rattle.pg_words.specs.Programs.{is_wide}
use Rattle.pg_report.specs.Report.{counts_line, value_line, second_if}
use Rattle.pg_report.specs.declared.line.LastLine.{LastLine}
use Rattle.pg_report.specs.declared.line.ReportLine.{ReportLine}
use Rattle.pg_report.specs.declared.line.ReportLine.TheVariants as line

-- a line that was read: its bytes, and whether its line feed stands
abbrev pub ReadLine : Type 0
ReadLine = List ℕ × Bool

abbrev pub read_line : TextLine → ReadLine
read_line line = (line.bytes, line.ended)

-- a line has this text; a last line without its line feed is no such line
abbrev pub has_text : List ℕ → ReadLine → Bool
has_text text line = line.1 && bytes_eq line.0 text

-- the line of an entry
abbrev pub entry_row : Bool → Multigraph → JournalEntry → ReportLine
entry_row wide g entry =
    line.Entry (slice_index g.ids entry.vertex) entry.datum.first (second_if wide entry.datum)

-- a report that was read: the header that was found, and the lines of the text behind it
abbrev pub read_report : Option ReadLine → List ℕ → List ReadLine
read_report None text = []
read_report (Some header) text = header ∷ map read_line (lines text)

-- the header, and the counts of the graph
abbrev pub head_lines : EngineName → ProgramName → Multigraph → List ReportLine
head_lines engine name g = line.Head engine name ∷ counts_line g ∷ []

-- a line for each vertex, ascending
abbrev pub value_lines : Bool → Multigraph → Configuration → List ReportLine
value_lines wide g s =
    map (λ v. value_line wide (slice_index g.ids v) (datum_in s.values v)) (vertices g)

-- a line for each signalled vertex, ascending
abbrev pub message_lines : ℕ → Option ℕ → List ReportLine
message_lines id None = []
message_lines id (Some message) = line.Signal id message ∷ []

abbrev pub signal_lines : Multigraph → Configuration → List ReportLine
signal_lines g s =
    flat_map (λ v. message_lines (slice_index g.ids v) (message_in s.messages v)) (vertices g)

-- the values, the signals, and how the run ended
abbrev pub tail_lines : ProgramName → Multigraph → Configuration → LastLine → List ReportLine
tail_lines name g s last =
    value_lines (is_wide name) g s ++ (signal_lines g s ++ line.Last last ∷ [])
