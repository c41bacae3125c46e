-- What a line says, read from left to right.
use Rattle.std.specs.Prelude.{ℕ, ◌-◌, ◌^◌, List, length, ◌==◌, Option, Some, None, codes, if◌then◌else◌}
use Rattle.std.specs.Option.{option_map, option_or}
use Rattle.pg_law.specs.declared.values.End.{End}
use Rattle.pg_law.specs.declared.values.End.TheVariants.{Quiescent, Spent}
use Rattle.pg_words.specs.declared.names.EngineName.TheVariants.{Sync, Async}
use Rattle.pg_words.specs.declared.job.ProgramName.{ProgramName}
use Rattle.pg_words.specs.declared.job.ProgramName.TheVariants.{Components, Colour, Sssp, Rank, Tree}
use Rattle.pg_journal.specs.Fronts.{◌>>=◌, behind, number_at}
use Rattle.pg_report.specs.Fronts.{on_front, at_end, last_number}
use Rattle.pg_report.specs.declared.line.ReportLine.{ReportLine}
use Rattle.pg_report.specs.declared.line.ReportLine.TheVariants as line
use Rattle.pg_report.specs.declared.read.Row.{Row}

-- a second value, or none where nothing is left
abbrev pub second_of : List ℕ → Option (Option ℕ)
second_of bytes =
    if length bytes == 0 then Some None
    else (behind (codes "\t") bytes >>= λ rest.
    option_map (λ n. Some n) (last_number (2 ^ 64 - 1) rest))

-- an id and its values
abbrev pub row_of : List ℕ → Option Row
row_of bytes =
    number_at (2 ^ 32 - 1) bytes >>= λ id.
    (behind (codes "\t") id.1 >>= λ rest.
    (number_at (2 ^ 64 - 1) rest >>= λ value.
    (second_of value.1 >>= λ second.
    Some (record { id = id.0; value = value.0; second = second }))))

abbrev pub entry_with : Row → ReportLine
entry_with row = line.Entry row.id row.value row.second

abbrev pub value_with : Row → ReportLine
value_with row = line.Value row.id row.value row.second

-- a signal has one value
abbrev pub signal_with : ℕ → ℕ → Option ℕ → Option ReportLine
signal_with id message None = Some (line.Signal id message)
signal_with id message (Some second) = None

abbrev pub signal_of : List ℕ → Option ReportLine
signal_of bytes = row_of bytes >>= λ row. signal_with row.id row.value row.second

-- the program's name, and nothing behind it
abbrev pub name_of : List ℕ → Option ProgramName
name_of bytes =
    on_front (codes "components") bytes (at_end Components)
    (on_front (codes "colour") bytes (at_end Colour)
    (on_front (codes "sssp ") bytes (λ rest. option_map Sssp (last_number (2 ^ 32 - 1) rest))
    (on_front (codes "rank ") bytes (λ rest. option_map Rank (last_number (2 ^ 64 - 1) rest))
    (on_front (codes "tree ") bytes (λ rest. option_map Tree (last_number (2 ^ 32 - 1) rest))
    None))))

-- the engine and the program
abbrev pub head_of : List ℕ → Option ReportLine
head_of bytes =
    on_front (codes "sync ") bytes (λ rest. option_map (line.Head Sync) (name_of rest))
    (on_front (codes "async ") bytes (λ rest. option_map (line.Head Async) (name_of rest))
    None)

-- the counts of the graph, behind their first word
abbrev pub counts_of : List ℕ → Option ReportLine
counts_of bytes =
    number_at (2 ^ 32 - 1) bytes >>= λ vertices.
    (behind (codes " edges ") vertices.1 >>= λ edges_at.
    (number_at (2 ^ 32 - 1) edges_at >>= λ edges.
    (behind (codes " loops ") edges.1 >>= λ loops_at.
    (last_number (2 ^ 64 - 1) loops_at >>= λ loops.
    Some (line.Counts vertices.0 edges.0 loops)))))

-- the rounds, where they are told, and the bytes behind them
abbrev pub rounds_of : List ℕ → Option (Option ℕ × List ℕ)
rounds_of bytes =
    on_front (codes " rounds ") bytes
    (λ rest. option_map (λ rounds. (Some rounds.0, rounds.1)) (number_at (2 ^ 32 - 1) rest))
    (Some (None, bytes))

-- what a run took
abbrev pub taken_of : List ℕ → Option (ℕ × ℕ)
taken_of bytes =
    behind (codes " executions ") bytes >>= λ executions_at.
    (number_at (2 ^ 64 - 1) executions_at >>= λ executions.
    (behind (codes " gathers ") executions.1 >>= λ gathers_at.
    (last_number (2 ^ 64 - 1) gathers_at >>= λ gathers.
    Some (executions.0, gathers))))

-- how the run ended, behind the word for it
abbrev pub last_of : End → List ℕ → Option ReportLine
last_of end bytes =
    rounds_of bytes >>= λ rounds.
    (taken_of rounds.1 >>= λ taken.
    Some (line.Last (record {
      end = end;
      rounds = rounds.0;
      executions = taken.0;
      gathers = taken.1;
    })))

-- a line that begins with `#`
abbrev pub comment_of : List ℕ → Option ReportLine
comment_of bytes =
    on_front (codes "# pgreport 1 ") bytes head_of
    (on_front (codes "# vertices ") bytes counts_of
    (on_front (codes "# quiescent") bytes (last_of Quiescent)
    (on_front (codes "# spent") bytes (last_of Spent)
    None)))

-- a line that doesn't begin with a number
abbrev pub marked_of : List ℕ → Option ReportLine
marked_of bytes =
    on_front (codes "@") bytes (λ rest. option_map entry_with (row_of rest))
    (on_front (codes "?") bytes signal_of
    (comment_of bytes))

-- a line
abbrev pub line_of : List ℕ → Option ReportLine
line_of bytes = option_or (option_map value_with (row_of bytes)) (marked_of bytes)
