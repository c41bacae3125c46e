-- The lines of a report, without their line feeds.
use Rattle.std.specs.Prelude.{◌≡◌, ◌≢◌, All, ℕ, ◌≤◌, ◌-◌, ◌^◌, List, [], ◌++◌, Option, Some, None, codes, decimal}
use Rattle.pg_law.specs.declared.values.End.{End}
use Rattle.pg_law.specs.declared.values.End.TheVariants.{Quiescent, Spent}
use Rattle.pg_words.specs.declared.names.EngineName.{EngineName}
use Rattle.pg_words.specs.declared.names.EngineName.TheVariants.{Sync, Async}
use Rattle.pg_words.specs.declared.job.ProgramName.{ProgramName}
use Rattle.pg_words.specs.declared.job.ProgramName.TheVariants.{Components, Colour, Sssp, Rank, Tree}
use Rattle.pg_report.specs.declared.line.ReportLine.{ReportLine}
use Rattle.pg_report.specs.declared.line.ReportLine.TheVariants as line

-- the engine's name
abbrev pub engine_text : EngineName → List ℕ
engine_text Sync = codes "sync "
engine_text Async = codes "async "

-- the program's name, with its number where it has one
abbrev pub name_text : ProgramName → List ℕ
name_text Components = codes "components"
name_text Colour = codes "colour"
name_text (Sssp source) = codes "sssp " ++ decimal source
name_text (Rank tolerance) = codes "rank " ++ decimal tolerance
name_text (Tree source) = codes "tree " ++ decimal source

-- a second value, where there is one
abbrev pub second_text : Option ℕ → List ℕ
second_text None = []
second_text (Some second) = codes "\t" ++ decimal second

-- an id and its values
abbrev pub row_text : ℕ → ℕ → Option ℕ → List ℕ
row_text id value second = decimal id ++ (codes "\t" ++ (decimal value ++ second_text second))

-- how the run ended
abbrev pub end_text : End → List ℕ
end_text Quiescent = codes "# quiescent"
end_text Spent = codes "# spent"

-- the rounds, where the run has some
abbrev pub rounds_text : Option ℕ → List ℕ
rounds_text None = []
rounds_text (Some rounds) = codes " rounds " ++ decimal rounds

-- what the run took
abbrev pub taken_text : ℕ → ℕ → List ℕ
taken_text executions gathers =
    codes " executions " ++ (decimal executions ++ (codes " gathers " ++ decimal gathers))

-- the header, and the counts of the graph
abbrev pub head_line_text : EngineName → ProgramName → List ℕ
head_line_text engine program = codes "# pgreport 1 " ++ (engine_text engine ++ name_text program)

abbrev pub counts_text : ℕ → ℕ → ℕ → List ℕ
counts_text vertices edges loops =
    codes "# vertices "
    ++ (decimal vertices
    ++ (codes " edges " ++ (decimal edges ++ (codes " loops " ++ decimal loops))))

-- the text of a line
abbrev pub line_text : ReportLine → List ℕ
line_text (line.Head engine program) = head_line_text engine program
line_text (line.Counts vertices edges loops) = counts_text vertices edges loops
line_text (line.Entry id value second) = codes "@" ++ row_text id value second
line_text (line.Value id value second) = row_text id value second
line_text (line.Signal id message) = codes "?" ++ row_text id message None
line_text (line.Last last) =
    end_text last.end ++ (rounds_text last.rounds ++ taken_text last.executions last.gathers)

-- numbers of 32 and of 64 bits
abbrev pub IsSmall : ℕ → Type 0
IsSmall n = n ≤ 2 ^ 32 - 1

abbrev pub IsLarge : ℕ → Type 0
IsLarge n = n ≤ 2 ^ 64 - 1

abbrev pub IfThere : Option ℕ → (ℕ → Type 0) → Type 0
IfThere None Is = Unit {0}
IfThere (Some n) Is = Is n

-- a program whose number its field can hold
abbrev pub IsName : ProgramName → Type 0
IsName Components = Unit {0}
IsName Colour = Unit {0}
IsName (Sssp source) = IsSmall source
IsName (Rank tolerance) = IsLarge tolerance
IsName (Tree source) = IsSmall source

-- a line whose numbers their fields can hold
abbrev pub IsLine : ReportLine → Type 0
IsLine (line.Head engine program) = IsName program
IsLine (line.Counts vertices edges loops) = IsSmall vertices × IsSmall edges × IsLarge loops
IsLine (line.Entry id value second) = IsSmall id × IsLarge value × IfThere second IsLarge
IsLine (line.Value id value second) = IsSmall id × IsLarge value × IfThere second IsLarge
IsLine (line.Signal id message) = IsSmall id × IsLarge message
IsLine (line.Last last) =
    IfThere last.rounds IsSmall × IsLarge last.executions × IsLarge last.gathers

-- two lines have two texts
abbrev pub OneLine : Type 0
OneLine = (said other : ReportLine)
    → IsLine said → IsLine other → line_text said ≡ line_text other → said ≡ other

-- a line's text has no line feed
abbrev pub HasNoLineFeed : Type 0
HasNoLineFeed = (said : ReportLine) → IsLine said → All (λ byte. byte ≢ 10) (line_text said)
