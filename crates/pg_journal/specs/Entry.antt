-- The line of an entry, and how it is read from its front.
use Rattle.std.specs.Prelude.{◌≡◌, ℕ, ◌-◌, ◌^◌, ◌<◌, List, ◌++◌, length, Bool, true, false, ◌==◌}
use Rattle.std.specs.Prelude.{Option, Some, None, slice_index, codes, decimal, if◌then◌else◌}
use Rattle.pg_graph.specs.Multigraph.{Multigraph}
use Rattle.pg_law.specs.declared.values.Datum.{Datum}
use Rattle.pg_law.specs.declared.values.JournalEntry.{JournalEntry}
use Rattle.pg_journal.specs.Fronts.{◌>>=◌, behind, number_at}

-- what a line shows of a datum: its first word, or both
abbrev pub datum_text : Bool → Datum → List ℕ
datum_text false datum = decimal datum.first
datum_text true datum = decimal datum.first ++ (codes "\t" ++ decimal datum.second)

-- an id and a datum
abbrev pub entry_text : Bool → ℕ → Datum → List ℕ
entry_text wide id datum = codes "@" ++ (decimal id ++ (codes "\t" ++ datum_text wide datum))

-- the line of an entry without its line feed, and with it
abbrev pub entry_text_of : Multigraph → Bool → JournalEntry → List ℕ
entry_text_of g wide entry = entry_text wide (slice_index g.ids entry.vertex) entry.datum

abbrev pub entry_line : Multigraph → Bool → JournalEntry → List ℕ
entry_line g wide entry = entry_text_of g wide entry ++ codes "\n"

-- a datum of which a line shows all: its words have 64 bits, and what isn't shown is 0
pub record IsShown (wide : Bool) (datum : Datum) : Type 0 where
  pub first : datum.first < 2 ^ 64
  pub second : datum.second < 2 ^ 64
  pub narrow : wide ≡ false → datum.second ≡ 0

-- an entry of a vertex of the graph
pub record IsEntry (g : Multigraph) (wide : Bool) (entry : JournalEntry) : Type 0 where
  pub vertex : entry.vertex < length g.ids
  pub datum : IsShown wide entry.datum

-- the datum at the front, and the bytes behind it
unfoldable pub datum_at : Bool → List ℕ → Option (Datum × List ℕ)
datum_at false bytes = number_at (2 ^ 64 - 1) bytes
    >>= λ first. Some (record { first = first.0; second = 0 }, first.1)
datum_at true bytes = number_at (2 ^ 64 - 1) bytes
    >>= λ first. behind (codes "\t") first.1
    >>= λ rest. number_at (2 ^ 64 - 1) rest
    >>= λ second. Some (record { first = first.0; second = second.0 }, second.1)

-- the id and the datum of a line
unfoldable pub entry_at : Bool → List ℕ → Option (ℕ × Datum)
entry_at wide line = behind (codes "@") line
    >>= λ rest. number_at (2 ^ 32 - 1) rest
    >>= λ id. behind (codes "\t") id.1
    >>= λ rest. datum_at wide rest
    >>= λ datum. if length datum.1 == 0 then Some (id.0, datum.0) else None
