-- The graph of a text, and its first event. Events come in the order of the lines, and in one line
-- first the limit of bytes, then the line itself, then the limits of vertices and edges.
use Rattle.std.specs.Prelude.{ℕ, ◌+◌, nat_lt, nat_eq, Bool, false, List, [], ◌∷◌, Option, None, Some, if◌then◌else◌}
use Rattle.std.specs.Borrow.{Bor}
use Rattle.std.specs.List.{find, starts_with}
use Rattle.std.specs.Option.{option_or, option_map}
use Rattle.pg_base.specs.declared.limits.Limits.{Limits}
use Rattle.pg_graph.specs.Building.{Building, building, IsGraphOf}
use Rattle.pg_graph.specs.Multigraph.{Multigraph}
use Rattle.pg_readers.specs.declared.line.Format.{Format}
use Rattle.pg_readers.specs.Lines.{line_says}
use Rattle.pg_input.specs.Events.{with_said, event_of_said}
use Rattle.pg_input.specs.Texts.{TextLine, lines, width}
use Rattle.pg_input.specs.declared.error.InputError.{InputError}
use Rattle.pg_input.specs.declared.error.InputError.TheVariants.{Limit}
use Rattle.pg_input.specs.declared.error.Which.TheVariants.{Bytes}

-- the bytes of a stop, where there is one
abbrev pub stop_bytes : Option (Bor (List ℕ)) → Option (List ℕ)
stop_bytes stop = option_map (λ bytes. bytes.now) stop

-- whether a line begins as a stop line does, where there is one
abbrev pub is_stop_line : Option (List ℕ) → List ℕ → Bool
is_stop_line None line = false
is_stop_line (Some stop) line = starts_with nat_eq line stop

-- what the lines before the first stop line build
abbrev pub with_lines : Format → Option (List ℕ) → Building → List TextLine → Building
with_lines format stop b [] = b
with_lines format stop b (line ∷ lines) =
    if is_stop_line stop line.bytes then b
    else with_lines format stop (with_said b (line_says format line.bytes)) lines

-- the first event of these lines, where the first of them has this number and stands behind so many
-- bytes; a stop line may still pass the limit of bytes
abbrev pub event_of_lines : Format → Option (List ℕ) → ℕ → Building → ℕ → ℕ → List TextLine
    → Option InputError
event_of_lines format stop limit b number given [] = None
event_of_lines format stop limit b number given (line ∷ lines) =
    if nat_lt limit (given + width line) then Some (Limit Bytes limit)
    else if is_stop_line stop line.bytes then None
    else option_or (event_of_said b number (line_says format line.bytes))
    (event_of_lines format stop limit (with_said b (line_says format line.bytes)) (number + 1)
    (given + width line) lines)

-- what a text builds up to its stop line, and the first event up to and on it, behind so many bytes
abbrev pub built_until : Format → Option (List ℕ) → Limits → List ℕ → Building
built_until format stop limits text = with_lines format stop (building limits [] [] 0) (lines text)

abbrev pub event_until : Format → Option (List ℕ) → Limits → ℕ → List ℕ → Option InputError
event_until format stop limits given text =
    event_of_lines format stop limits.bytes (building limits [] [] 0) 1 given (lines text)

-- the stop line, its bytes, whether its line feed stands, and what comes behind it
abbrev pub stop_of : Option (List ℕ) → List ℕ → Option TextLine
stop_of stop text = find (λ line. is_stop_line stop line.bytes) (lines text)

abbrev pub bytes_of_stop : Option TextLine → Option (List ℕ)
bytes_of_stop line = option_map (λ line. line.bytes) line

abbrev pub is_stop_ended : Option TextLine → Bool
is_stop_ended None = false
is_stop_ended (Some line) = line.ended

abbrev pub behind_stop : Option TextLine → List ℕ
behind_stop None = []
behind_stop (Some line) = line.behind

-- the graph of a whole text, and its first event
abbrev pub IsGraphOfText : Format → Limits → List ℕ → Multigraph → Type 0
IsGraphOfText format limits text g = IsGraphOf (built_until format None limits text) g

abbrev pub first_event : Format → Limits → List ℕ → Option InputError
first_event format limits text = event_until format None limits 0 text
