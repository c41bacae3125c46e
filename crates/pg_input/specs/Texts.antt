-- The lines of a text. A line ends at its line feed; what stands behind the last line feed is a line
-- where it isn't empty.
use Rattle.std.specs.Prelude.{ℕ, ◌==◌, Bool, true, false, List, [], ◌∷◌, length, if◌then◌else◌}
use Rattle.pg_base.specs.Lines.{width_of}

-- a line without its line feed, whether the line feed stood, and the text behind it
pub record TextLine : Type 0 where
  pub bytes : List ℕ
  pub ended : Bool
  pub behind : List ℕ

abbrev pub text_line : List ℕ → Bool → List ℕ → TextLine
text_line bytes ended behind = record { bytes = bytes; ended = ended; behind = behind }

-- a byte before the first of these lines
abbrev pub onto_first : ℕ → List TextLine → List TextLine
onto_first byte [] = text_line (byte ∷ []) false [] ∷ []
onto_first byte (line ∷ lines) = text_line (byte ∷ line.bytes) line.ended line.behind ∷ lines

abbrev pub lines : List ℕ → List TextLine
lines [] = []
lines (byte ∷ text) =
    if byte == 10 then text_line [] true text ∷ lines text else onto_first byte (lines text)

-- how many bytes a line takes, its line feed included
abbrev pub width : TextLine → ℕ
width line = width_of (length line.bytes) line.ended
