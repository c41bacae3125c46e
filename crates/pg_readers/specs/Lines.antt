-- What a line of a graph text says.
use Rattle.std.specs.Prelude.{ℕ, List, [], ◌∷◌, length, Bool, true, false, ◌==◌, nat_lt, Option, Some, None, Result, Ok, Err, if◌then◌else◌}
use Rattle.std.specs.Io.BufRead.{strip_last}
use Rattle.pg_readers.specs.Tokens.{tokens, numbers, all_numbers}
use Rattle.pg_readers.specs.declared.line.Format.{Format}
use Rattle.pg_readers.specs.declared.line.Format.TheVariants.{Snap, Tsv, Adj}
use Rattle.pg_readers.specs.declared.line.BadLine.{BadLine}
use Rattle.pg_readers.specs.declared.line.BadLine.TheVariants.{TooFew, BadNumber, BadCount, TooMany}
use Rattle.pg_readers.specs.declared.line.Line.{Line}
use Rattle.pg_readers.specs.declared.line.Line.TheVariants.{Nothing, Edge, Star}

-- a vertex with as many targets as it says: each of them has to be a number
abbrev pub star : ℕ → Option (List ℕ) → Result Line BadLine
star id None = Err BadNumber
star id (Some targets) = Ok (Star id targets)

-- what a line says by its tokens as numbers: the first case that applies
abbrev pub says : Format → List (Option ℕ) → Result Line BadLine
says _ [] = Ok Nothing
says _ (_ ∷ []) = Err TooFew
says Snap (Some src ∷ Some dst ∷ _) = Ok (Edge src dst 1)
says Snap _ = Err BadNumber
says Tsv (_ ∷ _ ∷ _ ∷ _ ∷ _) = Err TooMany
says Tsv (Some src ∷ Some dst ∷ []) = Ok (Edge src dst 1)
says Tsv (Some src ∷ Some dst ∷ Some weight ∷ []) = Ok (Edge src dst weight)
says Tsv _ = Err BadNumber
says Adj (Some id ∷ Some degree ∷ targets) =
    if nat_lt (length targets) degree then Err BadCount
    else if nat_lt degree (length targets) then Err TooMany
    else star id (all_numbers targets)
says Adj _ = Err BadNumber

-- whether there is no token, or the first begins with '#'
abbrev pub is_comment : List (List ℕ) → Bool
is_comment [] = true
is_comment ([] ∷ tokens) = false
is_comment ((byte ∷ token) ∷ tokens) = byte == 35

abbrev pub said_by_bytes : Format → List ℕ → Result Line BadLine
said_by_bytes format bytes =
    if is_comment (tokens bytes) then Ok Nothing else says format (numbers bytes)

-- what a line says, or how it is bad; one carriage return at its end is no part of it
abbrev pub line_says : Format → List ℕ → Result Line BadLine
line_says format line = said_by_bytes format (strip_last 13 line)
