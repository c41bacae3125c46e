-- The tokens of a line are the longest runs of bytes other than spaces and tabs.
use Rattle.std.specs.Prelude.{ℕ, ◌-◌, ◌^◌, List, [], ◌∷◌, map, Bool, true, false, ◌==◌, ◌||◌, not, Option, Some, None, if◌then◌else◌}
use Rattle.std.specs.Option.{option_map}
use Rattle.pg_base.specs.Numbers.{number_of}

-- a space or a tab
unfoldable pub is_blank : ℕ → Bool
is_blank byte = byte == 32 || byte == 9

-- whether the first byte is part of a token
abbrev pub begins_token : List ℕ → Bool
begins_token [] = false
begins_token (byte ∷ bytes) = not (is_blank byte)

-- a byte before tokens: part of the first where it touches it, else a token of its own
abbrev pub with_byte : ℕ → Bool → List (List ℕ) → List (List ℕ)
with_byte byte true (token ∷ tokens) = (byte ∷ token) ∷ tokens
with_byte byte _ tokens = (byte ∷ []) ∷ tokens

abbrev pub tokens : List ℕ → List (List ℕ)
tokens [] = []
tokens (byte ∷ bytes) =
    if is_blank byte then tokens bytes else with_byte byte (begins_token bytes) (tokens bytes)

-- the bytes behind the token at the front
abbrev pub behind_token : List ℕ → List ℕ
behind_token [] = []
behind_token (byte ∷ bytes) = if is_blank byte then byte ∷ bytes else behind_token bytes

-- the tokens as numbers of 32 bits, None for a token that writes none
abbrev pub numbers : List ℕ → List (Option ℕ)
numbers bytes = map (number_of (2 ^ 32 - 1)) (tokens bytes)

-- the numbers, where each token is one
abbrev pub all_numbers : List (Option ℕ) → Option (List ℕ)
all_numbers [] = Some []
all_numbers (None ∷ tokens) = None
all_numbers (Some n ∷ tokens) = option_map (λ ns. n ∷ ns) (all_numbers tokens)
