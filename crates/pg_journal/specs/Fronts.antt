-- What stands at the front of bytes, and what is behind it.
use Rattle.std.specs.Prelude.{ℕ, ◌+◌, List, [], ◌∷◌, length, take, drop, Bool, ◌==◌, ◌||◌, not}
use Rattle.std.specs.Prelude.{slice_index, Option, Some, None, if◌then◌else◌}
use Rattle.std.specs.Str.{bytes_eq}
use Rattle.pg_base.specs.Numbers.{is_digit, number_of}

-- one reading after another
infixl 10 ◌>>=◌
abbrev pub ◌>>=◌ : {A B : Type 0} → Option A → (A → Option B) → Option B
None >>= f = None
(Some x) >>= f = f x

-- the bytes behind a text at the front
unfoldable pub behind : List ℕ → List ℕ → Option (List ℕ)
behind text bytes =
    if bytes_eq (take (length text) bytes) text then Some (drop (length text) bytes) else None

-- how many digits stand at the front
unfoldable pub digits_at : List ℕ → ℕ
digits_at [] = 0
digits_at (byte ∷ bytes) = if is_digit byte then 1 + digits_at bytes else 0

-- digits without a leading zero
abbrev pub is_plain : List ℕ → Bool
is_plain digits = not (slice_index digits 0 == 48) || (length digits == 1)

-- the number that digits write without a leading zero, at most max
unfoldable pub plain_number : ℕ → List ℕ → Option ℕ
plain_number max digits = if is_plain digits then number_of max digits else None

-- the number at the front, at most max and without a leading zero, and the bytes behind it
unfoldable pub number_at : ℕ → List ℕ → Option (ℕ × List ℕ)
number_at max bytes = plain_number max (take (digits_at bytes) bytes)
    >>= λ number. Some (number, drop (digits_at bytes) bytes)
