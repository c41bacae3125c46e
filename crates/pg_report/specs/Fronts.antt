-- Readings by what stands at the front of bytes.
use Rattle.std.specs.Prelude.{ℕ, List, length, ◌==◌, Option, Some, None, if◌then◌else◌}
use Rattle.pg_journal.specs.Fronts.{◌>>=◌, behind, number_at}

-- a reading of what is behind a text, or another where the text doesn't stand at the front
abbrev pub either : {A : Type 0} → Option (List ℕ) → (List ℕ → Option A) → Option A → Option A
either None read other = other
either (Some rest) read other = read rest

abbrev pub on_front : {A : Type 0} → List ℕ → List ℕ → (List ℕ → Option A) → Option A → Option A
on_front text bytes read other = either (behind text bytes) read other

-- what was read, where nothing is left
abbrev pub at_end : {A : Type 0} → A → List ℕ → Option A
at_end x bytes = if length bytes == 0 then Some x else None

-- the number that is all that is left
abbrev pub last_number : ℕ → List ℕ → Option ℕ
last_number max bytes = number_at max bytes >>= λ found. at_end found.0 found.1
