-- Lengths of paths, in words.
use Rattle.std.specs.Prelude.{ℕ, ◌+◌, min}
use Rattle.pg_law.specs.Words.{greatest}

-- a sum that stays at the greatest word
abbrev pub plus : ℕ → ℕ → ℕ
plus length weight = min (length + weight) greatest
