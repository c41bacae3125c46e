-- The words that data, messages and accumulators are made of.
use Rattle.std.specs.Prelude.{ℕ, ◌<◌, ◌-◌, ◌^◌}

-- what 64 bits hold
abbrev pub IsU64 : ℕ → Type 0
IsU64 n = n < 2 ^ 64

-- the greatest of them
abbrev pub greatest : ℕ
greatest = 2 ^ 64 - 1
