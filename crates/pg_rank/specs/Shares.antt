-- Ranks in billionths, and what they bring over edges, modulo 2^64.
use Rattle.std.specs.Prelude.{ℕ, ◌+◌, ◌-◌, ◌*◌, ◌/◌, ◌%◌, ◌^◌, cond, ◌==◌}

-- what each of so many edges out brings
abbrev pub share : ℕ → ℕ → ℕ
share rank out = cond (out == 0) 0 (rank / out)

abbrev pub joined : ℕ → ℕ → ℕ
joined a b = (a + b) % 2 ^ 64

-- what leads from one number to another
abbrev pub change : ℕ → ℕ → ℕ
change old new = (new + (2 ^ 64 - old)) % 2 ^ 64

-- how far two numbers lie apart
abbrev pub distance : ℕ → ℕ → ℕ
distance a b = (a - b) + (b - a)

-- 15 hundredths of the rank 1, and 85 hundredths of what the edges in bring
abbrev pub rank : ℕ → ℕ
rank brought = 150000000 + 85 * brought / 100
