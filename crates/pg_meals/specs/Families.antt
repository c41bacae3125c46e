-- Families of values, one for each number.
use Rattle.std.specs.Prelude.{ℕ, zero, suc, ◌==◌, cond}

-- the family, with x in the place of i
abbrev pub set_at : {X : Type 0} → (ℕ → X) → ℕ → X → ℕ → X
set_at f i x j = cond (j == i) x (f j)

-- the sum of the first n of them
abbrev pub total : {X : Type 0} → (X → X → X) → X → (ℕ → X) → ℕ → X
total add unit f zero = unit
total add unit f (suc n) = add (total add unit f n) (f n)
