-- Lists of numbers in which each stands once.
use Rattle.std.specs.Prelude.{ℕ, ◌≡◌, ◌==◌, List, [], ◌∷◌, Bool, true, false, cond}

-- whether a number stands in a list
abbrev pub is_among : ℕ → List ℕ → Bool
is_among k [] = false
is_among k (x ∷ xs) = cond (k == x) true (is_among k xs)

abbrev pub Once : List ℕ → Type 0
Once [] = Unit {0}
Once (x ∷ xs) = (is_among x xs ≡ false) × Once xs
