-- Sets of colours, as ascending lists.
use Rattle.std.specs.Prelude.{◌≡◌, ℕ, ◌+◌, ◌<◌, ◌≤◌, ◌^◌, Bool, true, false, cond, ◌||◌, ◌==◌}
use Rattle.std.specs.Prelude.{nat_lt, List, [], ◌∷◌, fold, Option, Some, None}

-- strictly ascending words, the first of them no less than `low`
abbrev pub AreColoursFrom : ℕ → List ℕ → Type 0
AreColoursFrom low [] = Unit {0}
AreColoursFrom low (x ∷ xs) = (low ≤ x) × (x < 2 ^ 64) × AreColoursFrom (x + 1) xs

abbrev pub AreColours : List ℕ → Type 0
AreColours xs = AreColoursFrom 0 xs

-- the only colour, where there is one, or else those of the list
abbrev pub colours_of : Option ℕ → List ℕ → List ℕ
colours_of (Some only) items = only ∷ []
colours_of None items = items

-- whether a colour stands in the list
abbrev pub has : List ℕ → ℕ → Bool
has [] c = false
has (x ∷ xs) c = (x == c) || has xs c

abbrev pub ContainsAll : List ℕ → List ℕ → Type 0
ContainsAll xs ys = (c : ℕ) → has ys c ≡ true → has xs c ≡ true

-- with one more colour, at its place, and unchanged where it is there
abbrev pub with_colour : List ℕ → ℕ → List ℕ
with_colour [] c = c ∷ []
with_colour (x ∷ xs) c = cond (nat_lt c x) (c ∷ x ∷ xs)
    (cond (x == c) (x ∷ xs) (x ∷ with_colour xs c))

-- with all colours of another list
abbrev pub union : List ℕ → List ℕ → List ℕ
union xs ys = fold with_colour xs ys

-- the least number from this one on that isn't in the list, which has none below it
abbrev pub gap_from : ℕ → List ℕ → ℕ
gap_from n [] = n
gap_from n (x ∷ xs) = cond (x == n) (gap_from (n + 1) xs) n

-- the least word that isn't in the list, and 0 where all are
abbrev pub least_free : List ℕ → ℕ
least_free xs = let gap = gap_from 0 xs in cond (gap == 2 ^ 64) 0 gap
