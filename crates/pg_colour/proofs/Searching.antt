-- Where a binary search for a colour ends, and what an insertion there gives.
use Rattle.std.proofs.Common.{◌≡◌, ℕ, zero, suc, ◌+◌, ◌<◌, ◌≤◌, Bool, true, false, cond, ◌==◌}
use Rattle.std.proofs.Common.{List, [], ◌∷◌, length, get_or, take, Result, Ok, Err, refl, sym, ap}
use Rattle.std.proofs.Common.{◌∙◌, subst, inl, inr, arith}
use Rattle.std.specs.Prelude.{nat_lt, is_ok, ◌||◌}
use Rattle.std.specs.List.{insert}
use Rattle.std.specs.List.Sorted.{IsBinarySearchResult}
use Rattle.std.specs.Ordering.{nat_cmp}
use Rattle.std.proofs.lemmas.Bool.{true≢false, cases_lt}
use Rattle.std.proofs.lemmas.Bool.Decides.{nat_tests}
use Rattle.std.proofs.lemmas.List.{take_more}
use Rattle.std.proofs.lemmas.List.Sums.{fold-append}
use Rattle.std.proofs.lemmas.List.Sorted.{searched}
use Rattle.pg_colour.specs.Colours.{AreColoursFrom, AreColours, has, with_colour, union}
use Rattle.pg_colour.specs.ColoursLaws.{has_none, has_first, or_comm, below_is_not, above_is_not}

low_below : (low : ℕ) (xs : List ℕ) → AreColoursFrom low xs → (j : ℕ) → j < length xs
    → low ≤ get_or xs j 0
low_below low [] own j lt = absurd (omega arith)
low_below low (x ∷ xs) own zero lt = own.0
low_below low (x ∷ xs) own (suc j) lt =
    omega (arith, own.0, low_below (x + 1) xs own.2 j (omega arith))

ascending : (low : ℕ) (xs : List ℕ) → AreColoursFrom low xs → (i j : ℕ) → i ≤ j → j < length xs
    → get_or xs i 0 ≤ get_or xs j 0
ascending low [] own i j le lt = absurd (omega arith)
ascending low (x ∷ xs) own zero zero le lt = omega arith
ascending low (x ∷ xs) own zero (suc j) le lt =
    omega (arith, low_below (x + 1) xs own.2 j (omega arith))
ascending low (x ∷ xs) own (suc i) zero le lt = absurd (omega arith)
ascending low (x ∷ xs) own (suc i) (suc j) le lt =
    ascending (x + 1) xs own.2 i j (omega arith) (omega arith)

pub has_at : (xs : List ℕ) (i : ℕ) → i < length xs → has xs (get_or xs i 0) ≡ true
has_at [] i lt = absurd (omega arith)
has_at (x ∷ xs) zero lt = has_first x xs
has_at (x ∷ xs) (suc i) lt = ap (λ b. (x == get_or xs i 0) || b) (has_at xs i (omega arith))
    ∙ or_comm (x == get_or xs i 0) true

has_nowhere : (xs : List ℕ) (c : ℕ) → ((k : ℕ) → k < length xs → (get_or xs k 0 == c) ≡ false)
    → has xs c ≡ false
has_nowhere [] c apart = refl
has_nowhere (x ∷ xs) c apart = ap (λ b. b || has xs c) (apart 0 (omega arith))
    ∙ has_nowhere xs c (λ k lt. apart (suc k) (omega arith))

-- the place between what is below and what is above
record IsGap (xs : List ℕ) (c place : ℕ) : Type 0 where
  within : place ≤ length xs
  below : (k : ℕ) → k < place → get_or xs k 0 < c
  above : (k : ℕ) → place ≤ k → k < length xs → c < get_or xs k 0

gap_found : (xs : List ℕ) (c place : ℕ) → AreColours xs
    → IsBinarySearchResult (λ y. nat_cmp y c) xs (Err place) → IsGap xs c place
gap_found xs c place own found = let s = searched xs c (Err place) found (ascending 0 xs own) in
    record { within = s.0; below = s.1; above = s.2 }

lt_is : (x y : ℕ) → x < y → nat_lt x y ≡ true
lt_is x y lt = grind (arith, nat_tests)

lt_is_not : (x y : ℕ) → y < x → nat_lt x y ≡ false
lt_is_not x y lt = grind (arith, nat_tests)

with_first : (x : ℕ) (xs : List ℕ) (c : ℕ) → c < x → with_colour (x ∷ xs) c ≡ c ∷ x ∷ xs
with_first x xs c lt = ap (λ b. cond b (c ∷ x ∷ xs) (cond (x == c) (x ∷ xs) (x ∷ with_colour xs c)))
    (lt_is c x lt)

with_later : (x : ℕ) (xs : List ℕ) (c : ℕ) → x < c → with_colour (x ∷ xs) c ≡ x ∷ with_colour xs c
with_later x xs c lt = ap (λ b. cond b (c ∷ x ∷ xs) (cond (x == c) (x ∷ xs) (x ∷ with_colour xs c)))
    (lt_is_not c x lt)
    ∙ ap (λ b. cond b (x ∷ xs) (x ∷ with_colour xs c)) (below_is_not x c lt)

insert_is : (xs : List ℕ) (c place : ℕ) → IsGap xs c place → insert xs place c ≡ with_colour xs c
insert_is [] c zero gap = refl
insert_is [] c (suc place) gap = absurd (omega (arith, gap.within))
insert_is (x ∷ xs) c zero gap = sym (with_first x xs c (gap.above 0 (omega arith) (omega arith)))
insert_is (x ∷ xs) c (suc place) gap = ap (λ zs. x ∷ zs) (insert_is xs c place later)
    ∙ sym (with_later x xs c (gap.below 0 (omega arith)))
  where
    later : IsGap xs c place
    later = record {
      within = omega (arith, gap.within);
      below = λ k lt. gap.below (suc k) (omega arith);
      above = λ k le lt. gap.above (suc k) (omega arith) (omega arith);
    }

has_not_in_gap : (xs : List ℕ) (c place : ℕ) → IsGap xs c place → has xs c ≡ false
has_not_in_gap xs c place gap = has_nowhere xs c (λ k lt. elim (cases_lt k place) [
  | inl before ↦ below_is_not (get_or xs k 0) c (gap.below k before)
  | inr after ↦ above_is_not (get_or xs k 0) c (gap.above k after lt)
])

pub placed : (xs : List ℕ) (c place : ℕ) → AreColours xs
    → IsBinarySearchResult (λ y. nat_cmp y c) xs (Err place) → insert xs place c ≡ with_colour xs c
placed xs c place own found = insert_is xs c place (gap_found xs c place own found)

pub missing : (xs : List ℕ) (c place : ℕ) → AreColours xs
    → IsBinarySearchResult (λ y. nat_cmp y c) xs (Err place) → has xs c ≡ false
missing xs c place own found = has_not_in_gap xs c place (gap_found xs c place own found)

pub there : (xs : List ℕ) (c place : ℕ) → AreColours xs
    → IsBinarySearchResult (λ y. nat_cmp y c) xs (Ok place) → has xs c ≡ true
there xs c place own found = let s = searched xs c (Ok place) found (ascending 0 xs own) in
    ap (λ y. has xs y) (sym s.1) ∙ has_at xs place s.0

pub is_there : (xs : List ℕ) (c : ℕ) (r : Result ℕ ℕ) → AreColours xs
    → IsBinarySearchResult (λ y. nat_cmp y c) xs r → is_ok r ≡ has xs c
is_there xs c (Ok place) own found = sym (there xs c place own found)
is_there xs c (Err place) own found = sym (missing xs c place own found)

lt_from : (x y : ℕ) → nat_lt x y ≡ true → x < y
lt_from x y h = grind (arith, nat_tests)

-- the same search, of what is the same list
pub found_in : (ys xs : List ℕ) (c : ℕ) (r : Result ℕ ℕ) → ys ≡ xs
    → IsBinarySearchResult (λ y. nat_cmp y c) ys r → IsBinarySearchResult (λ y. nat_cmp y c) xs r
found_in ys xs c r same found =
    let P : List ℕ → Type 0 = λ zs. IsBinarySearchResult (λ y. nat_cmp y c) zs r in
    subst P same found

-- a colour that is there changes nothing
with_known : (low : ℕ) (xs : List ℕ) (c : ℕ) → AreColoursFrom low xs → has xs c ≡ true
    → with_colour xs c ≡ xs
with_known low [] c own h = absurd (true≢false (sym h))
with_known low (x ∷ xs) c own h = chosen (nat_lt c x) (x == c) refl refl
    (λ later. with_known (x + 1) xs c own.2 later)
  where
    chosen : (below same : Bool) → nat_lt c x ≡ below → (x == c) ≡ same
        → (has xs c ≡ true → with_colour xs c ≡ xs)
        → cond below (c ∷ x ∷ xs) (cond same (x ∷ xs) (x ∷ with_colour xs c)) ≡ x ∷ xs
    chosen true same b e later = absurd
        (true≢false (sym h ∙ has_none x (x ∷ xs) c (omega arith, own.1, own.2) (lt_from c x b)))
    chosen false true b e later = refl
    chosen false false b e later = ap (λ zs. x ∷ zs) (later (sym (ap (λ b. b || has xs c) e) ∙ h))

pub known : (xs : List ℕ) (c place : ℕ) → AreColours xs
    → IsBinarySearchResult (λ y. nat_cmp y c) xs (Ok place) → xs ≡ with_colour xs c
known xs c place own found = sym (with_known 0 xs c own (there xs c place own found))

-- a union with one colour more
pub union_more : (xs ys : List ℕ) (i : ℕ) → i < length ys
    → union xs (take (i + 1) ys) ≡ with_colour (union xs (take i ys)) (get_or ys i 0)
union_more xs ys i lt = ap (λ zs. union xs zs) (take_more ys i 0 lt)
    ∙ fold-append with_colour xs (take i ys) (get_or ys i 0 ∷ [])
