-- Two ascending lists with the same colours are one list, so unions don't depend on order.
use Rattle.std.proofs.Common.{◌≡◌, ℕ, ◌+◌, ◌<◌, ◌≤◌, ◌^◌, Bool, true, false, cond, ◌==◌, List, []}
use Rattle.std.proofs.Common.{◌∷◌, refl, sym, ap, ◌∙◌, subst, inl, inr, arith}
use Rattle.std.specs.Prelude.{◌||◌, nat_lt}
use Rattle.std.proofs.lemmas.Bool.{true≢false, eqb-true, cases_lt}
use Rattle.std.proofs.lemmas.Bool.Decides.{nat_tests}
use Rattle.pg_colour.specs.Colours.{AreColoursFrom, AreColours, has, with_colour, union, gap_from}
use Rattle.pg_colour.specs.Colours.{least_free}

pub or_comm : (a b : Bool) → (a || b) ≡ (b || a)
or_comm true true = refl
or_comm true false = refl
or_comm false true = refl
or_comm false false = refl

or_assoc : (a b c : Bool) → ((a || b) || c) ≡ (a || (b || c))
or_assoc true b c = refl
or_assoc false b c = refl

or_absorb : (a b : Bool) → (a || b) ≡ ((a || b) || a)
or_absorb true b = refl
or_absorb false b = or_comm false b

-- tests of two numbers
pub same_is : (x y : ℕ) → x ≡ y → (x == y) ≡ true
same_is x y e = grind (arith, nat_tests)

pub below_is_not : (x y : ℕ) → x < y → (x == y) ≡ false
below_is_not x y lt = grind (arith, nat_tests)

pub above_is_not : (x y : ℕ) → y < x → (x == y) ≡ false
above_is_not x y lt = grind (arith, nat_tests)

below_from : (x y : ℕ) → nat_lt x y ≡ true → x + 1 ≤ y
below_from x y h = grind (arith, nat_tests)

pub above_from : (x y : ℕ) → nat_lt x y ≡ false → (y == x) ≡ false → y + 1 ≤ x
above_from x y h e = grind (arith, nat_tests)

-- what stands in a list with one colour more, and in a union
has_with : (xs : List ℕ) (c d : ℕ) → has (with_colour xs c) d ≡ (has xs d || (c == d))
has_with [] c d = or_comm (c == d) false
has_with (x ∷ xs) c d = chosen (nat_lt c x) (x == c) refl (has_with xs c d)
  where
    chosen : (below same : Bool) → (x == c) ≡ same
        → has (with_colour xs c) d ≡ (has xs d || (c == d))
        → has (cond below (c ∷ x ∷ xs) (cond same (x ∷ xs) (x ∷ with_colour xs c))) d
        ≡ (((x == d) || has xs d) || (c == d))
    chosen true same e rest = or_comm (c == d) ((x == d) || has xs d)
    chosen false true e rest = or_absorb (x == d) (has xs d)
        ∙ ap (λ y. ((x == d) || has xs d) || (y == d)) (eqb-true x c e)
    chosen false false e rest = ap (λ b. (x == d) || b) rest
        ∙ sym (or_assoc (x == d) (has xs d) (c == d))

pub has_union : (xs ys : List ℕ) (d : ℕ) → has (union xs ys) d ≡ (has xs d || has ys d)
has_union xs [] d = or_comm false (has xs d)
has_union xs (y ∷ ys) d = has_union (with_colour xs y) ys d
    ∙ ap (λ b. b || has ys d) (has_with xs y d) ∙ or_assoc (has xs d) (y == d) (has ys d)

pub with_own : (low : ℕ) (xs : List ℕ) (c : ℕ) → AreColoursFrom low xs → low ≤ c → c < 2 ^ 64
    → AreColoursFrom low (with_colour xs c)
with_own low [] c own le lt = (le, lt, tt)
with_own low (x ∷ xs) c own le lt = chosen (nat_lt c x) (x == c) refl refl
    (λ above. with_own (x + 1) xs c own.2 above lt)
  where
    chosen : (below same : Bool) → nat_lt c x ≡ below → (x == c) ≡ same
        → (x + 1 ≤ c → AreColoursFrom (x + 1) (with_colour xs c))
        → AreColoursFrom low (cond below (c ∷ x ∷ xs) (cond same (x ∷ xs) (x ∷ with_colour xs c)))
    chosen true same b e rest = (le, lt, (below_from c x b, own.1, own.2))
    chosen false true b e rest = own
    chosen false false b e rest = (own.0, own.1, rest (above_from c x b e))

union_own_from : (low : ℕ) (xs ys : List ℕ) → AreColours xs → AreColoursFrom low ys
    → AreColours (union xs ys)
union_own_from low xs [] hx hy = hx
union_own_from low xs (y ∷ ys) hx hy = union_own_from (y + 1) (with_colour xs y) ys
    (with_own 0 xs y hx (omega arith) hy.1) hy.2

pub union_own : (xs ys : List ℕ) → AreColours xs → AreColours ys → AreColours (union xs ys)
union_own xs ys hx hy = union_own_from 0 xs ys hx hy

-- nothing stands below the first
pub has_none : (low : ℕ) (xs : List ℕ) (c : ℕ) → AreColoursFrom low xs → c < low → has xs c ≡ false
has_none low [] c own lt = refl
has_none low (x ∷ xs) c own lt = ap (λ b. b || has xs c) (above_is_not x c (omega (arith, own.0)))
    ∙ has_none (x + 1) xs c own.2 (omega (arith, own.0))

pub has_first : (x : ℕ) (xs : List ℕ) → has (x ∷ xs) x ≡ true
has_first x xs = ap (λ b. b || has xs x) (same_is x x refl)

first_below : (low y x : ℕ) (ys : List ℕ) → AreColoursFrom low (y ∷ ys) → has (y ∷ ys) x ≡ true
    → y ≤ x
first_below low y x ys own h = elim (cases_lt x y) [
  | inl lt ↦ absurd (true≢false (sym h ∙ has_none y (y ∷ ys) x (omega arith, own.1, own.2) lt))
  | inr le ↦ le
]

later_same : (x : ℕ) (xs ys : List ℕ) → AreColoursFrom (x + 1) xs → AreColoursFrom (x + 1) ys
    → ((c : ℕ) → has (x ∷ xs) c ≡ has (x ∷ ys) c) → (c : ℕ) → has xs c ≡ has ys c
later_same x xs ys hx hy same c = elim (cases_lt x c) [
  | inl lt ↦ sym (ap (λ b. b || has xs c) (below_is_not x c lt)) ∙ same c
      ∙ ap (λ b. b || has ys c) (below_is_not x c lt)
  | inr le ↦ has_none (x + 1) xs c hx (omega arith) ∙ sym (has_none (x + 1) ys c hy (omega arith))
]

pub same_colours : (low : ℕ) (xs ys : List ℕ) → AreColoursFrom low xs → AreColoursFrom low ys
    → ((c : ℕ) → has xs c ≡ has ys c) → xs ≡ ys
same_colours low [] [] hx hy same = refl
same_colours low [] (y ∷ ys) hx hy same = absurd (true≢false (sym (has_first y ys) ∙ sym (same y)))
same_colours low (x ∷ xs) [] hx hy same = absurd (true≢false (sym (has_first x xs) ∙ same x))
same_colours low (x ∷ xs) (y ∷ ys) hx hy same = joined one_first
    (λ own all. same_colours (x + 1) xs ys hx.2 own (later_same x xs ys hx.2 own all))
  where
    one_first : y ≡ x
    one_first = let below = first_below low y x ys hy (sym (same x) ∙ has_first x xs) in
        let above = first_below low x y xs hx (same y ∙ has_first y ys) in
        omega (arith, below, above)

    joined : y ≡ x
        → (AreColoursFrom (x + 1) ys → ((c : ℕ) → has (x ∷ xs) c ≡ has (x ∷ ys) c) → xs ≡ ys)
        → x ∷ xs ≡ y ∷ ys
    joined e later = let P : ℕ → Type 0 = λ z. AreColoursFrom (z + 1) ys in
        ap (λ zs. x ∷ zs) (later (subst P e hy.2) (λ c. same c ∙ ap (λ z. has (z ∷ ys) c) e))
        ∙ ap (λ z. z ∷ ys) (sym e)

pub union_unit : (xs : List ℕ) → AreColours xs → union [] xs ≡ xs
union_unit xs h = same_colours 0 (union [] xs) xs (union_own [] xs tt h) h (has_union [] xs)

pub union_comm : (xs ys : List ℕ) → AreColours xs → AreColours ys → union xs ys ≡ union ys xs
union_comm xs ys hx hy = same_colours 0 (union xs ys) (union ys xs) (union_own xs ys hx hy)
    (union_own ys xs hy hx)
    (λ c. has_union xs ys c ∙ or_comm (has xs c) (has ys c) ∙ sym (has_union ys xs c))

pub union_assoc : (xs ys zs : List ℕ) → AreColours xs → AreColours ys → AreColours zs
    → union (union xs ys) zs ≡ union xs (union ys zs)
union_assoc xs ys zs hx hy hz = same_colours 0 (union (union xs ys) zs) (union xs (union ys zs))
    (union_own (union xs ys) zs (union_own xs ys hx hy) hz)
    (union_own xs (union ys zs) hx (union_own ys zs hy hz))
    (λ c. has_union (union xs ys) zs c ∙ ap (λ b. b || has zs c) (has_union xs ys c)
    ∙ or_assoc (has xs c) (has ys c) (has zs c)
    ∙ sym (has_union xs (union ys zs) c ∙ ap (λ b. has xs c || b) (has_union ys zs c)))

-- the first gap
gap_within : (n low : ℕ) (xs : List ℕ) → AreColoursFrom low xs → n ≤ 2 ^ 64 → gap_from n xs ≤ 2 ^ 64
gap_within n low [] own le = le
gap_within n low (x ∷ xs) own le = chosen (x == n) refl
    (λ more. gap_within (n + 1) (x + 1) xs own.2 more)
  where
    chosen : (same : Bool) → (x == n) ≡ same → (n + 1 ≤ 2 ^ 64 → gap_from (n + 1) xs ≤ 2 ^ 64)
        → cond same (gap_from (n + 1) xs) n ≤ 2 ^ 64
    chosen true e rest = rest (omega (arith, eqb-true x n e, own.1))
    chosen false e rest = le

pub least_free_own : (xs : List ℕ) → AreColours xs → least_free xs < 2 ^ 64
least_free_own xs h = chosen (gap_from 0 xs == 2 ^ 64) refl
  where
    within : (gap : ℕ) → gap ≤ 2 ^ 64 → (gap == 2 ^ 64) ≡ false → gap < 2 ^ 64
    within gap le e = grind (arith, nat_tests)

    chosen : (full : Bool) → (gap_from 0 xs == 2 ^ 64) ≡ full → cond full 0 (gap_from 0 xs) < 2 ^ 64
    chosen true e = omega arith
    chosen false e = within (gap_from 0 xs) (gap_within 0 0 xs h (omega arith)) e
