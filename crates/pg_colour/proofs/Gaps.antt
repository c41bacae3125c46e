-- The first gap in an ascending list is free, and all below it are taken.
use Rattle.std.proofs.Common.{◌≡◌, ℕ, ◌+◌, ◌<◌, ◌≤◌, Bool, true, false, cond, ◌==◌, List, [], ◌∷◌}
use Rattle.std.proofs.Common.{refl, ap, ◌∙◌, subst, inl, inr, arith}
use Rattle.std.specs.Prelude.{◌||◌}
use Rattle.std.proofs.lemmas.Bool.{eqb-true, cases_lt}
use Rattle.std.proofs.lemmas.Bool.Decides.{nat_tests}
use Rattle.pg_colour.specs.Colours.{AreColoursFrom, AreColours, has, gap_from}
use Rattle.pg_colour.specs.ColoursLaws.{has_none, same_is, below_is_not}

gap_low : (n : ℕ) (xs : List ℕ) → n ≤ gap_from n xs
gap_low n [] = omega arith
gap_low n (x ∷ xs) = chosen (x == n) (gap_low (n + 1) xs)
  where
    chosen : (same : Bool) → n + 1 ≤ gap_from (n + 1) xs → n ≤ cond same (gap_from (n + 1) xs) n
    chosen true le = omega arith
    chosen false le = omega arith

gap_free_from : (n : ℕ) (xs : List ℕ) → AreColoursFrom n xs → has xs (gap_from n xs) ≡ false
gap_free_from n [] own = refl
gap_free_from n (x ∷ xs) own = chosen (x == n) refl (gap_free_from (n + 1) xs)
  where
    later : (gap : ℕ) → x < gap → has xs gap ≡ false → has (x ∷ xs) gap ≡ false
    later gap lt h = ap (λ b. b || has xs gap) (below_is_not x gap lt) ∙ h

    other : (x n : ℕ) → n ≤ x → (x == n) ≡ false → n < x
    other x n le e = grind (arith, nat_tests)

    chosen : (same : Bool) → (x == n) ≡ same
        → (AreColoursFrom (n + 1) xs → has xs (gap_from (n + 1) xs) ≡ false)
        → has (x ∷ xs) (cond same (gap_from (n + 1) xs) n) ≡ false
    chosen true e rest = let P : ℕ → Type 0 = λ z. AreColoursFrom (z + 1) xs in
        later (gap_from (n + 1) xs) (omega (arith, eqb-true x n e, gap_low (n + 1) xs))
        (rest (subst P (eqb-true x n e) own.2))
    chosen false e rest = has_none x (x ∷ xs) n (omega arith, own.1, own.2) (other x n own.0 e)

gap_least_from : (n : ℕ) (xs : List ℕ) (c : ℕ) → n ≤ c → c < gap_from n xs → has xs c ≡ true
gap_least_from n [] c le lt = absurd (omega arith)
gap_least_from n (x ∷ xs) c le lt = chosen (x == n) refl lt (gap_least_from (n + 1) xs c)
  where
    chosen : (same : Bool) → (x == n) ≡ same → c < cond same (gap_from (n + 1) xs) n
        → (n + 1 ≤ c → c < gap_from (n + 1) xs → has xs c ≡ true) → has (x ∷ xs) c ≡ true
    chosen true e lt rest = elim (cases_lt n c) [
      | inl below ↦ ap (λ b. b || has xs c) (below_is_not x c (omega (arith, eqb-true x n e)))
          ∙ rest (omega arith) lt
      | inr above ↦ ap (λ b. b || has xs c) (same_is x c (omega (arith, eqb-true x n e)))
    ]
    chosen false e lt rest = absurd (omega arith)

pub gap_free : (xs : List ℕ) → AreColours xs → has xs (gap_from 0 xs) ≡ false
gap_free xs own = gap_free_from 0 xs own

pub gap_least : (xs : List ℕ) (c : ℕ) → c < gap_from 0 xs → has xs c ≡ true
gap_least xs c lt = gap_least_from 0 xs c (omega arith) lt
