-- Four counts of one list.
use Rattle.std.proofs.Common.{ℕ, ◌+◌, ◌≤◌, Bool, true, false, cond, ◌==◌, List, [], ◌∷◌, length, count_by, arith, ⊎_elim}
use Rattle.std.proofs.lemmas.Bool.{cases_eq, ne_eqb}
use Rattle.std.proofs.lemmas.List.Sums.{sum_by-cons}

one_at_most : (c : ℕ) → cond (c == 1) 1 0 + cond (c == 2) 1 0 + cond (c == 3) 1 0 + cond (c == 4) 1 0 ≤ 1
one_at_most c = ⊎_elim (λ e. rw e (omega arith)) (λ a. rw (ne_eqb c 1 a) (⊎_elim (λ e. rw e (omega arith)) (λ b. rw (ne_eqb c 2 b) (⊎_elim (λ e. rw e (omega arith))
    (λ d. rw (ne_eqb c 3 d) (last (c == 4))) (cases_eq c 3))) (cases_eq c 2))) (cases_eq c 1)
  where
    last : (b : Bool) → 0 + 0 + 0 + cond b 1 0 ≤ 1
    last true = omega arith
    last false = omega arith

pub four_few : (cases : List ℕ) → count_by (λ c. c == 1) cases + count_by (λ c. c == 2) cases + count_by (λ c. c == 3) cases + count_by (λ c. c == 4) cases ≤ length cases
four_few [] = omega arith
four_few (c ∷ cases) = let one = sum_by-cons (λ (c : ℕ). cond (c == 1) 1 0) c cases in
    let two = sum_by-cons (λ (c : ℕ). cond (c == 2) 1 0) c cases in
    let three = sum_by-cons (λ (c : ℕ). cond (c == 3) 1 0) c cases in
    let four = sum_by-cons (λ (c : ℕ). cond (c == 4) 1 0) c cases in
    omega (arith, one, two, three, four, four_few cases, one_at_most c)
