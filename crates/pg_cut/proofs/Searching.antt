-- A search that halves what is left.
use Rattle.std.proofs.Common.{◌≡◌, ℕ, zero, suc, ◌+◌, ◌-◌, ◌*◌, ◌<◌, ◌≤◌, ◌^◌, List, length, get_or, add-zero, add-one, ◌∙◌, ap, arith}
use Rattle.std.specs.List.Sorted.{IsStrictlyIncreasing}
use Rattle.std.proofs.Math.Nat.{pow-suc, mul-le-mul_left, mul_assoc}

-- ascending numbers rise by at least one from place to place
pub rises : (xs : List ℕ) → IsStrictlyIncreasing xs → (i d : ℕ) → i + d < length xs → get_or xs i 0 + d ≤ get_or xs (i + d) 0
rises xs up i zero h = omega (arith, ap (λ k. get_or xs k 0) (add-zero i))
rises xs up i (suc d) h = let e : i + suc d ≡ (i + d) + 1 = omega arith in
    let before = rises xs up i d (omega arith) in
    let step = up (i + d) (omega arith) in
    omega (arith, before, step, ap (λ k. get_or xs k 0) e)

pub below_at : (xs : List ℕ) → IsStrictlyIncreasing xs → (i j : ℕ) → i ≤ j → j < length xs → get_or xs i 0 ≤ get_or xs j 0
below_at xs up i j le h = let e : i + (j - i) ≡ j = omega arith in
    omega (arith, rises xs up i (j - i) (omega arith), ap (λ k. get_or xs k 0) e)

-- one step more, on half of what was left
pub half_left : (s t n left bound : ℕ) → t ≡ s + 1 → 1 ≤ n → 2 * left ≤ n → 2 ^ s * (2 * n) ≤ bound → (2 ^ t * (2 * left) ≤ bound) × (2 ^ t ≤ bound)
half_left s t n left bound e some half cost = let double : 2 ^ t ≡ 2 ^ s * 2 = ap (λ k. 2 ^ k) (e ∙ add-one s) ∙ pow-suc 2 s in
    let few = mul-le-mul_left {m = 2 * (2 * left)} {n = 2 * n} (2 ^ s) (omega arith) in
    let one = mul-le-mul_left {m = 2} {n = 2 * n} (2 ^ s) (omega arith) in
    (rw (double, mul_assoc (2 ^ s) 2 (2 * left)) (omega (arith, few, cost)), rw double (omega (arith, one, cost)))
