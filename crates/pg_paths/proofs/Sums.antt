-- Sums over the first numbers.
use Rattle.std.proofs.Common.{◌≡◌, ℕ, zero, suc, ◌+◌, ◌<◌, ◌≤◌, ◌⊎◌, ◌∷◌, [], refl, sym, ◌∙◌, ap}
use Rattle.std.proofs.Common.{subst, arith, add-one, inl, inr}
use Rattle.std.specs.Prelude.{sum_by}
use Rattle.std.specs.List.{range_with_len}
use Rattle.std.proofs.lemmas.Bool.{cases_order}
use Rattle.std.proofs.lemmas.List.Sums.{sum_by-append}
use Rattle.pg_graph.proofs.Numbers.{numbers_more}

abbrev pub sum_below : (ℕ → ℕ) → ℕ → ℕ
sum_below f n = sum_by f (range_with_len 0 n)

sum_more : (f : ℕ → ℕ) (n : ℕ) → sum_below f (n + 1) ≡ sum_below f n + f n
sum_more f n = omega (
  arith,
  ap (sum_by f) (numbers_more n),
  sum_by-append f (range_with_len 0 n) (n ∷ []),
)

sum_suc : (f : ℕ → ℕ) (n : ℕ) → sum_below f (suc n) ≡ sum_below f n + f n
sum_suc f n = ap (sum_below f) (sym (add-one n)) ∙ sum_more f n

pub sum_ones : (n : ℕ) → sum_below (λ v. 1) n ≡ n
sum_ones zero = refl
sum_ones (suc n) = omega (arith, sum_suc (λ v. 1) n, sum_ones n)

-- no summand is greater
pub sums_within : (f h : ℕ → ℕ) (n : ℕ) → ((v : ℕ) → v < n → f v ≤ h v)
    → sum_below f n ≤ sum_below h n
sums_within f h zero le = omega arith
sums_within f h (suc n) le = omega (
  arith,
  sum_suc f n,
  sum_suc h n,
  le n (omega arith),
  sums_within f h n (λ v below. le v (omega arith)),
)

-- and one of them is less
pub sums_less : (f h : ℕ → ℕ) (n u : ℕ) → ((v : ℕ) → v < n → f v ≤ h v) → u < n → f u < h u
    → sum_below f n < sum_below h n
sums_less f h zero u le inside less = absurd (omega arith)
sums_less f h (suc n) u le inside less = by_place
    (sums_less f h n u (λ v below. le v (omega arith))) (cases_order u n)
  where
    by_place : (u < n → f u < h u → sum_below f n < sum_below h n)
        → (u ≡ n) ⊎ ((u < n) ⊎ (n < u)) → sum_below f (suc n) < sum_below h (suc n)
    by_place before (inl same) =
        let last : f n < h n = subst (λ (k : ℕ). f k < h k) same less in
        omega (
          arith,
          sum_suc f n,
          sum_suc h n,
          last,
          sums_within f h n (λ v below. le v (omega arith)),
        )
    by_place before (inr (inl below)) = omega (
      arith,
      sum_suc f n,
      sum_suc h n,
      le n (omega arith),
      before below less,
    )
    by_place before (inr (inr above)) = absurd (omega arith)

-- a number of which the summand isn't 0
pub some_counted : (f : ℕ → ℕ) (n : ℕ) → 0 < sum_below f n → (v : ℕ) × (v < n) × (0 < f v)
some_counted f zero h = absurd (omega arith)
some_counted f (suc n) h = by_last (cases_order (f n) 0) (some_counted f n)
  where
    further : (v : ℕ) × (v < n) × (0 < f v) → (v : ℕ) × (v < suc n) × (0 < f v)
    further (v, below, positive) = (v, omega arith, positive)

    by_last : (f n ≡ 0) ⊎ ((f n < 0) ⊎ (0 < f n))
        → (0 < sum_below f n → (v : ℕ) × (v < n) × (0 < f v)) → (v : ℕ) × (v < suc n) × (0 < f v)
    by_last (inl none) before = further (before (omega (arith, sum_suc f n, h)))
    by_last (inr (inl below)) before = absurd (omega arith)
    by_last (inr (inr positive)) before = (n, omega arith, positive)
