-- How many entries of a list pass a test.
use Rattle.std.proofs.Common.{ℕ, zero, suc, ◌+◌, ◌<◌, ◌≤◌, ◌≡◌, ◌≢◌, ◌⊎◌, length, take, List, [], ◌∷◌, slice_index_or, slice_set, Bool, true, false, cond, inl, inr, arith, refl, sym, ap, subst, ◌∙◌, add-one}
use Rattle.std.specs.Prelude.{filter, count_by}
use Rattle.std.specs.List.{range_with_len}
use Rattle.std.proofs.lemmas.List.{take_all}
use Rattle.std.proofs.lemmas.List.Sums.{sum_by-cons, sum_by-set, sum_by_more}
use Rattle.pg_graph.proofs.Numbers.{length_filter_more}
use Rattle.pg_meals.proofs.At.{same_or_not}

module _ {X : Type 0} (p : X → Bool) where
  pub count_by-cons : (x : X) (xs : List X) → count_by p (x ∷ xs) ≡ cond (p x) 1 0 + count_by p xs
  count_by-cons x xs = sum_by-cons (λ y. cond (p y) 1 0) x xs

  -- one entry is set
  pub count_by-set : (xs : List X) (i : ℕ) (y d : X) → i < length xs → count_by p (slice_set xs i y) + cond (p (slice_index_or xs i d)) 1 0 ≡ count_by p xs + cond (p y) 1 0
  count_by-set xs i y d l = sum_by-set (λ z. cond (p z) 1 0) xs i y d l

  -- no entry passes, or one does
  pub none_passes : (xs : List X) → count_by p xs ≡ 0 → (i : ℕ) (d : X) → i < length xs → p (slice_index_or xs i d) ≡ false
  none_passes [] none i d l = absurd (omega (arith, l))
  none_passes (x ∷ xs) none i d l = go (p x) refl (sym (count_by-cons x xs) ∙ none) (λ n j m. none_passes xs n j d m) i l
    where
      go : (b : Bool) → p x ≡ b → cond b 1 0 + count_by p xs ≡ 0 → (count_by p xs ≡ 0 → (j : ℕ) → j < length xs → p (slice_index_or xs j d) ≡ false) → (i : ℕ) → i < suc (length xs) → p (slice_index_or (x ∷ xs) i d) ≡ false
      go true t n rest i l = absurd (omega (arith, n))
      go false t n rest zero l = t
      go false t n rest (suc i) l = rest (omega (arith, n)) i (omega (arith, l))

  pub one_passes : (xs : List X) → count_by p xs ≢ 0 → (i : ℕ) × (i < length xs) × ((d : X) → p (slice_index_or xs i d) ≡ true)
  one_passes [] some = absurd (some refl)
  one_passes (x ∷ xs) some = go (p x) refl (one_passes xs)
    where
      go : (b : Bool) → p x ≡ b → (count_by p xs ≢ 0 → (i : ℕ) × (i < length xs) × ((d : X) → p (slice_index_or xs i d) ≡ true)) → (i : ℕ) × (i < suc (length xs)) × ((d : X) → p (slice_index_or (x ∷ xs) i d) ≡ true)
      go true t rest = (0, omega arith, λ d. t)
      go false t rest =
          let one = rest (λ n. some (count_by-cons x xs ∙ (ap (λ b. cond b 1 0 + count_by p xs) t ∙ omega (arith, n)))) in
          (suc one.0, omega (arith, one.1), one.2)

  pub count_none : (xs : List X) → ((i : ℕ) (d : X) → i < length xs → p (slice_index_or xs i d) ≡ false) → count_by p xs ≡ 0
  count_none [] none = refl
  count_none (x ∷ xs) none =
      count_by-cons x xs ∙ (ap (λ b. cond b 1 0 + count_by p xs) (none 0 x (omega arith)) ∙ omega (arith, count_none xs (λ i d l. none (suc i) d (omega (arith, l)))))

  -- lists that pass alike
  pub count_like : (xs ys : List X) → length xs ≡ length ys → ((i : ℕ) (d : X) → p (slice_index_or xs i d) ≡ p (slice_index_or ys i d)) → count_by p xs ≡ count_by p ys
  count_like [] [] same like = refl
  count_like [] (y ∷ ys) same like = absurd (omega (arith, same))
  count_like (x ∷ xs) [] same like = absurd (omega (arith, same))
  count_like (x ∷ xs) (y ∷ ys) same like =
      let head : p x ≡ p y = like 0 x in
      let rest = count_like xs ys (omega (arith, same)) (λ i d. like (suc i) d) in
      count_by-cons x xs ∙ ((λ j. cond (head j) 1 0 + rest j) ∙ sym (count_by-cons y ys))

  -- by the places of the entries
  module _ (xs : List X) (d : X) where
    abbrev test : ℕ → Bool
    test i = p (slice_index_or xs i d)

    places_upto : (n : ℕ) → n ≤ length xs → count_by p (take n xs) ≡ length (filter test (range_with_len 0 n))
    places_upto zero l = refl
    places_upto (suc n) l =
        let goal : ℕ → Type 0 = λ k. count_by p (take k xs) ≡ length (filter test (range_with_len 0 k)) in
        subst goal (add-one n) (sum_by_more (λ y. cond (p y) 1 0) xs n d (omega (arith, l)) ∙ (ap (λ k. k + cond (test n) 1 0) (places_upto n (omega (arith, l))) ∙ sym (length_filter_more test n)))

    pub count_places : count_by p xs ≡ length (filter test (range_with_len 0 (length xs)))
    count_places = ap (count_by p) (sym (take_all (length xs) xs (omega arith))) ∙ places_upto (length xs) (omega arith)

-- of two tests, one passes no number that the other doesn't
module _ (f h : ℕ → Bool) where
  abbrev pub Within : ℕ → Type 0
  Within n = (e : ℕ) → e < n → f e ≡ true → h e ≡ true

  abbrev passing : (ℕ → Bool) → ℕ → ℕ
  passing test n = length (filter test (range_with_len 0 n))

  more : (test : ℕ → Bool) (n : ℕ) → passing test (suc n) ≡ passing test n + cond (test n) 1 0
  more test n = ap (passing test) (sym (add-one n)) ∙ length_filter_more test n

  one_less : (b k : Bool) → (b ≡ true → k ≡ true) → cond b 1 0 ≤ cond k 1 0
  one_less true k t = let q : k ≡ true = t refl in rw (q) (omega arith)
  one_less false k t = omega arith

  pub within_fewer : (n : ℕ) → Within n → passing f n ≤ passing h n
  within_fewer zero w = omega arith
  within_fewer (suc n) w =
      let rest = within_fewer n (λ e i. w e (omega (arith, i))) in
      let last = one_less (f n) (h n) (w n (omega arith)) in
      omega (arith, rest, last, more f n, more h n)

  -- and as many: then it passes the same
  pub within_all : (n : ℕ) → Within n → passing f n ≡ passing h n → (e : ℕ) → e < n → h e ≡ true → f e ≡ true
  within_all zero w same e i t = absurd (omega (arith, i))
  within_all (suc n) w same e i t = go (within_all n (λ k j. w k (omega (arith, j)))) (same_or_not e n)
    where
      rest : passing f n ≤ passing h n
      rest = within_fewer n (λ e i. w e (omega (arith, i)))

      last : (b k : Bool) → (b ≡ true → k ≡ true) → passing f n + cond b 1 0 ≡ passing h n + cond k 1 0 → k ≡ true → b ≡ true
      last true k t q s = refl
      last false true t q s = absurd (omega (arith, q, rest))
      last false false t q s = s

      both : passing f n + cond (f n) 1 0 ≡ passing h n + cond (h n) 1 0
      both = sym (more f n) ∙ (same ∙ more h n)

      before : passing f n ≡ passing h n
      before = omega (arith, both, rest, one_less (f n) (h n) (w n (omega arith)))

      go : (passing f n ≡ passing h n → (e : ℕ) → e < n → h e ≡ true → f e ≡ true) → (e ≡ n) ⊎ (e ≢ n) → f e ≡ true
      go earlier (inl q) = ap f q ∙ last (f n) (h n) (w n (omega arith)) both (ap h (sym q) ∙ t)
      go earlier (inr d) = earlier before e (omega (arith, i, d)) t
