-- The numbers below a bound that pass a test.
use Rattle.std.proofs.Common.{◌≡◌, ℕ, zero, suc, ◌+◌, ◌<◌, ◌≤◌, Bool, true, false, List, [], ◌∷◌, length, get_or, refl, sym, subst, ◌∙◌, ap, arith, add-one, ⊎_elim}
use Rattle.std.specs.Prelude.{filter}
use Rattle.std.specs.List.{range_with_len}
use Rattle.std.proofs.lemmas.Bool.{cases_lt}
use Rattle.std.proofs.lemmas.List.{get_or_append_left, get_or_push}
use Rattle.pg_graph.proofs.Numbers.{filter_numbers_more, length_filter_more}

-- tests that agree below the bound
pub filter_agree_below : (p q : ℕ → Bool) (n : ℕ) → ((k : ℕ) → k < n → p k ≡ q k) → filter p (range_with_len 0 n) ≡ filter q (range_with_len 0 n)
filter_agree_below p q zero agree = refl
filter_agree_below p q (suc n) agree = let P : ℕ → Type 0 = λ m. filter p (range_with_len 0 m) ≡ filter q (range_with_len 0 m) in
    let before = filter_agree_below p q n (λ k h. agree k (omega arith)) in
    let last : p n ≡ q n = agree n (omega arith) in
    let next : P (n + 1) = filter_numbers_more p n ∙ rw (before, last) (sym (filter_numbers_more q n)) in
    subst P (add-one n) next

-- no number passes
pub none_below : (p : ℕ → Bool) (n : ℕ) → ((k : ℕ) → k < n → p k ≡ false) → filter p (range_with_len 0 n) ≡ []
none_below p n fails = filter_agree_below p (λ _. false) n fails ∙ nothing (range_with_len 0 n)
  where
    nothing : (xs : List ℕ) → filter (λ _. false) xs ≡ []
    nothing [] = refl
    nothing (x ∷ xs) = nothing xs

-- a number that passes stands behind those below it
pub passing_longer : (p : ℕ → Bool) (w n : ℕ) → w < n → p w ≡ true → length (filter p (range_with_len 0 w)) < length (filter p (range_with_len 0 n))
passing_longer p w zero h t = absurd (omega arith)
passing_longer p w (suc n) h t = let P : ℕ → Type 0 = λ m. length (filter p (range_with_len 0 w)) < length (filter p (range_with_len 0 m)) in
    let more = length_filter_more p n in
    let below : w < n → P (n + 1) = λ l. omega (arith, passing_longer p w n l t, more) in
    let last : n ≤ w → P (n + 1) = λ l. let e : n ≡ w = omega arith in
    let here : p n ≡ true = ap p e ∙ t in
    let longer = rw here at more in
    omega (arith, longer, ap (λ m. length (filter p (range_with_len 0 m))) e) in
    subst P (add-one n) (⊎_elim below last (cases_lt w n))

-- and at that place
pub passing_at : (p : ℕ → Bool) (w n : ℕ) → w < n → p w ≡ true → get_or (filter p (range_with_len 0 n)) (length (filter p (range_with_len 0 w))) 0 ≡ w
passing_at p w zero h t = absurd (omega arith)
passing_at p w (suc n) h t =
    let at = length (filter p (range_with_len 0 w)) in
    let P : ℕ → Type 0 = λ m. get_or (filter p (range_with_len 0 m)) at 0 ≡ w in
    let before = filter p (range_with_len 0 n) in
    let below : w < n → P (n + 1) = λ l. rw (filter_numbers_more p n) (get_or_append_left before _ 0 at (passing_longer p w n l t) ∙ passing_at p w n l t) in
    let last : n ≤ w → P (n + 1) = λ l. let e : n ≡ w = omega arith in
    rw (filter_numbers_more p n) (rw (ap p e ∙ t) (get_or_push before n 0 at (ap (λ k. length (filter p (range_with_len 0 k))) e) ∙ e)) in
    subst P (add-one n) (⊎_elim below last (cases_lt w n))
