-- What a fold over numbers that pass a test keeps, and what one of them makes true.
use Rattle.std.proofs.Common.{◌≡◌, ℕ, zero, suc, ◌+◌, ◌<◌, ◌⊎◌, Bool, true, false, cond, List, []}
use Rattle.std.proofs.Common.{◌∷◌}
use Rattle.std.proofs.Common.{refl, sym, subst, ap, ◌∙◌, inl, inr, arith, add-one}
use Rattle.std.specs.Prelude.{filter, fold}
use Rattle.std.specs.List.{range_with_len}
use Rattle.std.proofs.lemmas.Bool.{cases_order}
use Rattle.pg_graph.proofs.Numbers.{fold_filter_more}

-- each number keeps the fact
pub fold_over : {B : Type 0} (P : B → Type 0) (f : B → ℕ → B) (q : ℕ → Bool) (n : ℕ)
    → ((b : B) (x : ℕ) → x < n → q x ≡ true → P b → P (f b x)) → (b : B) → P b
    → P (fold f b (filter q (range_with_len 0 n)))
fold_over P f q zero keeps b h = h
fold_over {B = B} P f q (suc n) keeps b h =
    let Q : ℕ → Type 0 = λ k. P (fold f b (filter q (range_with_len 0 k))) in
    subst Q (add-one n) (subst P (sym (fold_filter_more f b q n)) (chosen (q n) refl
    (fold_over P f q n (λ b x below passes. keeps b x (omega arith) passes) b h)))
  where
    old : B
    old = fold f b (filter q (range_with_len 0 n))

    chosen : (t : Bool) → q n ≡ t → P old → P (cond t (f old n) old)
    chosen true passes before = keeps old n (omega arith) passes before
    chosen false passes before = before

-- one of the numbers makes the fact true, and the others keep it
pub fold_reaches : {B : Type 0} (P : B → Type 0) (f : B → ℕ → B) (q : ℕ → Bool) (e : ℕ)
    → ((b : B) (x : ℕ) → P b → P (f b x)) → ((b : B) → P (f b e)) → q e ≡ true
    → (n : ℕ) → e < n → (b : B) → P (fold f b (filter q (range_with_len 0 n)))
fold_reaches P f q e keeps makes passes zero h b = absurd (omega arith)
fold_reaches {B = B} P f q e keeps makes passes (suc n) h b =
    let Q : ℕ → Type 0 = λ k. P (fold f b (filter q (range_with_len 0 k))) in
    subst Q (add-one n) (subst P (sym (fold_filter_more f b q n)) (by_place
    (λ below. fold_reaches P f q e keeps makes passes n below b) (cases_order e n)))
  where
    old : B
    old = fold f b (filter q (range_with_len 0 n))

    chosen : (t : Bool) → P old → P (cond t (f old n) old)
    chosen true before = keeps old n before
    chosen false before = before

    by_place : (e < n → P old) → (e ≡ n) ⊎ ((e < n) ⊎ (n < e)) → P (cond (q n) (f old n) old)
    by_place before (inl same) = rw (sym same, passes) (makes _)
    by_place before (inr (inl below)) = chosen (q n) (before below)
    by_place before (inr (inr above)) = absurd (omega arith)

-- what each number keeps between two folds, over those that pass two tests
pub fold_both : {B C : Type 0} (R : B → C → Type 0) (f : B → ℕ → B) (h : C → ℕ → C)
    (q r : ℕ → Bool) (n : ℕ) → ((b : B) (c : C) (x : ℕ) → x < n → R b c
    → R (cond (q x) (f b x) b) (cond (r x) (h c x) c)) → (b : B) (c : C) → R b c
    → R (fold f b (filter q (range_with_len 0 n))) (fold h c (filter r (range_with_len 0 n)))
fold_both R f h q r zero keeps b c before = before
fold_both {B = B} {C = C} R f h q r (suc n) keeps b c before =
    let Q : ℕ → Type 0 = λ k. R (fold f b (filter q (range_with_len 0 k)))
    (fold h c (filter r (range_with_len 0 k))) in
    let P : B → Type 0 = λ b'. R b' (fold h c (filter r (range_with_len 0 (n + 1)))) in
    subst Q (add-one n) (subst P (sym (fold_filter_more f b q n))
    (subst (R (cond (q n) (f old_b n) old_b)) (sym (fold_filter_more h c r n))
    (keeps old_b old_c n (omega arith)
    (fold_both R f h q r n (λ b c x below. keeps b c x (omega arith)) b c before))))
  where
    old_b : B
    old_b = fold f b (filter q (range_with_len 0 n))

    old_c : C
    old_c = fold h c (filter r (range_with_len 0 n))

-- two folds whose steps are equal
pub fold_same : {B : Type 0} (f h : B → ℕ → B) (q : ℕ → Bool) (n : ℕ)
    → ((b : B) (x : ℕ) → x < n → q x ≡ true → f b x ≡ h b x) → (b : B)
    → fold f b (filter q (range_with_len 0 n)) ≡ fold h b (filter q (range_with_len 0 n))
fold_same {B = B} f h q n same b = let R : B → B → Type 0 = λ b c. b ≡ c in
    fold_both R f h q q n (λ b c x below before. chosen b c x below before (q x) refl) b b refl
  where
    chosen : (b c : B) (x : ℕ) → x < n → b ≡ c → (t : Bool) → q x ≡ t
        → cond t (f b x) b ≡ cond t (h c x) c
    chosen b c x below before true passes = same b x below passes ∙ ap (λ b. h b x) before
    chosen b c x below before false passes = before

-- a fold over those that pass is one over all, in which the others do nothing
pub fold_filter : {A B : Type 0} (f : B → A → B) (q : A → Bool) (b : B) (xs : List A)
    → fold f b (filter q xs) ≡ fold (λ b x. cond (q x) (f b x) b) b xs
fold_filter f q b [] = refl
fold_filter f q b (x ∷ xs) = chosen (q x) (fold_filter f q (f b x) xs) (fold_filter f q b xs)
  where
    chosen : (t : Bool)
        → fold f (f b x) (filter q xs) ≡ fold (λ b x. cond (q x) (f b x) b) (f b x) xs
        → fold f b (filter q xs) ≡ fold (λ b x. cond (q x) (f b x) b) b xs
        → fold f b (cond t (x ∷ filter q xs) (filter q xs))
        ≡ fold (λ b x. cond (q x) (f b x) b) (cond t (f b x) b) xs
    chosen true taken left = taken
    chosen false taken left = left
