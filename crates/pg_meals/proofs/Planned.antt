-- Forks for which something is prepared, one after another.
use Rattle.std.proofs.Common.{ℕ, zero, suc, ◌<◌, ◌+◌, ◌≡◌, ◌≢◌, ◌⊎◌, ◌==◌, length, take, List, [], ◌∷◌, slice_index_or, slice_set, Bool, true, false, cond, inl, inr, arith, refl, sym, ap, ◌∙◌, true≢false, add-one}
use Rattle.std.proofs.lemmas.Bool.Decides.{Decides-eqb}
use Rattle.pg_meals.specs.declared.fork.Fork.{Fork}
use Rattle.pg_meals.specs.declared.fork.Carried.{Carried}
use Rattle.pg_meals.specs.Once.{is_among, Once}
use Rattle.pg_meals.specs.Readied.{with_plan, ArePlanned}
use Rattle.pg_meals.proofs.At.{same_or_not, false_test}
use Rattle.pg_meals.proofs.ListReads.{read_set, read_any}

-- lists without repeats, cut off
cond_swap : (a b w : Bool) → cond a true (cond b true w) ≡ cond b true (cond a true w)
cond_swap true true w = refl
cond_swap true false w = refl
cond_swap false b w = refl

among_more : (f : ℕ) (es : List ℕ) (i : ℕ) → i < length es → is_among f (take (suc i) es) ≡ cond (f == slice_index_or es i 0) true (is_among f (take i es))
among_more f [] i l = absurd (omega arith)
among_more f (e ∷ es) zero l = refl
among_more f (e ∷ es) (suc i) l = ap (λ w. cond (f == e) true w) (among_more f es i (omega arith)) ∙ cond_swap (f == e) (f == slice_index_or es i 0) (is_among f (take i es))

among_get : (es : List ℕ) (i : ℕ) → i < length es → is_among (slice_index_or es i 0) es ≡ true
among_get [] i l = absurd (omega arith)
among_get (e ∷ es) zero l = let t : (e == e) ≡ true = (Decides-eqb e e).1 refl in rw (t) refl
among_get (e ∷ es) (suc i) l = go (slice_index_or es i 0 == e) (among_get es i (omega arith))
  where
    go : (b : Bool) → is_among (slice_index_or es i 0) es ≡ true → cond b true (is_among (slice_index_or es i 0) es) ≡ true
    go true w = refl
    go false w = w

once_before : (es : List ℕ) (i : ℕ) → Once es → i < length es → is_among (slice_index_or es i 0) (take i es) ≡ false
once_before [] i o l = absurd (omega arith)
once_before (e ∷ es) zero o l = refl
once_before (e ∷ es) (suc i) o l =
    let t : (slice_index_or es i 0 == e) ≡ false = false_test _ e (λ q. true≢false (sym (among_get es i (omega arith)) ∙ (ap (λ f. is_among f es) q ∙ o.0))) in
    rw (t) (once_before es i o.1 (omega arith))

module _ {A : Type 0} (before : List (Fork A)) (plan : ℕ → Carried A) (es : List ℕ) (i : ℕ) (forks : List (Fork A)) (x : Fork A) (o : Once es) (l : i < length es)
    (done : ArePlanned before plan (take i es) forks) (inside : slice_index_or es i 0 < length forks) where
  abbrev e : ℕ
  e = slice_index_or es i 0

  -- one more fork has its plan
  pub plan_more : x ≡ slice_index_or forks e x → ArePlanned before plan (take (i + 1) es) (slice_set forks e (with_plan (plan e) x))
  plan_more is f d = rw (add-one) (read_set forks e (with_plan (plan e) x) f d inside ∙ (go (same_or_not f e) ∙ ap (λ w. cond w (with_plan (plan f) (slice_index_or before f d)) (slice_index_or before f d)) (sym (among_more f es i l))))
    where
      go : (f ≡ e) ⊎ (f ≢ e) → cond (f == e) (with_plan (plan e) x) (slice_index_or forks f d) ≡ cond (cond (f == e) true (is_among f (take i es))) (with_plan (plan f) (slice_index_or before f d)) (slice_index_or before f d)
      go (inl q) =
          let t : (f == e) ≡ true = (Decides-eqb f e).1 q in
          let old : slice_index_or forks e d ≡ slice_index_or before e d = done e d ∙ ap (λ w. cond w (with_plan (plan e) (slice_index_or before e d)) (slice_index_or before e d)) (once_before es i o l) in
          let same : x ≡ slice_index_or before f d = is ∙ read_any forks e x d inside ∙ old ∙ ap (λ k. slice_index_or before k d) (sym q) in
          rw (t) (λ j. with_plan (plan (sym q j)) (same j))
      go (inr n) =
          let t : (f == e) ≡ false = false_test f e n in
          rw (t) (done f d)
