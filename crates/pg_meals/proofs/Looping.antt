-- One more turn of the loops that prepare.
use Rattle.std.proofs.Common.{ℕ, ◌<◌, ◌+◌, ◌≡◌, length, take, List, [], ◌∷◌, ◌++◌, slice_index_or, Bool, true, false, cond, refl, ap, ◌∙◌}
use Rattle.std.specs.Prelude.{fold, filter}
use Rattle.std.proofs.lemmas.List.Elements.{filter_more}
use Rattle.std.proofs.lemmas.List.Filters.{length-filter_more}
use Rattle.std.proofs.lemmas.List.Sums.{fold-append}

-- a fold over those that pass, one more of which passes or doesn't
pub fold_passing_more : {X : Type 0} (f : X → ℕ → X) (z : X) (test : ℕ → Bool) (xs : List ℕ) (i : ℕ) (b : Bool) → i < length xs → test (slice_index_or xs i 0) ≡ b
    → fold f z (filter test (take (i + 1) xs)) ≡ cond b (f (fold f z (filter test (take i xs))) (slice_index_or xs i 0)) (fold f z (filter test (take i xs)))
fold_passing_more f z test xs i b l is =
    ap (fold f z) (filter_more test xs i 0 l ∙ ap (λ t. filter test (take i xs) ++ cond t (slice_index_or xs i 0 ∷ []) []) is)
    ∙ fold-append f z (filter test (take i xs)) (cond b (slice_index_or xs i 0 ∷ []) []) ∙ last b
  where
    last : (t : Bool) → fold f (fold f z (filter test (take i xs))) (cond t (slice_index_or xs i 0 ∷ []) []) ≡ cond t (f (fold f z (filter test (take i xs))) (slice_index_or xs i 0)) (fold f z (filter test (take i xs)))
    last true = refl
    last false = refl

-- and how many there are
pub count_passing_more : (test : ℕ → Bool) (xs : List ℕ) (i : ℕ) (b : Bool) → i < length xs → test (slice_index_or xs i 0) ≡ b → length (filter test (take (i + 1) xs)) ≡ length (filter test (take i xs)) + cond b 1 0
count_passing_more test xs i b l is = length-filter_more test xs i 0 l ∙ ap (λ t. length (filter test (take i xs)) + cond t 1 0) is
