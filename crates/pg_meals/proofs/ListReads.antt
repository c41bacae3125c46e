-- Lists that are read after a write.
use Rattle.std.proofs.Common.{ℕ, zero, suc, ◌<◌, ◌≤◌, ◌≡◌, ◌≢◌, ◌⊎◌, ◌==◌, length, List, [], ◌∷◌, slice_index_or, slice_set, true, false, cond, inl, inr, arith, refl, sym, ap, ◌∙◌, Bool, subst}
use Rattle.std.proofs.lemmas.Bool.Decides.{Decides-eqb}
use Rattle.std.proofs.lemmas.List.{get_or-set_same, get_or-set_other, get_or_default, get_or_past}
use Rattle.pg_meals.specs.declared.fork.Fork.{Fork}
use Rattle.pg_meals.specs.Entries.{no_fork, fork_at}
use Rattle.pg_meals.specs.Families.{set_at}
use Rattle.pg_meals.proofs.At.{same_or_not, false_test}

-- a list that is read after a write
read_go : {X : Type 0} (xs : List X) (i : ℕ) (y : X) (j : ℕ) (d : X) → i < length xs → (j ≡ i) ⊎ (j ≢ i) → slice_index_or (slice_set xs i y) j d ≡ cond (j == i) y (slice_index_or xs j d)
read_go xs i y j d l (inl q) =
    let t : (j == i) ≡ true = (Decides-eqb j i).1 q in
    rw (t) (subst (λ k. slice_index_or (slice_set xs i y) k d ≡ y) (sym q) (get_or-set_same xs i y d l))
read_go xs i y j d l (inr n) =
    let t : (j == i) ≡ false = false_test j i n in
    rw (t) (get_or-set_other xs i j y d n)

pub read_set : {X : Type 0} (xs : List X) (i : ℕ) (y : X) (j : ℕ) (d : X) → i < length xs → slice_index_or (slice_set xs i y) j d ≡ set_at (λ k. slice_index_or xs k d) i y j
read_set xs i y j d l = read_go xs i y j d l (same_or_not j i)

pub read_any : {X : Type 0} (xs : List X) (i : ℕ) (d k : X) → i < length xs → slice_index_or xs i d ≡ slice_index_or xs i k
read_any [] i d k l = absurd (omega arith)
read_any (x ∷ xs) zero d k l = refl
read_any (x ∷ xs) (suc i) d k l = read_any xs i d k (omega arith)

-- what holds of each entry holds of each after a write, where it holds of the new one
pub each_set : {X : Type 0} (P : ℕ → X → Type 0) (xs : List X) (i : ℕ) (x d : X) → i < length xs → P i x → ((j : ℕ) → j ≢ i → P j (slice_index_or xs j d)) → (j : ℕ) → P j (slice_index_or (slice_set xs i x) j d)
each_set P xs i x d l here there j = go (same_or_not j i)
  where
    go : (j ≡ i) ⊎ (j ≢ i) → P j (slice_index_or (slice_set xs i x) j d)
    go (inl q) = subst (λ k. P k (slice_index_or (slice_set xs i x) k d)) (sym q) (subst (P i) (sym (get_or-set_same xs i x d l)) here)
    go (inr n) = subst (P j) (sym (get_or-set_other xs i j x d n)) (there j n)

-- a part of the entries of a list after a write: set where it was written, or as before
pub read_as : {X Y : Type 0} (f : X → Y) (xs : List X) (i : ℕ) (x : X) (j : ℕ) (d : X) → i < length xs → f (slice_index_or (slice_set xs i x) j d) ≡ set_at (λ k. f (slice_index_or xs k d)) i (f x) j
read_as f xs i x j d l = ap f (read_set xs i x j d l) ∙ go (j == i)
  where
    go : (b : Bool) → f (cond b x (slice_index_or xs j d)) ≡ cond b (f x) (f (slice_index_or xs j d))
    go true = refl
    go false = refl

pub read_like : {X Y : Type 0} (f : X → Y) (xs : List X) (i : ℕ) (x : X) (j : ℕ) (d : X) → i < length xs → f x ≡ f (slice_index_or xs i d) → f (slice_index_or (slice_set xs i x) j d) ≡ f (slice_index_or xs j d)
read_like f xs i x j d l same = read_as f xs i x j d l ∙ go (same_or_not j i)
  where
    go : (j ≡ i) ⊎ (j ≢ i) → cond (j == i) (f x) (f (slice_index_or xs j d)) ≡ f (slice_index_or xs j d)
    go (inl q) =
        let t : (j == i) ≡ true = (Decides-eqb j i).1 q in
        rw (t) (same ∙ ap (λ k. f (slice_index_or xs k d)) (sym q))
    go (inr n) = rw (false_test j i n) refl

-- the mark of a fork doesn't depend on what stands beyond the list
pub mark_same : {A : Type 0} (w k : ℕ) (forks : List (Fork A)) (e : ℕ) → (e < length forks) ⊎ (length forks ≤ e) → (fork_at w forks e).mark ≡ (fork_at k forks e).mark
mark_same w k forks e (inl i) = ap (λ (x : Fork _). x.mark) (get_or_default forks e (no_fork w) (no_fork k) i)
mark_same w k forks e (inr i) = ap (λ (x : Fork _). x.mark) (get_or_past forks e (no_fork w) i) ∙ sym (ap (λ (x : Fork _). x.mark) (get_or_past forks e (no_fork k) i))
