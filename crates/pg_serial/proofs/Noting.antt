-- What is sent over the edges of a vertex, edge by edge.
use Rattle.std.proofs.Common.{◌≡◌, ℕ, zero, suc, ◌+◌, ◌<◌, Bool, true, false, cond, List, [], ◌∷◌, ◌++◌, length, take, get_or}
use Rattle.std.proofs.Common.{refl, ◌∙◌, ap, arith, add-one}
use Rattle.std.specs.Prelude.{map, filter, ◌&&◌, All}
use Rattle.std.proofs.lemmas.List.Elements.{All-push}

-- what passes a second test
pub filter_twice : {A : Type 0} (q p : A → Bool) (xs : List A) → filter q (filter p xs) ≡ filter (λ x. p x && q x) xs
filter_twice q p [] = refl
filter_twice {A = A} q p (x ∷ xs) = by_first (p x) (filter_twice q p xs)
  where
    by_first : (b : Bool) → filter q (filter p xs) ≡ filter (λ x. p x && q x) xs
        → filter q (cond b (x ∷ filter p xs) (filter p xs)) ≡ cond (b && q x) (x ∷ filter (λ x. p x && q x) xs) (filter (λ x. p x && q x) xs)
    by_first true rest = ap (λ (ys : List A). cond (q x) (x ∷ ys) ys) rest
    by_first false rest = rest

-- one edge more
pub noted_more : {B : Type 0} (f : ℕ → B) (t : ℕ → Bool) (edges : List ℕ) (i : ℕ) (old new : List B) → i < length edges
    → old ≡ map f (filter t (take i edges)) → let e = get_or edges i 0 in
    new ≡ cond (t e) (old ++ f e ∷ []) old → new ≡ map f (filter t (take (i + 1) edges))
noted_more {B = B} f t edges i old new h before after = after
    ∙ ap (λ (ys : List B). cond (t (get_or edges i 0)) (ys ++ f (get_or edges i 0) ∷ []) ys) before
    ∙ rw (add-one i) (by_place edges i h)
  where
    by_place : (xs : List ℕ) (i : ℕ) → i < length xs → let made = map f (filter t (take i xs)) in
        cond (t (get_or xs i 0)) (made ++ f (get_or xs i 0) ∷ []) made ≡ map f (filter t (take (suc i) xs))
    by_place [] i h = absurd (omega arith)
    by_place (x ∷ xs) zero h = first (t x)
      where
        first : (b : Bool) → cond b (f x ∷ []) [] ≡ map f (cond b (x ∷ []) [])
        first true = refl
        first false = refl
    by_place (x ∷ xs) (suc i) h = behind (t x) (filter t (take i xs)) (filter t (take (suc i) xs)) (t (get_or xs i 0)) (f (get_or xs i 0)) (by_place xs i (omega arith))
      where
        behind : (b : Bool) (ys zs : List ℕ) (c : Bool) (y : B) → cond c (map f ys ++ y ∷ []) (map f ys) ≡ map f zs
            → let made = map f (cond b (x ∷ ys) ys) in cond c (made ++ y ∷ []) made ≡ map f (cond b (x ∷ zs) zs)
        behind true ys zs true y rest = ap (λ (more : List B). f x ∷ more) rest
        behind true ys zs false y rest = ap (λ (more : List B). f x ∷ more) rest
        behind false ys zs c y rest = rest

pub noted_own : {B : Type 0} (P : B → Type 0) (b : Bool) (x : B) (old new : List B) → All P old → P x → new ≡ cond b (old ++ x ∷ []) old → All P new
noted_own P true x old new own h is = rw is (All-push P old x own h)
noted_own P false x old new own h is = rw is own
