-- Lists that are filtered and joined, and what stands in them.
use Rattle.std.proofs.Common.{◌≡◌, ℕ, ◌+◌, ◌<◌, Bool, true, false, cond, ◌&&◌, ◌||◌, List, [], ◌∷◌, ◌++◌, length, get_or, refl, sym, ◌∙◌, ap, arith}
use Rattle.std.specs.Prelude.{filter, fold, map, ◌==◌}
use Rattle.std.specs.List.{list_any, flat_map, range_with_len, AllByRecursion}
use Rattle.std.proofs.lemmas.List.Sums.{fold-append, length-filter}
use Rattle.pg_graph.proofs.Numbers.{length_filter_more}
use Rattle.pg_graph.proofs.Stored.{count_by-pos}
use Rattle.std.proofs.lemmas.List.Elements.{filter-append}
use Rattle.std.proofs.lemmas.List.Folds.{list_any-append, list_any_at}
use Rattle.std.proofs.lemmas.List.FromFn.{length-range_with_len, get_or-range_with_len}
use Rattle.std.proofs.lemmas.Bool.{both_ways, eq-eqb, ne_eqb, eqb-true}

-- what holds of each element, and so another thing
pub every : {X : Type 0} (P Q : X → Type 0) → ((x : X) → P x → Q x) → (xs : List X) → AllByRecursion P xs → AllByRecursion Q xs
every P Q h [] all = tt
every P Q h (x ∷ xs) all = (h x all.0, every P Q h xs all.1)

-- a fold over joined lists goes list by list
pub fold-flat_map : {X A B : Type 0} (f : B → A → B) (h : X → List A) (b : B) (xs : List X) → fold f b (flat_map h xs) ≡ fold (λ b x. fold f b (h x)) b xs
fold-flat_map f h b [] = refl
fold-flat_map f h b (x ∷ xs) = fold-append f b (h x) (flat_map h xs) ∙ fold-flat_map f h (fold f b (h x)) xs

pub filter-flat_map : {X A : Type 0} (p : A → Bool) (h : X → List A) (xs : List X) → filter p (flat_map h xs) ≡ flat_map (λ x. filter p (h x)) xs
filter-flat_map p h [] = refl
filter-flat_map p h (x ∷ xs) = filter-append p (h x) (flat_map h xs) ∙ ap (λ ys. filter p (h x) ++ ys) (filter-flat_map p h xs)

pub map_agree : {X Y : Type 0} (f h : X → Y) → ((x : X) → f x ≡ h x) → (xs : List X) → map f xs ≡ map h xs
map_agree f h same [] = refl
map_agree f h same (x ∷ xs) = rw (same x) (ap (λ ys. h x ∷ ys) (map_agree f h same xs))

pub map_twice : {X Y Z : Type 0} (h : Y → Z) (f : X → Y) (xs : List X) → map h (map f xs) ≡ map (λ x. h (f x)) xs
map_twice h f [] = refl
map_twice h f (x ∷ xs) = ap (λ ys. h (f x) ∷ ys) (map_twice h f xs)

pub flat_map_agree : {X A : Type 0} (h k : X → List A) → ((x : X) → h x ≡ k x) → (xs : List X) → flat_map h xs ≡ flat_map k xs
flat_map_agree h k same [] = refl
flat_map_agree h k same (x ∷ xs) = rw (same x) (ap (λ ys. k x ++ ys) (flat_map_agree h k same xs))

pub list_any-flat_map : {X A : Type 0} (p : A → Bool) (h : X → List A) (xs : List X) → list_any p (flat_map h xs) ≡ list_any (λ x. list_any p (h x)) xs
list_any-flat_map p h [] = refl
list_any-flat_map p h (x ∷ xs) = list_any-append p (h x) (flat_map h xs) ∙ ap (λ b. list_any p (h x) || b) (list_any-flat_map p h xs)

pub list_any_agree : {X : Type 0} (p q : X → Bool) → ((x : X) → p x ≡ q x) → (xs : List X) → list_any p xs ≡ list_any q xs
list_any_agree p q same [] = refl
list_any_agree p q same (x ∷ xs) = rw (same x) (ap (λ b. q x || b) (list_any_agree p q same xs))

-- a fold that some elements leave as it is
pub fold_skips : {A B : Type 0} (f : B → A → B) (p : A → Bool) → ((b : B) (x : A) → p x ≡ false → f b x ≡ b) → (b : B) (xs : List A) → fold f b (filter p xs) ≡ fold f b xs
fold_skips f p idle b [] = refl
fold_skips {A = A} {B = B} f p idle b (x ∷ xs) = chosen (p x) refl (fold_skips f p idle (f b x) xs)
  where
    chosen : (t : Bool) → p x ≡ t → fold f (f b x) (filter p xs) ≡ fold f (f b x) xs → fold f b (cond (p x) (x ∷ filter p xs) (filter p xs)) ≡ fold f (f b x) xs
    chosen true e rest = rw e rest
    chosen false e rest = ap (λ t. fold f b (cond t (x ∷ filter p xs) (filter p xs))) e ∙ ap (λ y. fold f y (filter p xs)) (sym (idle b x e)) ∙ rest

-- a fold that what passes leaves as it is
pub fold_idle : {A B : Type 0} (f : B → A → B) (q : A → Bool) → ((b : B) (x : A) → q x ≡ true → f b x ≡ b) → (b : B) (xs : List A) → fold f b (filter q xs) ≡ b
fold_idle f q idle b [] = refl
fold_idle {A = A} {B = B} f q idle b (x ∷ xs) = chosen (q x) refl (fold_idle f q idle b xs)
  where
    chosen : (t : Bool) → q x ≡ t → fold f b (filter q xs) ≡ b → fold f b (cond (q x) (x ∷ filter q xs) (filter q xs)) ≡ b
    chosen true e rest = ap (λ t. fold f b (cond t (x ∷ filter q xs) (filter q xs))) e ∙ ap (λ y. fold f y (filter q xs)) (idle b x e) ∙ rest
    chosen false e rest = rw e rest

-- two filters in either order, where a third is implied
pub filter_regroup : {A : Type 0} (p q r : A → Bool) → ((x : A) → q x ≡ true → r x ≡ true) → (xs : List A) → filter p (filter q (filter r xs)) ≡ filter q (filter p xs)
filter_regroup p q r implied [] = refl
filter_regroup {A = A} p q r implied (x ∷ xs) = chosen (p x) (q x) (r x) refl refl refl (filter_regroup p q r implied xs)
  where
    chosen : (a b c : Bool) → p x ≡ a → q x ≡ b → r x ≡ c → filter p (filter q (filter r xs)) ≡ filter q (filter p xs) → filter p (filter q (cond (r x) (x ∷ filter r xs) (filter r xs))) ≡ filter q (cond (p x) (x ∷ filter p xs) (filter p xs))
    chosen true true true ep eq er rest = rw (er, eq, ep, eq) (ap (λ ys. x ∷ ys) rest)
    chosen true false true ep eq er rest = rw (er, eq, ep, eq) rest
    chosen true false false ep eq er rest = rw (er, ep, eq) rest
    chosen false true true ep eq er rest = rw (er, eq, ep) rest
    chosen false false true ep eq er rest = rw (er, eq, ep) rest
    chosen false false false ep eq er rest = rw (er, ep) rest
    chosen a true false ep eq er rest = absurd (both_ways (r x) er (implied x eq))

-- a number stands in a filtered list exactly where it passes and stands in the whole list
pub stands_in_filter : (p : ℕ → Bool) (e : ℕ) (xs : List ℕ) → list_any (λ k. k == e) (filter p xs) ≡ (p e && list_any (λ k. k == e) xs)
stands_in_filter p e [] = none (p e)
  where
    none : (b : Bool) → false ≡ (b && false)
    none true = refl
    none false = refl
stands_in_filter p e (x ∷ xs) = chosen (p x) (x == e) refl refl (stands_in_filter p e xs)
  where
    chosen : (t same : Bool) → p x ≡ t → (x == e) ≡ same → list_any (λ k. k == e) (filter p xs) ≡ (p e && list_any (λ k. k == e) xs)
        → list_any (λ k. k == e) (cond (p x) (x ∷ filter p xs) (filter p xs)) ≡ (p e && ((x == e) || list_any (λ k. k == e) xs))
    chosen true true ep same rest = rw (ep, same, ← ap p (eqb-true x e same), ep) refl
    chosen true false ep same rest = rw (ep, same) rest
    chosen false true ep same rest = let passes = sym (ap p (eqb-true x e same)) ∙ ep in rw (ep, same, rest, passes) refl
    chosen false false ep same rest = rw (ep, same) rest

-- the numbers below n
pub stands_below : (e n : ℕ) → e < n → list_any (λ k. k == e) (range_with_len 0 n) ≡ true
stands_below e n h = let here : get_or (range_with_len 0 n) e 0 ≡ e = get_or-range_with_len 0 n e 0 h ∙ omega arith in
    list_any_at (λ k. k == e) (range_with_len 0 n) e 0 (rw (length-range_with_len 0 n) h) (eq-eqb _ _ here)

-- a number that passes is kept, and one that doesn't is not counted
pub some_passes : (p : ℕ → Bool) (n m : ℕ) → n < m → p n ≡ true → (length (filter p (range_with_len 0 m)) == 0) ≡ false
some_passes p n m h passes = let here : get_or (range_with_len 0 m) n 0 ≡ n = get_or-range_with_len 0 m n 0 h ∙ omega arith in
    let counted = count_by-pos p (range_with_len 0 m) n 0 (rw (length-range_with_len 0 m) h) (ap p here ∙ passes) in
    ne_eqb _ 0 (λ none. absurd (omega (arith, counted, none, length-filter p (range_with_len 0 m))))

pub none_more : (p : ℕ → Bool) (n : ℕ) → p n ≡ false → length (filter p (range_with_len 0 n)) ≡ 0 → length (filter p (range_with_len 0 (n + 1))) ≡ 0
none_more p n fails none = length_filter_more p n ∙ rw (none, fails) refl
