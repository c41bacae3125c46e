use Rattle.std.proofs.Common.{Some, ℕ, ◌≡◌, ◌≢◌, ◌⊎◌, inl, inr, ◌==◌, Bool, true, false, cond, refl, sym, ap, ◌∙◌, arith, true≢false}
use Rattle.std.proofs.lemmas.Bool.Decides.{Decides-eqb, nat_tests}
use Rattle.std.specs.Bool.{Decides}
use Rattle.pg_meals.specs.Families.{set_at}

-- what stands in equal options is equal
pub some_of : {X : Type 0} (y z : X) → Some y ≡ Some z → y ≡ z
some_of y z e = cc

-- what holds of a changed family at j, by whether j is the changed index
by_test : {X : Type 0} (P : X → Type 0) (x y : X) (j i : ℕ) (b : Bool) → Decides b (j ≡ i) → (j ≡ i → P x) → (j ≢ i → P y) → P (cond b x y)
by_test P x y j i true d here there = here (d.0 refl)
by_test P x y j i false d here there = there (λ e. absurd (true≢false (sym (d.1 e))))

same_test : (j i : ℕ) (b : Bool) → Decides b (j ≡ i) → (j ≡ i) ⊎ (j ≢ i)
same_test j i true d = inl (d.0 refl)
same_test j i false d = inr (λ e. true≢false (sym (d.1 e)))

-- two numbers are the same or not
pub same_or_not : (j i : ℕ) → (j ≡ i) ⊎ (j ≢ i)
same_or_not j i = same_test j i (j == i) (Decides-eqb j i)

-- a family of three indexes, changed at one place
pub record SameThree (u k n v j m : ℕ) : Type 0 where
  pub first : u ≡ v
  pub second : k ≡ j
  pub third : n ≡ m

-- three pairs of numbers are the same, or not all three
pub three_or_not : (u k n v j m : ℕ) → SameThree u k n v j m ⊎ ((u ≡ v) → (k ≡ j) → (n ≡ m) → ⊥)
three_or_not u k n v j m = go (same_or_not u v) (same_or_not k j) (same_or_not n m)
  where
    go : (u ≡ v) ⊎ (u ≢ v) → (k ≡ j) ⊎ (k ≢ j) → (n ≡ m) ⊎ (n ≢ m) → SameThree u k n v j m ⊎ ((u ≡ v) → (k ≡ j) → (n ≡ m) → ⊥)
    go (inl a) (inl b) (inl c) = inl (record { first = a; second = b; third = c })
    go (inr a) b c = inr (λ x y z. a x)
    go (inl a) (inr b) c = inr (λ x y z. b y)
    go (inl a) (inl b) (inr c) = inr (λ x y z. c z)

-- a family of three numbers, changed where one looks
pub set_three_same : {X : Type 0} (f : ℕ → ℕ → ℕ → X) (u k n v j m : ℕ) (x : X) → SameThree u k n v j m → set_at f v (set_at (f v) j (set_at (f v j) m x)) u k n ≡ x
set_three_same f u k n v j m x s =
    let a : (u == v) ≡ true = (Decides-eqb u v).1 s.first in
    let b : (k == j) ≡ true = (Decides-eqb k j).1 s.second in
    let c : (n == m) ≡ true = (Decides-eqb n m).1 s.third in
    rw (a, b, c) refl

-- the test of different numbers is false
pub false_test : (j i : ℕ) → j ≢ i → (j == i) ≡ false
false_test j i n = grind (arith, nat_tests)

set_three_go : {X : Type 0} (f : ℕ → ℕ → ℕ → X) (u k n v j m : ℕ) (x : X) → ((u ≡ v) → (k ≡ j) → (n ≡ m) → ⊥) → (u ≡ v) ⊎ (u ≢ v) → (k ≡ j) ⊎ (k ≢ j) → (n ≡ m) ⊎ (n ≢ m)
    → set_at f v (set_at (f v) j (set_at (f v j) m x)) u k n ≡ f u k n
set_three_go f u k n v j m x d (inl a) (inl b) (inl c) = absurd (d a b c)
set_three_go f u k n v j m x d (inr a) b c =
    rw (false_test u v a) refl
set_three_go f u k n v j m x d (inl a) (inr b) c =
    rw ((Decides-eqb u v).1 a, false_test k j b) (ap (λ i. f i k n) (sym a))
set_three_go f u k n v j m x d (inl a) (inl b) (inr c) =
    rw ((Decides-eqb u v).1 a, (Decides-eqb k j).1 b, false_test n m c) (ap (λ i. f i j n) (sym a) ∙ ap (λ i. f u i n) (sym b))

-- and changed elsewhere
pub set_three_other : {X : Type 0} (f : ℕ → ℕ → ℕ → X) (u k n v j m : ℕ) (x : X) → ((u ≡ v) → (k ≡ j) → (n ≡ m) → ⊥) → set_at f v (set_at (f v) j (set_at (f v j) m x)) u k n ≡ f u k n
set_three_other f u k n v j m x d = set_three_go f u k n v j m x d (same_or_not u v) (same_or_not k j) (same_or_not n m)
