-- Whose turn an edge is: the edges of one loader stand `loaders` apart.
use Rattle.std.proofs.Common.{◌≡◌, ◌≢◌, ℕ, zero, suc, ◌+◌, ◌-◌, ◌*◌, ◌/◌, ◌%◌, ◌<◌, ◌≤◌, Bool, false, ◌==◌, List, [], ◌∷◌, ◌++◌, length, refl, length-append, sym, subst, ◌∙◌, ap, arith, ⊎_elim}
use Rattle.std.specs.Prelude.{filter}
use Rattle.std.specs.List.{range_with_len, AllByRecursion}
use Rattle.std.proofs.lemmas.Bool.{cases_lt, eq-eqb, ne_eqb}
use Rattle.std.proofs.lemmas.Nat.{div-add-mod', mod_below, mod-mul-add}
use Rattle.std.proofs.lemmas.List.{append_assoc, append-nil}
use Rattle.pg_graph.proofs.Numbers.{length_filter_within}
use Rattle.std.proofs.lemmas.List.FromFn.{length-range_with_len, get_or-range_with_len}
use Rattle.std.proofs.lemmas.List.Elements.{filter-append, All-filter, recursion_from_All}
use Rattle.pg_greedy.specs.Loaders.{seen, batch_start}

pub range-append : (a m n : ℕ) → range_with_len a (m + n) ≡ range_with_len a m ++ range_with_len (a + m) n
range-append a zero n = let same : a + 0 ≡ a = omega arith in let none : 0 + n ≡ n = omega arith in rw (same, none) refl
range-append a (suc m) n = let P : ℕ → Type 0 = λ k. range_with_len a k ≡ range_with_len a (suc m) ++ range_with_len (a + suc m) n in
    let more : suc (m + n) ≡ suc m + n = omega arith in
    let start : a + 1 + m ≡ a + suc m = omega arith in
    subst P more (ap (λ xs. a ∷ xs) (range-append (a + 1) m n ∙ ap (λ k. range_with_len (a + 1) m ++ range_with_len k n) start))

-- no number of a stretch passes
pub none_in : (p : ℕ → Bool) (a n : ℕ) → ((k : ℕ) → k < n → p (a + k) ≡ false) → filter p (range_with_len a n) ≡ []
none_in p a zero fails = refl
none_in p a (suc n) fails = let here : p a ≡ false = (let same : a ≡ a + 0 = omega arith in ap p same ∙ fails 0 (omega arith)) in
    rw here (none_in p (a + 1) n (λ k h. let next : a + 1 + k ≡ a + (k + 1) = omega arith in ap p next ∙ fails (k + 1) (omega arith)))

-- a number and one less than L above it have other remainders
pub apart_mod : (L e k : ℕ) → 0 < k → k < L → (e + k) % L ≢ e % L
apart_mod L e k some less same = let b = e % L in let a = e / L in
    let split : a * L + b ≡ e = div-add-mod' e L in
    let low : b < L = mod_below e L (omega arith) in
    ⊎_elim (λ h. let is : e + k ≡ a * L + (b + k) = omega arith in
    let r : (e + k) % L ≡ b + k = ap (λ x. x % L) is ∙ mod-mul-add a L (b + k) h in omega arith)
    (λ h. let up : (a + 1) * L ≡ a * L + L = grind arith in
    let is : e + k ≡ (a + 1) * L + (b + k - L) = omega arith in
    let r : (e + k) % L ≡ b + k - L = ap (λ x. x % L) is ∙ mod-mul-add (a + 1) L (b + k - L) (omega arith) in omega arith)
    (cases_lt (b + k) L)

pub next_mod : (L e : ℕ) → 0 < L → (e + L) % L ≡ e % L
next_mod L e some = let b = e % L in let a = e / L in
    let split : a * L + b ≡ e = div-add-mod' e L in
    let low : b < L = mod_below e L some in
    let up : (a + 1) * L ≡ a * L + L = grind arith in
    let is : e + L ≡ (a + 1) * L + b = omega arith in
    ap (λ x. x % L) is ∙ mod-mul-add (a + 1) L b low

-- the next edge of a loader has seen this edge, and what this one has seen
pub seen_next : (L start e : ℕ) → 0 < L → start ≤ e → seen L start (e + L) ≡ seen L start e ++ e ∷ []
seen_next L start e some below = let p : ℕ → Bool = λ x. x % L == e % L in
    let test = ap (λ r. range_with_len 0 start ++ filter (λ x. x % L == r) (range_with_len start (e + L - start))) (next_mod L e some) in
    let count : e + L - start ≡ e - start + L = omega arith in
    let at : start + (e - start) ≡ e = omega arith in
    let parts = ap (λ n. filter p (range_with_len start n)) count ∙ ap (filter p) (range-append start (e - start) L) ∙ filter-append p (range_with_len start (e - start)) (range_with_len (start + (e - start)) L)
    ∙ ap (λ k. filter p (range_with_len start (e - start)) ++ filter p (range_with_len k L)) at in
    test ∙ ap (λ xs. range_with_len 0 start ++ xs) (parts ∙ ap (λ xs. filter p (range_with_len start (e - start)) ++ xs) (one L some (omega arith))) ∙ sym (append_assoc (range_with_len 0 start) _ (e ∷ []))
  where
    one : (n : ℕ) → 0 < n → n ≤ L → filter (λ x. x % L == e % L) (range_with_len e n) ≡ e ∷ []
    one zero h le = absurd (omega arith)
    one (suc n) h le = rw (eq-eqb (e % L) (e % L) refl) (ap (λ xs. e ∷ xs) (none_in (λ x. x % L == e % L) (e + 1) n (λ k below. let up : e + 1 + k ≡ e + (k + 1) = omega arith in
        rw up (ne_eqb _ _ (apart_mod L e (k + 1) (omega arith) (omega arith))))))

-- the first edge of a loader from a start on has seen all before the start
pub seen_first : (L q l : ℕ) → l < L → seen L (q * L) (q * L + l) ≡ range_with_len 0 (q * L)
seen_first L q l h = let width : q * L + l - q * L ≡ l = omega arith in
    let none = none_in (λ x. x % L == (q * L + l) % L) (q * L) l (λ k below. ne_eqb _ _ (λ same. let a = mod-mul-add q L k (omega arith) in let b = mod-mul-add q L l h in omega arith)) in
    ap (λ n. range_with_len 0 (q * L) ++ filter (λ x. x % L == (q * L + l) % L) (range_with_len (q * L) n)) width ∙ ap (λ xs. range_with_len 0 (q * L) ++ xs) none ∙ append-nil (range_with_len 0 (q * L))

-- the same at an edge that is given by its number
pub seen_start : (L q start l e : ℕ) → l < L → start ≡ q * L → e ≡ start + l → (seen L start e ≡ range_with_len 0 start) × (e % L ≡ l)
seen_start L q start l e h is at = let P : ℕ → Type 0 = λ s. (seen L s (s + l) ≡ range_with_len 0 s) × ((s + l) % L ≡ l) in
    let Q : ℕ → Type 0 = λ x. (seen L start x ≡ range_with_len 0 start) × (x % L ≡ l) in
    subst Q (sym at) (subst P (sym is) (seen_first L q l h, mod-mul-add q L l h))

-- an edge of the same loader below the next one is this one, or before it
pub own_before : (L e x : ℕ) → x < e + L → x % L ≡ e % L → x ≤ e
own_before L e x h same = ⊎_elim (λ l. absurd (let up : e + (x - e) ≡ x = omega arith in apart_mod L e (x - e) (omega arith) (omega arith) (ap (λ k. k % L) up ∙ same))) (λ l. l) (cases_lt e x)

all_append : (P : ℕ → Type 0) (xs ys : List ℕ) → AllByRecursion P xs → AllByRecursion P ys → AllByRecursion P (xs ++ ys)
all_append P [] ys a b = b
all_append P (x ∷ xs) ys a b = (a.0, all_append P xs ys a.1 b)

-- an edge has seen none but those before it
pub seen_below : (L start e : ℕ) → start ≤ e → AllByRecursion (λ x. x < e) (seen L start e)
seen_below L start e h = let P : ℕ → Type 0 = λ x. x < e in
    all_append P (range_with_len 0 start) (filter (λ x. x % L == e % L) (range_with_len start (e - start)))
    (recursion_from_All P (range_with_len 0 start) (λ i d inside. let below : i < start = rw (length-range_with_len 0 start) at inside in rw (get_or-range_with_len 0 start i d below) (omega arith)))
    (recursion_from_All P (filter (λ x. x % L == e % L) (range_with_len start (e - start))) (All-filter (λ x. x % L == e % L) P (range_with_len start (e - start))
    (λ i d inside. let below : i < e - start = rw (length-range_with_len start (e - start)) at inside in rw (get_or-range_with_len start (e - start) i d below) (omega arith))))

pub seen_few : (L start e : ℕ) → start ≤ e → length (seen L start e) ≤ e
seen_few L start e h = omega (
  arith,
  length-append (range_with_len 0 start) (filter (λ x. x % L == e % L) (range_with_len start (e - start))),
  length-range_with_len 0 start,
  length_filter_within (λ x. x % L == e % L) (range_with_len start (e - start)),
  length-range_with_len start (e - start),
)

-- the start of a batch
pub batch_is : (L q e : ℕ) → q * (1024 * L) ≤ e → e < q * (1024 * L) + 1024 * L → batch_start L e ≡ q * (1024 * L)
batch_is L q e low high = let B = 1024 * L in let r = e - q * B in
    let is : e ≡ q * B + r = omega arith in
    let rest : e % B ≡ r = ap (λ x. x % B) is ∙ mod-mul-add q B r (omega arith) in
    let split = div-add-mod' e B in omega arith

pub batch_below : (L e : ℕ) → batch_start L e ≤ e
batch_below L e = let split = div-add-mod' e (1024 * L) in omega arith
