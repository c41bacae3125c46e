-- Bits and the workers that they stand for.
use Rattle.std.proofs.Common.{◌≡◌, ◌≢◌, ℕ, zero, suc, ◌+◌, ◌*◌, ◌/◌, ◌%◌, ◌^◌, ◌<◌, ◌≤◌, Bool, true, false, cond, ◌==◌, ◌||◌, List, [], ◌∷◌, ◌++◌, length, get_or, drop, refl, sym, subst, ◌∙◌, ap, arith, add-one, bit_or, bit_and, bit_xor, ⊎_elim}
use Rattle.std.specs.Prelude.{filter, count_ones}
use Rattle.std.specs.List.{range_with_len}
use Rattle.std.specs.Int.{bit_at, w64, trailing_zeros}
use Rattle.std.proofs.lemmas.Bool.{cases_eq, cases_lt, eq-eqb, ne_eqb, eqb-true, false≢true}
use Rattle.std.proofs.lemmas.Nat.{shr_split, pow_pos, one_shl}
use Rattle.std.proofs.lemmas.Nat.Bits.{bit_at-lt, bit_at_set_same, bit_at_set_other, bit_at_cat_low, bit_at_above, bit_at-trailing_zeros, bit_at_xor, bit_at-pow_same, bit_at-pow_other, and_pow}
use Rattle.std.specs.Int.Count.{ones_cat, ones-le, ones-ones}
use lib.Pow.{shr_lt}
use lib.Bits.{xor_add_and}
use Rattle.pg_graph.proofs.Numbers.{filter_numbers_more, length_filter_more}
use Rattle.pg_cut.specs.WorkerSet.{all_workers, has, workers_in}
use Rattle.pg_cut.proofs.Passing.{filter_agree_below, none_below}

or-true : (b : Bool) → (b || true) ≡ true
or-true true = refl
or-true false = refl

or-false : (b : Bool) → (b || false) ≡ b
or-false true = refl
or-false false = refl

-- one more worker
pub has-with : (set k w : ℕ) → k < 64 → has (bit_or set (1 * 2 ^ k % 2 ^ 64)) w ≡ (has set w || (w == k))
has-with set k w h = ⊎_elim same other (cases_eq w k)
  where
    more : ℕ
    more = bit_or set (1 * 2 ^ k % 2 ^ 64)

    same : w ≡ k → has more w ≡ (has set w || (w == k))
    same e = rw e (eq-eqb _ 1 (bit_at_set_same w64 set k h) ∙ sym (or-true (has set k)) ∙ ap (λ b. has set k || b) (sym (eq-eqb k k refl)))

    other : w ≢ k → has more w ≡ (has set w || (w == k))
    other ne = ap (λ x. x == 1) (bit_at_set_other w64 set k h w ne) ∙ sym (or-false (has set w)) ∙ ap (λ b. has set w || b) (sym (ne_eqb w k ne))

one_bit : (a : ℕ) → a < 2 → count_ones a ≡ cond (a % 2 == 1) 1 0
one_bit zero h = omega (arith, ones-le 0 0)
one_bit (suc zero) h = ones-ones 1
one_bit (suc (suc a)) h = absurd (omega arith)

-- how many bits are set
pub ones_counted : (k n : ℕ) → n < 2 ^ k → length (filter (has n) (range_with_len 0 k)) ≡ count_ones n
ones_counted zero n h = omega (arith, ones-le 0 n h)
ones_counted (suc k) n h = let a = n / 2 ^ k in
    let r = n % 2 ^ k in
    let P : ℕ → Type 0 = λ m. length (filter (has n) (range_with_len 0 m)) ≡ count_ones n in
    let low : r < 2 ^ k = omega (arith, pow_pos k) in
    let split = shr_split n k in
    let high : a < 2 = shr_lt 1 k (let e : 1 + k ≡ suc k = omega arith in rw e h) in
    let agree = filter_agree_below (has n) (has r) k (λ x below. ap (λ b. b == 1) (ap (λ m. bit_at m x) (sym split) ∙ bit_at_cat_low a k r x below)) in
    let parts = ap count_ones (sym split) ∙ ones_cat k a r low in
    let next : P (k + 1) = omega (arith, length_filter_more (has n) k, ap length agree, ones_counted k r low, parts, one_bit a high) in
    subst P (add-one k) next

pub length-workers_in : (n : ℕ) → n < 2 ^ 64 → length (workers_in n) ≡ count_ones n
unfolding all_workers
length-workers_in n h = ones_counted 64 n h

-- the place of a set bit
pub has_below : (set w : ℕ) → set < 2 ^ 64 → has set w ≡ true → w < 64
has_below set w fits t = ⊎_elim (λ h. h) (λ h. absurd (false≢true (sym (ap (λ x. x == 1) (bit_at_above set 64 w fits h)) ∙ t))) (cases_lt w 64)

pub lowest_member : (set : ℕ) → 0 < set → set < 2 ^ 64 → (trailing_zeros w64 set < 64) × (has set (trailing_zeros w64 set) ≡ true) × ((w : ℕ) → w < trailing_zeros w64 set → has set w ≡ false)
lowest_member set some fits = let low = bit_at-trailing_zeros w64 set some fits in (low.0, eq-eqb _ 1 low.1, λ w h. ap (λ b. b == 1) (low.2 w h))

-- one worker less
pub has-without : (set k w : ℕ) → k < 64 → has set k ≡ true → has (bit_xor set (1 * 2 ^ k % 2 ^ 64)) w ≡ cond (w == k) false (has set w)
has-without set k w h t = rw (one_shl k 64 h) (⊎_elim same other (cases_eq w k))
  where
    set_at_k : bit_at set k ≡ 1
    set_at_k = eqb-true _ 1 t

    same : w ≡ k → has (bit_xor set (2 ^ k)) w ≡ cond (w == k) false (has set w)
    same e = rw (e, eq-eqb k k refl) (ne_eqb _ 1 (λ one. let P : ℕ → Type 0 = λ x. x ≡ 1 in
        let zero_is : bit_at (bit_xor set (2 ^ k)) k ≡ 0 = omega (arith, bit_at_xor set (2 ^ k) k, set_at_k, bit_at-pow_same k) in omega arith))

    other : w ≢ k → has (bit_xor set (2 ^ k)) w ≡ cond (w == k) false (has set w)
    other ne = rw (ne_eqb w k ne) (ap (λ x. x == 1) (let low = bit_at-lt set w in omega (arith, bit_at_xor set (2 ^ k) w, bit_at-pow_other k w ne)))

pub without_less : (set k : ℕ) → k < 64 → has set k ≡ true → bit_xor set (1 * 2 ^ k % 2 ^ 64) < set
without_less set k h t = rw (one_shl k 64 h) (let bits = xor_add_and set (2 ^ k) in
    let shared : bit_and set (2 ^ k) ≡ 2 ^ k = and_pow set k ∙ ap (λ b. b * 2 ^ k) (eqb-true _ 1 t) ∙ omega arith in
    omega (arith, bits, shared, pow_pos k))

-- the least worker stands first, and the others behind it
module _ (set rest l : ℕ) (member : has set l ≡ true) (least : (w : ℕ) → w < l → has set w ≡ false) (others : (w : ℕ) → has rest w ≡ cond (w == l) false (has set w)) where
  rest_at : has rest l ≡ false
  rest_at = others l ∙ ap (λ b. cond b false (has set l)) (eq-eqb l l refl)

  rest_else : (w : ℕ) → w ≢ l → has rest w ≡ has set w
  rest_else w apart = others w ∙ ap (λ b. cond b false (has set w)) (ne_eqb w l apart)

  rest_below : (w : ℕ) → w < l → has rest w ≡ false
  rest_below w h = rest_else w (λ e. omega arith) ∙ least w h

  least_first : (n : ℕ) → l < n → filter (has set) (range_with_len 0 n) ≡ l ∷ filter (has rest) (range_with_len 0 n)
  least_first zero h = absurd (omega arith)
  least_first (suc n) h =
      let P : ℕ → Type 0 = λ m. filter (has set) (range_with_len 0 m) ≡ l ∷ filter (has rest) (range_with_len 0 m) in
      let before : l < n → P (n + 1) = λ below. filter_numbers_more (has set) n ∙ ap (λ xs. xs ++ cond (has set n) (n ∷ []) []) (least_first n below)
      ∙ ap (λ b. l ∷ (filter (has rest) (range_with_len 0 n) ++ cond b (n ∷ []) [])) (sym (rest_else n (λ e. omega arith))) ∙ ap (λ xs. l ∷ xs) (sym (filter_numbers_more (has rest) n)) in
      let last : n ≤ l → P (n + 1) = λ le. let e : n ≡ l = omega arith in
      filter_numbers_more (has set) n ∙ ap (λ xs. xs ++ cond (has set n) (n ∷ []) []) (none_below (has set) n (λ w h. least w (omega arith))) ∙ ap (λ b. cond b (n ∷ []) []) (ap (has set) e ∙ member) ∙ ap (λ k. k ∷ []) e
      ∙ ap (λ xs. l ∷ xs) (sym (filter_numbers_more (has rest) n ∙ ap (λ xs. xs ++ cond (has rest n) (n ∷ []) []) (none_below (has rest) n (λ w h. rest_below w (omega arith))) ∙ ap (λ b. cond b (n ∷ []) []) (ap (has rest) e ∙ rest_at))) in
      subst P (add-one n) (⊎_elim before last (cases_lt l n))

  pub workers_lowest : l < 64 → workers_in set ≡ l ∷ workers_in rest
  unfolding all_workers
  workers_lowest h = least_first 64 h

-- the set 0 has no worker
pub some_worker : (set : ℕ) → 0 < length (workers_in set) → 0 < set
some_worker zero h = absurd (omega (arith, h, length-workers_in 0 (omega arith), ones-le 0 0 (omega arith)))
some_worker (suc set) h = omega arith

pub drop_tail : (xs : List ℕ) (i x : ℕ) (rest : List ℕ) → drop i xs ≡ x ∷ rest → rest ≡ drop (i + 1) xs
drop_tail xs i x rest e = sym (ap (λ n. drop n xs) (add-one i) ∙ next xs i e)
  where
    next : (xs : List ℕ) (i : ℕ) → drop i xs ≡ x ∷ rest → drop (suc i) xs ≡ rest
    next [] zero e = absurd (cc)
    next [] (suc i) e = absurd (cc)
    next (y ∷ xs) zero e = cc
    next (y ∷ xs) (suc i) e = next xs i e

-- the least worker is the first of the list
pub lowest_first : (set l : ℕ) → l < 64 → has set l ≡ true → ((w : ℕ) → w < l → has set w ≡ false) → get_or (workers_in set) 0 0 ≡ l
lowest_first set l h member least = ap (λ xs. get_or xs 0 0) (workers_lowest set (bit_xor set (1 * 2 ^ l % 2 ^ 64)) l member least (λ w. has-without set l w h member) h)
