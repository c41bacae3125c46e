-- How many ascending keys are below a number, and where those of a block stand by their bits.
use Rattle.std.proofs.Common.{◌≡◌, ℕ, zero, suc, ◌+◌, ◌-◌, ◌*◌, ◌/◌, ◌%◌, ◌^◌, ◌<◌, ◌≤◌, Bool, true, false, cond, ◌==◌, ◌||◌, List, [], ◌∷◌, length, get_or, take, refl, sym, subst, ◌∙◌, ap, arith, add-zero, add-one, ⊎_elim}
use Rattle.std.specs.Prelude.{Contains, count_by, count_ones, nat_lt}
use Rattle.std.specs.List.{prefix_len}
use Rattle.std.specs.List.Sorted.{IsStrictlyIncreasing}
use Rattle.std.proofs.lemmas.Bool.{ltb-true, ltb-false, le-ltb, cases_lt, eq-eqb, eqb-true, false≢true}
use Rattle.std.proofs.lemmas.Bool.Decides.{nat_tests}
use Rattle.std.proofs.lemmas.List.{take_all, get_or_default, get_or_read}
use Rattle.std.proofs.lemmas.List.Folds.{list_any_at}
use Rattle.std.proofs.lemmas.Nat.{pow_pos}
use Rattle.std.specs.Int.Count.{ones_cat, ones-le, ones-ones}
use lib.Pow.{mod-pow-add}
use Rattle.std.proofs.lemmas.List.FromFn.{length-map-range_with_len, get_or-map-range_with_len}
use Rattle.std.proofs.lemmas.List.Sums.{count_by-le-length, count_by_more_yes, count_by_more_no, sum_by-le-sum_by, prefix_len-le-length, prefix_len_passes, prefix_len_stops}
use Rattle.pg_cut.specs.WorkerSet.{has}
use Rattle.pg_cut.specs.Directory.{keys_below, blocks_of, is_key, AreMasks, IsIndexed}
use Rattle.pg_cut.proofs.Searching.{rises, below_at}

-- the first elements pass
passing_first : (p : ℕ → Bool) (xs : List ℕ) (n : ℕ) → n ≤ length xs → ((k : ℕ) → k < n → p (get_or xs k 0) ≡ true) → count_by p (take n xs) ≡ n
passing_first p xs zero h pass = refl
passing_first p xs (suc n) h pass = let P : ℕ → Type 0 = λ m. count_by p (take m xs) ≡ m in
    let before = passing_first p xs n (omega arith) (λ k l. pass k (omega arith)) in
    subst P (add-one n) (count_by_more_yes p xs n 0 (omega arith) (pass n (omega arith)) ∙ ap (λ c. c + 1) before)

-- and those behind them fail
failing_rest : (p : ℕ → Bool) (xs : List ℕ) (n m : ℕ) → n + m ≤ length xs → count_by p (take n xs) ≡ n → ((k : ℕ) → n ≤ k → k < length xs → p (get_or xs k 0) ≡ false) → count_by p (take (n + m) xs) ≡ n
failing_rest p xs n zero h first fail = ap (λ k. count_by p (take k xs)) (add-zero n) ∙ first
failing_rest p xs n (suc m) h first fail = let e : n + suc m ≡ (n + m) + 1 = omega arith in
    ap (λ k. count_by p (take k xs)) e ∙ count_by_more_no p xs (n + m) 0 (omega arith) (fail (n + m) (omega arith) (omega arith)) ∙ failing_rest p xs n m (omega arith) first fail

-- so the first ones are all that pass
count_is : (p : ℕ → Bool) (xs : List ℕ) (n : ℕ) → n ≤ length xs → ((k : ℕ) → k < n → p (get_or xs k 0) ≡ true) → ((k : ℕ) → n ≤ k → k < length xs → p (get_or xs k 0) ≡ false) → count_by p xs ≡ n
count_is p xs n h pass fail = let m = length xs - n in
    ap (count_by p) (sym (take_all (n + m) xs (omega arith))) ∙ failing_rest p xs n m (omega arith) (passing_first p xs n h pass) fail

pub below_count : (keys : List ℕ) (x : ℕ) → keys_below keys x ≤ length keys
below_count keys x = count_by-le-length (λ key. nat_lt key x) keys

-- fewer keys are below a lesser number
pub keys_below-le : (keys : List ℕ) (x y : ℕ) → x ≤ y → keys_below keys x ≤ keys_below keys y
keys_below-le keys x y le = sum_by-le-sum_by (λ key. cond (nat_lt key x) 1 0) (λ key. cond (nat_lt key y) 1 0) keys (λ key. grind (arith, nat_tests))

-- the keys below a number stand first, and no others
module _ (keys : List ℕ) (up : IsStrictlyIncreasing keys) (x : ℕ) where
  front : keys_below keys x ≡ prefix_len (λ key. nat_lt key x) keys
  front = let p = λ (key : ℕ). nat_lt key x in
      let n = prefix_len p keys in
      count_is p keys n (prefix_len-le-length p keys) (λ k h. prefix_len_passes p keys k 0 h)
      (λ k from inside. let at = ltb-false (get_or keys n 0) x (prefix_len_stops p keys 0 (omega arith)) in le-ltb (get_or keys k 0) x (omega (arith, at, below_at keys up n k from inside)))

  pub first_below : (i : ℕ) → i < keys_below keys x → get_or keys i 0 < x
  first_below i h = ltb-true (get_or keys i 0) x (prefix_len_passes (λ key. nat_lt key x) keys i 0 (omega (arith, front)))

  pub rest_above : (i : ℕ) → keys_below keys x ≤ i → i < length keys → x ≤ get_or keys i 0
  rest_above i from inside = let n = prefix_len (λ (key : ℕ). nat_lt key x) keys in
      let at = ltb-false (get_or keys n 0) x (prefix_len_stops (λ key. nat_lt key x) keys 0 (omega (arith, front))) in
      omega (arith, at, below_at keys up n i (omega (arith, front)) inside)

  -- one key more is below, or there is no other
  pub one_more : (i : ℕ) → i < length keys → get_or keys i 0 < x → i + 1 ≤ keys_below keys x
  one_more i inside h = ⊎_elim (λ (l : i < keys_below keys x). omega arith) (λ (l : keys_below keys x ≤ i). absurd (omega (arith, rest_above i l inside))) (cases_lt i (keys_below keys x))

  pub no_more : (i : ℕ) → x ≤ get_or keys i 0 → keys_below keys x ≤ i
  no_more i h = ⊎_elim (λ (l : i < keys_below keys x). absurd (omega (arith, first_below i l))) (λ (l : keys_below keys x ≤ i). l) (cases_lt i (keys_below keys x))

-- the place of a key is how many keys are below it
pub keys_below_at : (keys : List ℕ) → IsStrictlyIncreasing keys → (x i : ℕ) → i < length keys → get_or keys i 0 ≡ x → keys_below keys x ≡ i
keys_below_at keys up x i inside at = ⊎_elim before (λ (l : i ≤ keys_below keys x). omega (arith, l, most)) (cases_lt (keys_below keys x) i)
  where
    most : keys_below keys x ≤ i
    most = no_more keys up x i (omega (arith, at))

    before : keys_below keys x < i → keys_below keys x ≡ i
    before l = let n = keys_below keys x in
        let e : n + (i - n) ≡ i = omega arith in
        absurd (omega (arith, l, at, rest_above keys up x n (omega arith) (omega (arith, l, inside)), rises keys up n (i - n) (omega (arith, l, inside)), ap (λ k. get_or keys k 0) e))

-- a number that is a key has a place
pub key_place : (keys : List ℕ) (x : ℕ) → is_key keys x ≡ true → (i : ℕ) × (i < length keys) × (get_or keys i 0 ≡ x)
key_place [] x h = absurd (false≢true h)
key_place (k ∷ keys) x h = by_test (k == x) refl h (λ t. key_place keys x t)
  where
    by_test : (b : Bool) → (k == x) ≡ b → (b || is_key keys x) ≡ true → (is_key keys x ≡ true → (i : ℕ) × (i < length keys) × (get_or keys i 0 ≡ x)) → (i : ℕ) × (i < length (k ∷ keys)) × (get_or (k ∷ keys) i 0 ≡ x)
    by_test true e t later = (0, omega arith, eqb-true k x e)
    by_test false e t later = let found = later t in (suc found.0, omega (arith, found.1), found.2)

-- one key more is below the next number, where the number is a key
pub next_below : (keys : List ℕ) → IsStrictlyIncreasing keys → (x : ℕ) → keys_below keys (x + 1) ≡ keys_below keys x + cond (is_key keys x) 1 0
next_below keys up x = by_test (is_key keys x) refl
  where
    by_test : (b : Bool) → is_key keys x ≡ b → keys_below keys (x + 1) ≡ keys_below keys x + cond b 1 0
    by_test true e = let found = key_place keys x e in
        let i = found.0 in
        let at = keys_below_at keys up x i found.1 found.2 in
        let least = one_more keys up (x + 1) i found.1 (omega (arith, found.2)) in
        let count = below_count keys (x + 1) in
        ⊎_elim (λ (l : i + 1 < keys_below keys (x + 1)). absurd (omega (arith, l, count, found.2, first_below keys up (x + 1) (i + 1) l, rises keys up i 1 (omega (arith, l, count)))))
        (λ (l : keys_below keys (x + 1) ≤ i + 1). omega (arith, l, at, least)) (cases_lt (i + 1) (keys_below keys (x + 1)))
    by_test false e = let n = keys_below keys x in
        let least = keys_below-le keys x (x + 1) (omega arith) in
        let count = below_count keys (x + 1) in
        ⊎_elim (λ (l : n < keys_below keys (x + 1)).
        let inside : n < length keys = omega (arith, l, count) in
        let here : get_or keys n 0 ≡ x = omega (arith, first_below keys up (x + 1) n l, rest_above keys up x n (omega arith) inside) in
        absurd (false≢true (sym e ∙ list_any_at (λ k. k == x) keys n 0 inside (eq-eqb (get_or keys n 0) x here))))
        (λ (l : keys_below keys (x + 1) ≤ n). omega (arith, l, least)) (cases_lt n (keys_below keys (x + 1)))

bit_counted : (a : ℕ) → a < 2 → count_ones a ≡ cond (a == 1) 1 0
bit_counted zero h = omega (arith, ones-le 0 0)
bit_counted (suc zero) h = ones-ones 1
bit_counted (suc (suc a)) h = absurd (omega arith)

-- the bits below a place of a block count its keys below there
rank_is : (keys masks : List ℕ) → IsStrictlyIncreasing keys → AreMasks keys masks → (b : ℕ) → b < blocks_of keys → (j : ℕ) → j ≤ 64 → keys_below keys (b * 64 + j) ≡ keys_below keys (b * 64) + count_ones (get_or masks b 0 % 2 ^ j)
rank_is keys masks up are b inside zero h =
    let none : count_ones (get_or masks b 0 % 2 ^ 0) ≡ 0 = omega (arith, ones-le 0 (get_or masks b 0 % 2 ^ 0) (omega arith)) in
    omega (arith, none, ap (keys_below keys) (add-zero (b * 64)))
rank_is keys masks up are b inside (suc j) h =
    let x = b * 64 + j in
    let m = get_or masks b 0 in
    let bit = m / 2 ^ j % 2 in
    let e : b * 64 + suc j ≡ x + 1 = omega arith in
    let length_is : suc j ≡ 1 + j = omega arith in
    let step : keys_below keys (b * 64 + suc j) ≡ keys_below keys x + cond (bit == 1) 1 0 = ap (keys_below keys) e ∙ next_below keys up x ∙ ap (λ t. keys_below keys x + cond t 1 0) (sym (are.each b j inside (omega arith))) in
    let split : m % 2 ^ suc j ≡ bit * 2 ^ j + m % 2 ^ j = ap (λ k. m % 2 ^ k) length_is ∙ mod-pow-add m 1 j in
    let counted : count_ones (m % 2 ^ suc j) ≡ count_ones bit + count_ones (m % 2 ^ j) = ap count_ones split ∙ ones_cat j bit (m % 2 ^ j) (omega (arith, pow_pos j)) in
    let one : count_ones bit ≡ cond (bit == 1) 1 0 = bit_counted bit (omega arith) in
    omega (arith, step, counted, one, rank_is keys masks up are b inside j (omega arith))

module _ (keys starts masks : List ℕ) (is : IsIndexed keys starts masks) where
  starts_count : length starts ≡ blocks_of keys + 1
  starts_count = ap length is.starts_are ∙ length-map-range_with_len (λ b. keys_below keys (b * 64)) 0 (blocks_of keys + 1)

  start_is : (b : ℕ) → b < length starts → get_or starts b 0 ≡ keys_below keys (b * 64)
  start_is b h = ap (λ xs. get_or xs b 0) is.starts_are ∙ get_or-map-range_with_len (λ k. keys_below keys (k * 64)) 0 (blocks_of keys + 1) b b 0 (omega (arith, starts_count)) (omega arith)

  -- each block has a start
  pub has_start : (b : ℕ) → b < length masks → b < length starts
  has_start b h = omega (arith, h, starts_count, is.masks_are.count)

  -- no key is beyond the blocks
  pub none_beyond : (key : ℕ) → length masks ≤ key / 64 → Contains keys key → ⊥
  none_beyond key h (i, inside, e) = omega (arith, h, is.masks_are.count, below_at keys is.keys_are.ascending i (length keys - 1) (omega arith) (omega arith), get_or_default keys i key 0 inside, e)

  module _ (key mask : ℕ) (inside : key / 64 < length masks) (read : mask ≡ get_or masks (key / 64) mask) where
    mask_is : mask ≡ get_or masks (key / 64) 0
    mask_is = get_or_read masks (key / 64) mask inside read 0

    -- the bit of a number says whether it is a key
    marks : has mask (key % 64) ≡ is_key keys key
    marks = let e : key / 64 * 64 + key % 64 ≡ key = omega arith in
        ap (λ m. has m (key % 64)) mask_is ∙ is.masks_are.each (key / 64) (key % 64) (omega (arith, inside, is.masks_are.count)) (omega arith) ∙ ap (is_key keys) e

    pub unmarked : has mask (key % 64) ≡ false → Contains keys key → ⊥
    unmarked none (i, at, e) = false≢true (sym none ∙ marks ∙ list_any_at (λ k. k == key) keys i key at (eq-eqb (get_or keys i key) key e))

    module _ (start : ℕ) (start_read : start ≡ get_or starts (key / 64) start) where
      place_is : start + count_ones (mask % 2 ^ (key % 64)) ≡ keys_below keys key
      place_is = let e : key / 64 * 64 + key % 64 ≡ key = omega arith in
          let first : start ≡ keys_below keys (key / 64 * 64) = get_or_read starts (key / 64) start (has_start (key / 64) inside) start_read 0 ∙ start_is (key / 64) (has_start (key / 64) inside) in
          let counted = rank_is keys masks is.keys_are.ascending is.masks_are (key / 64) (omega (arith, inside, is.masks_are.count)) (key % 64) (omega arith) in
          omega (arith, first, counted, ap (keys_below keys) e, ap (λ m. count_ones (m % 2 ^ (key % 64))) mask_is)

      -- so many keys are below it, which is where it stands
      pub few_below : start + count_ones (mask % 2 ^ (key % 64)) < 2 ^ 32
      few_below = omega (arith, place_is, below_count keys key, is.keys_are.few)

      pub place_found : has mask (key % 64) ≡ true → (start + count_ones (mask % 2 ^ (key % 64)) < length keys) × (get_or keys (start + count_ones (mask % 2 ^ (key % 64))) 0 ≡ key)
      place_found marked = let found = key_place keys key (sym marks ∙ marked) in
          let at = place_is ∙ keys_below_at keys is.keys_are.ascending key found.0 found.1 found.2 in
          (omega (arith, at, found.1), ap (λ k. get_or keys k 0) at ∙ found.2)
