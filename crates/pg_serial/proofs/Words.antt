-- Words of bits: one bit more, one less, and the lowest.
use Rattle.std.proofs.Common.{◌≡◌, ◌≢◌, ℕ, zero, suc, ◌+◌, ◌*◌, ◌/◌, ◌%◌, ◌^◌, ◌<◌, Bool, true, false, cond, ◌==◌, ◌||◌}
use Rattle.std.proofs.Common.{List, length, get_or, set, refl, sym, ◌∙◌, ap, arith, bit_or, bit_and, ⊎_elim}
use Rattle.std.specs.Prelude.{nat_lt, slice_index}
use Rattle.std.specs.Int.{bit_at, bit_not, w64, trailing_zeros}
use Rattle.std.proofs.lemmas.Bool.{cases_eq, cases_lt, eq-eqb, ne_eqb, eqb-true, false≢true, lt-ltb, ltb-true}
use Rattle.std.proofs.lemmas.Nat.Bits.{bit_at-zero, bit_at_set_same, bit_at_set_other, bit_at_clear_same, bit_at_clear_other, bit_at-trailing_zeros}
use Rattle.std.proofs.lemmas.List.{get_or-set_same, get_or-set_other, get_or_past}
use Rattle.pg_serial.specs.Bits.{has, is_taken, IsLeast}

or-true : (b : Bool) → (b || true) ≡ true
or-true true = refl
or-true false = refl

or-false : (b : Bool) → (b || false) ≡ b
or-false true = refl
or-false false = refl

-- a word with a bit isn't 0
some_bit : (w i : ℕ) → bit_at w i ≡ 1 → 0 < w
some_bit zero i one = absurd (omega (arith, one, bit_at-zero i))
some_bit (suc w) i one = omega arith

-- a number has a word and a place in it
same_place : (i k : ℕ) → i / 64 ≡ k / 64 → i % 64 ≡ k % 64 → i ≡ k
same_place i k words places = omega (arith, words, places)

module _ (words : List ℕ) where
  -- no number stands in the word 0, nor past the words
  pub has_none : (i : ℕ) → slice_index words (i / 64) ≡ 0 → has words i ≡ false
  unfolding has
  has_none i none = ap (λ w. bit_at w (i % 64) == 1) none
      ∙ ne_eqb (bit_at 0 (i % 64)) 1 (λ one. absurd (omega (arith, one, bit_at-zero (i % 64))))

  pub has_within : (k : ℕ) → has words k ≡ true → k / 64 < length words
  has_within k member = ⊎_elim (λ h. h) (λ past. absurd (false≢true (sym (has_none k
      (get_or_past words (k / 64) 0 past)) ∙ member))) (cases_lt (k / 64) (length words))

  -- its word isn't 0
  pub has_taken : (k : ℕ) → has words k ≡ true → is_taken words (k / 64) ≡ true
  unfolding has
  has_taken k member = lt-ltb 0 _ (some_bit _ (k % 64) (eqb-true _ 1 member))

  -- a word that isn't 0 is there
  pub taken_within : (i : ℕ) → is_taken words i ≡ true → i < length words
  taken_within i taken = ⊎_elim (λ h. h) (λ past. absurd (false≢true (sym
      (ap (λ w. nat_lt 0 w) (get_or_past words i 0 past)) ∙ taken))) (cases_lt i (length words))

  -- where all words are 0, no number stands
  pub none_taken : ((i : ℕ) → is_taken words i ≡ false) → (k : ℕ) → has words k ≡ false
  none_taken none k = ⊎_elim (λ some. absurd (false≢true (sym (none (k / 64)) ∙ lt-ltb 0 _ some)))
      (λ zero. has_none k (omega (arith, zero))) (cases_lt 0 (slice_index words (k / 64)))

  -- one number more
  module _ (k : ℕ) (inside : k / 64 < length words) where
    abbrev more : List ℕ
    more = set words (k / 64) (bit_or (get_or words (k / 64) 0) (1 * 2 ^ (k % 64) % 2 ^ 64))

    abbrev here : ℕ
    here = bit_or (get_or words (k / 64) 0) (1 * 2 ^ (k % 64) % 2 ^ 64)

    low : k % 64 < 64
    low = omega arith

    word_here : get_or more (k / 64) 0 ≡ here
    word_here = get_or-set_same words (k / 64) here 0 inside

    pub has_more : (i : ℕ) → has more i ≡ (has words i || (i == k))
    unfolding has
    has_more i = ⊎_elim same_word other_word (cases_eq (i / 64) (k / 64))
      where
        other_word : i / 64 ≢ k / 64 → has more i ≡ (has words i || (i == k))
        other_word apart = ap (λ w. bit_at w (i % 64) == 1) (get_or-set_other words (k / 64) (i / 64) here 0 apart)
            ∙ sym (or-false (has words i))
            ∙ ap (λ b. has words i || b) (sym (ne_eqb i k (λ e. apart (ap (λ n. n / 64) e))))

        same_word : i / 64 ≡ k / 64 → has more i ≡ (has words i || (i == k))
        same_word same = ap (λ n. bit_at (get_or more n 0) (i % 64) == 1) same
            ∙ ap (λ w. bit_at w (i % 64) == 1) word_here ∙ ⊎_elim at_it beside (cases_eq (i % 64) (k % 64))
          where
            at_it : i % 64 ≡ k % 64 → (bit_at here (i % 64) == 1) ≡ (has words i || (i == k))
            at_it e = ap (λ n. bit_at here n == 1) e
                ∙ eq-eqb _ 1 (bit_at_set_same w64 (get_or words (k / 64) 0) (k % 64) low)
                ∙ sym (ap (λ b. has words i || b) (eq-eqb i k (same_place i k same e)) ∙ or-true (has words i))

            beside : i % 64 ≢ k % 64 → (bit_at here (i % 64) == 1) ≡ (has words i || (i == k))
            beside apart = ap (λ b. b == 1) (bit_at_set_other w64 (get_or words (k / 64) 0) (k % 64) low (i % 64) apart)
                ∙ ap (λ n. bit_at (get_or words n 0) (i % 64) == 1) (sym same)
                ∙ sym (ap (λ b. has words i || b) (ne_eqb i k (λ e. apart (ap (λ n. n % 64) e))) ∙ or-false (has words i))

    pub taken_more : (i : ℕ) → is_taken more i ≡ (is_taken words i || (i == k / 64))
    taken_more i = ⊎_elim same other (cases_eq i (k / 64))
      where
        same : i ≡ k / 64 → is_taken more i ≡ (is_taken words i || (i == k / 64))
        same e = ap (λ n. nat_lt 0 (get_or more n 0)) e ∙ ap (λ w. nat_lt 0 w) word_here
            ∙ lt-ltb 0 here (some_bit here (k % 64) (bit_at_set_same w64 (get_or words (k / 64) 0) (k % 64) low))
            ∙ sym (ap (λ b. is_taken words i || b) (eq-eqb i (k / 64) e) ∙ or-true (is_taken words i))

        other : i ≢ k / 64 → is_taken more i ≡ (is_taken words i || (i == k / 64))
        other apart = ap (λ w. nat_lt 0 w) (get_or-set_other words (k / 64) i here 0 apart)
            ∙ sym (ap (λ b. is_taken words i || b) (ne_eqb i (k / 64) apart) ∙ or-false (is_taken words i))

  -- one number less
  module _ (k : ℕ) (inside : k / 64 < length words) where
    abbrev less : List ℕ
    less = set words (k / 64) (bit_and (get_or words (k / 64) 0) (bit_not w64 (1 * 2 ^ (k % 64) % 2 ^ 64)))

    abbrev left : ℕ
    left = bit_and (get_or words (k / 64) 0) (bit_not w64 (1 * 2 ^ (k % 64) % 2 ^ 64))

    word_left : get_or less (k / 64) 0 ≡ left
    word_left = get_or-set_same words (k / 64) left 0 inside

    pub has_less : (i : ℕ) → has less i ≡ cond (i == k) false (has words i)
    unfolding has
    has_less i = ⊎_elim same_word other_word (cases_eq (i / 64) (k / 64))
      where
        other_word : i / 64 ≢ k / 64 → has less i ≡ cond (i == k) false (has words i)
        other_word apart = ap (λ w. bit_at w (i % 64) == 1) (get_or-set_other words (k / 64) (i / 64) left 0 apart)
            ∙ ap (λ b. cond b false (has words i)) (sym (ne_eqb i k (λ e. apart (ap (λ n. n / 64) e))))

        same_word : i / 64 ≡ k / 64 → has less i ≡ cond (i == k) false (has words i)
        same_word same = ap (λ n. bit_at (get_or less n 0) (i % 64) == 1) same
            ∙ ap (λ w. bit_at w (i % 64) == 1) word_left ∙ ⊎_elim at_it beside (cases_eq (i % 64) (k % 64))
          where
            at_it : i % 64 ≡ k % 64 → (bit_at left (i % 64) == 1) ≡ cond (i == k) false (has words i)
            at_it e = ap (λ n. bit_at left n == 1) e
                ∙ ap (λ b. b == 1) (bit_at_clear_same w64 (get_or words (k / 64) 0) (k % 64) (omega arith))
                ∙ ap (λ b. cond b false (has words i)) (sym (eq-eqb i k (same_place i k same e)))

            beside : i % 64 ≢ k % 64 → (bit_at left (i % 64) == 1) ≡ cond (i == k) false (has words i)
            beside apart = ap (λ b. b == 1) (bit_at_clear_other w64 (get_or words (k / 64) 0) (k % 64) (omega arith) (i % 64) (omega arith) apart)
                ∙ ap (λ n. bit_at (get_or words n 0) (i % 64) == 1) (sym same)
                ∙ ap (λ b. cond b false (has words i)) (sym (ne_eqb i k (λ e. apart (ap (λ n. n % 64) e))))

  -- the lowest number of the first word that isn't 0
  module _ (at : ℕ) (taken : IsLeast (is_taken words) at) (fits : slice_index words at < 2 ^ 64) where
    abbrev zeros : ℕ
    zeros = trailing_zeros w64 (slice_index words at)

    lowest : (zeros < 64) × (bit_at (slice_index words at) zeros ≡ 1) × ((i : ℕ) → i < zeros → bit_at (slice_index words at) i ≡ 0)
    lowest = bit_at-trailing_zeros w64 (slice_index words at) (ltb-true 0 _ taken.passes) fits

    pub least_number : IsLeast (has words) (at * 64 + zeros)
    unfolding has
    least_number = let low = lowest.0 in
        let word : (at * 64 + zeros) / 64 ≡ at = omega (arith, low) in
        let place : (at * 64 + zeros) % 64 ≡ zeros = omega (arith, low) in
        record {
          passes = ap (λ n. bit_at (slice_index words n) ((at * 64 + zeros) % 64) == 1) word
              ∙ ap (λ n. bit_at (slice_index words at) n == 1) place ∙ eq-eqb _ 1 lowest.1;
          first = λ i below. ⊎_elim
              (λ before. has_none i (word_zero (i / 64) (taken.first (i / 64) before)))
              (λ since. let same : i / 64 ≡ at = omega (arith, low, below, since) in
              let under : i % 64 < zeros = omega (arith, low, below, same) in
              ap (λ n. bit_at (slice_index words n) (i % 64) == 1) same
              ∙ ap (λ b. b == 1) (lowest.2 (i % 64) under))
              (cases_lt (i / 64) at);
        }
      where
        word_zero : (n : ℕ) → is_taken words n ≡ false → slice_index words n ≡ 0
        word_zero n none = omega (arith, ⊎_elim (λ (some : 0 < slice_index words n). absurd (false≢true (sym none ∙ lt-ltb 0 _ some))) (λ few. few) (cases_lt 0 (slice_index words n)))

    pub few_zeros : zeros < 64
    few_zeros = lowest.0
