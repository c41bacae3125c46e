-- The workers that may get an edge, by their bits.
use Rattle.std.proofs.Common.{◌≡◌, ℕ, ◌-◌, ◌/◌, ◌^◌, ◌<◌, ◌≤◌, Bool, true, false, cond, ◌==◌, ◌||◌, ◌&&◌, bit_and, List, [], ◌∷◌, refl, sym, ◌∙◌, ap, arith, ⊎_elim, min}
use Rattle.std.specs.Prelude.{filter, nat_lt, not}
use Rattle.std.specs.Int.{bit_at}
use Rattle.std.proofs.lemmas.Bool.{cases_lt, cases_eq, eq-eqb, ne_eqb, lt-ltb, le-ltb, or_left, and_parts}
use Rattle.std.proofs.lemmas.Nat.{zero_from_ones}
use Rattle.std.proofs.lemmas.Nat.Bits.{bit_at_and, bit_at-lt, ones_shr, bit_at_ones, bit_at_ones_above}
use Rattle.std.proofs.lemmas.List.Elements.{filter_agree}
use Rattle.std.specs.Int.Count.{ones-le}
use Rattle.pg_cut.specs.WorkerSet.{has, is_in, workers_in, workers_that, all_workers}
use Rattle.pg_cut.proofs.Sets.{length-workers_in}
use Rattle.pg_cut.proofs.Kept.{is_in_set}
use Rattle.pg_greedy.specs.Greedy.{common, is_empty, case_of, candidates}

-- a filter of a filter
pub filter-filter : {X : Type 0} (q p : X → Bool) (xs : List X) → filter q (filter p xs) ≡ filter (λ x. p x && q x) xs
filter-filter q p [] = refl
filter-filter q p (x ∷ xs) = by_first (p x) (filter-filter q p xs)
  where
    by_first : (b : Bool) → filter q (filter p xs) ≡ filter (λ x. p x && q x) xs → filter q (cond b (x ∷ filter p xs) (filter p xs)) ≡ cond (b && q x) (x ∷ filter (λ x. p x && q x) xs) (filter (λ x. p x && q x) xs)
    by_first true e = ap (λ ys. cond (q x) (x ∷ ys) ys) e
    by_first false e = e

pub has-and : (us vs w : ℕ) → has (bit_and us vs) w ≡ (has us w && has vs w)
has-and us vs w = ap (λ x. x == 1) (bit_at_and us vs w) ∙ both (bit_at us w) (bit_at vs w) (bit_at-lt us w) (bit_at-lt vs w)
  where
    both : (a b : ℕ) → a < 2 → b < 2 → (min a b == 1) ≡ ((a == 1) && (b == 1))
    both a b ha hb = ⊎_elim (λ e. rw e (⊎_elim (λ f. rw f refl) (λ f. let z : b ≡ 0 = omega arith in rw z refl) (cases_eq b 1)))
        (λ e. let z : a ≡ 0 = omega arith in rw z (ne_eqb _ 1 (λ h. omega arith))) (cases_eq a 1)

-- the workers of both sets
pub common_is : (us vs : ℕ) → vs < 2 ^ 64 → workers_in (bit_and us vs) ≡ common (workers_in us) (workers_in vs)
common_is us vs fits = filter_agree _ _ (λ w. has-and us vs w ∙ ap (λ b. has us w && b) (sym (is_in_set vs w fits))) all_workers
    ∙ sym (filter-filter (λ w. is_in w (workers_in vs)) (has us) all_workers)

-- a set without a worker has no bits
pub empty_is : (set : ℕ) → set < 2 ^ 64 → is_empty (workers_in set) ≡ (set == 0)
empty_is set fits = ap (λ n. n == 0) (length-workers_in set fits) ∙ ⊎_elim (λ e. rw e (eq-eqb _ 0 (omega (arith, ones-le 0 0)))) (λ ne. ne_eqb _ 0 (λ e. ne (zero_from_ones set e)) ∙ sym (ne_eqb set 0 ne)) (cases_eq set 0)

module _ (workers us vs : ℕ) (target : Bool) (fits_us : us < 2 ^ 64) (fits_vs : vs < 2 ^ 64) (both : bit_and us vs < 2 ^ 64) where
  pub candidates_by : (a b c d : Bool) → (bit_and us vs == 0) ≡ a → (us == 0) ≡ b → (vs == 0) ≡ c → target ≡ d
      → cond (not a) (workers_in (bit_and us vs)) (cond (b && c) (workers_that (λ w. nat_lt w workers)) (cond b (workers_in vs) (cond c (workers_in us) (cond d (workers_in vs) (workers_in us)))))
      ≡ candidates workers target (workers_in us) (workers_in vs)
  candidates_by a b c d ea eb ec ed = rw (← common_is us vs fits_vs) (rw (empty_is (bit_and us vs) both, empty_is us fits_us, empty_is vs fits_vs, ea, eb, ec, ed) refl)

  pub case_by : (a b c : Bool) → (bit_and us vs == 0) ≡ a → (us == 0) ≡ b → (vs == 0) ≡ c → cond (not a) 1 (cond (b && c) 4 (cond (b || c) 3 2)) ≡ case_of (workers_in us) (workers_in vs)
  case_by a b c ea eb ec = rw (← common_is us vs fits_vs) (rw (empty_is (bit_and us vs) both, empty_is us fits_us, empty_is vs fits_vs, ea, eb, ec) refl)

-- the workers below a number
pub below_is : (workers w : ℕ) → workers ≤ 64 → has ((2 ^ 64 - 1) / 2 ^ (64 - workers)) w ≡ nat_lt w workers
below_is workers w few = let width : 64 - (64 - workers) ≡ workers = omega arith in
    ap (λ x. has x w) (ones_shr 64 (64 - workers) (omega arith)) ∙ ap (λ k. has (2 ^ k - 1) w) width
    ∙ ⊎_elim (λ h. ap (λ x. x == 1) (bit_at_ones workers w h) ∙ sym (lt-ltb w workers h)) (λ h. ap (λ x. x == 1) (bit_at_ones_above workers w h) ∙ sym (le-ltb w workers h)) (cases_lt w workers)

-- a member of both is a member of one
pub in_both : (us vs w : ℕ) (more : Bool) → has (bit_and us vs) w ≡ true → ((has us w || has vs w) || more) ≡ true
in_both us vs w more t = or_left _ more (or_left (has us w) (has vs w) (and_parts (has us w) (has vs w) (sym (has-and us vs w) ∙ t)).0)
