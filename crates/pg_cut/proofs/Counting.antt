-- Counting into a list of counters.
use Rattle.std.proofs.Common.{◌≡◌, ◌≢◌, ℕ, ◌+◌, ◌<◌, ◌≤◌, List, length, get_or, take, set, refl, sym, ◌∙◌, ap, arith, ⊎_elim}
use Rattle.std.specs.Prelude.{count_by, ◌==◌}
use Rattle.std.proofs.lemmas.Bool.{cases_eq, eq-eqb, ne_eqb}
use Rattle.std.proofs.lemmas.List.{get_or-set_same, get_or-set_other, get_or_read, length-take}
use Rattle.std.proofs.lemmas.List.Sums.{count_by_more_yes, count_by_more_no, count_by-le-length}

module _ (loads place : List ℕ) (n e x : ℕ) (inside : e < length place) (count : length loads ≡ n) (at : get_or place e 0 < n) (read : x ≡ get_or loads (get_or place e 0) x)
    (counted : (w : ℕ) → w < n → get_or loads w 0 ≡ count_by (λ p. p == w) (take e place)) where
  pub tally_read : x ≡ count_by (λ p. p == get_or place e 0) (take e place)
  tally_read = get_or_read loads (get_or place e 0) x (omega arith) read 0 ∙ counted (get_or place e 0) at

  -- the counter has room
  pub tally_fits : x ≤ e
  tally_fits = omega (arith, tally_read, count_by-le-length (λ p. p == get_or place e 0) (take e place), length-take e place)

  -- one more item is counted
  pub tally_more : (w : ℕ) → w < n → get_or (set loads (get_or place e 0) (x + 1)) w 0 ≡ count_by (λ p. p == w) (take (e + 1) place)
  tally_more w h = let k = get_or place e 0 in
      let same : w ≡ k → get_or (set loads k (x + 1)) w 0 ≡ count_by (λ p. p == w) (take (e + 1) place) = λ e'. rw e'
      (get_or-set_same loads k (x + 1) 0 (omega arith) ∙ ap (λ y. y + 1) tally_read ∙ sym (count_by_more_yes (λ p. p == k) place e 0 inside (eq-eqb k k refl))) in
      let other : w ≢ k → get_or (set loads k (x + 1)) w 0 ≡ count_by (λ p. p == w) (take (e + 1) place) = λ ne.
      get_or-set_other loads k w (x + 1) 0 ne ∙ counted w h ∙ sym (count_by_more_no (λ p. p == w) place e 0 inside (ne_eqb k w (λ e'. ne (sym e')))) in
      ⊎_elim same other (cases_eq w k)
