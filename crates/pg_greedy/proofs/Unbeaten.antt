-- The best of a set is the one worker that none goes before.
use Rattle.std.proofs.Common.{◌≡◌, ℕ, ◌<◌, Bool, true, false, ◌==◌, ◌&&◌, List, [], ◌∷◌, get_or, refl, sym, ◌∙◌, ap, arith, ⊎_elim}
use Rattle.std.specs.Prelude.{filter, not}
use Rattle.std.specs.List.{list_any}
use Rattle.std.proofs.lemmas.Bool.{cases_Bool, cases_lt, eq-eqb, eqb-true, lt-ltb, le-ltb, ltb-true, or_cases, or_left, or_right, and_parts, not_from_false, false≢true, false_from_ne_true}
use Rattle.std.proofs.lemmas.List.Folds.{Any-from_list_any, list_any_at}
use Rattle.pg_cut.specs.WorkerSet.{is_in}
use Rattle.pg_greedy.specs.Greedy.{turn_of, goes_before, best_of, IsBest}

not-true : (b : Bool) → not b ≡ true → b ≡ false
not-true true t = absurd (false≢true t)
not-true false t = refl

and_both : (a b : Bool) → a ≡ true → b ≡ true → (a && b) ≡ true
and_both a b e f = rw (e, f) refl

-- whether some element passes doesn't hold where none of the set does
none_passes : (p : ℕ → Bool) (xs : List ℕ) → ((x : ℕ) → is_in x xs ≡ true → p x ≡ false) → list_any p xs ≡ false
none_passes p xs fails = false_from_ne_true (list_any p xs) (λ t. let at = Any-from_list_any p xs t in
    let member = list_any_at (λ w. w == at.1) xs at.0 at.1 at.2 (eq-eqb (get_or xs at.0 at.1) at.1 at.3) in
    false≢true (sym (fails at.1 member) ∙ at.4))

-- no element passes where some doesn't
fails_each : (p : ℕ → Bool) (xs : List ℕ) (x : ℕ) → list_any p xs ≡ false → is_in x xs ≡ true → p x ≡ false
fails_each p xs x none member = false_from_ne_true (p x) (λ t. let at = Any-from_list_any (λ w. w == x) xs member in
    let same : get_or xs at.0 at.1 ≡ x = at.3 ∙ eqb-true at.1 x at.4 in
    false≢true (sym none ∙ list_any_at p xs at.0 at.1 at.2 (ap p same ∙ t)))

-- the first of a filter that keeps one element
only_first : (p : ℕ → Bool) (xs : List ℕ) (x : ℕ) → is_in x xs ≡ true → p x ≡ true → ((y : ℕ) → is_in y xs ≡ true → p y ≡ true → y ≡ x) → x ≡ get_or (filter p xs) 0 0
only_first p [] x member pass only = absurd (false≢true member)
only_first p (y ∷ ys) x member pass only = ⊎_elim kept (λ f. rw f (only_first p ys x (later f) pass (λ z h t. only z (behind z h) t))) (cases_Bool (p y))
  where
    first : is_in y (y ∷ ys) ≡ true
    first = list_any_at (λ w. w == y) (y ∷ ys) 0 0 (omega arith) (eq-eqb y y refl)

    kept : p y ≡ true → x ≡ get_or (filter p (y ∷ ys)) 0 0
    kept t = rw t (sym (only y first t))

    behind : (z : ℕ) → is_in z ys ≡ true → is_in z (y ∷ ys) ≡ true
    behind z h = or_right (y == z) (is_in z ys) h

    later : p y ≡ false → is_in x ys ≡ true
    later f = ⊎_elim (λ e. absurd (false≢true (sym f ∙ ap p (eqb-true y x e) ∙ pass))) (λ h. h) (or_cases (y == x) (is_in x ys) member)

-- of two workers with one turn
turn_apart : (workers first a b : ℕ) → first < workers → a < workers → b < workers → turn_of workers first a ≡ turn_of workers first b → a ≡ b
turn_apart workers first a b h ha hb = ⊎_elim (λ la. rw (lt-ltb a first la) (⊎_elim (λ lb. rw (lt-ltb b first lb) (λ e. omega arith)) (λ lb. rw (le-ltb b first lb) (λ e. omega arith)) (cases_lt b first)))
    (λ la. rw (le-ltb a first la) (⊎_elim (λ lb. rw (lt-ltb b first lb) (λ e. omega arith)) (λ lb. rw (le-ltb b first lb) (λ e. omega arith)) (cases_lt b first))) (cases_lt a first)

module _ (workers first : ℕ) (loads set : List ℕ) (worker : ℕ) (below : first < workers) (within : (w : ℕ) → is_in w set ≡ true → w < workers) (best : IsBest workers first loads set worker) where
  goes : ℕ → ℕ → Bool
  goes a b = goes_before workers first loads a b

  none_before : (x : ℕ) → is_in x set ≡ true → goes_before workers first loads x worker ≡ false
  none_before x h = false_from_ne_true _ (λ t. ⊎_elim (λ less. let l : get_or loads x 0 < get_or loads worker 0 = ltb-true _ _ less in let m = best.least x h in omega arith)
      (λ tie. let parts = and_parts _ _ tie in let same : get_or loads x 0 ≡ get_or loads worker 0 = eqb-true _ _ parts.0 in let l : turn_of workers first x < turn_of workers first worker = ltb-true _ _ parts.1 in let m = best.earliest x h same in omega arith) (or_cases _ _ t))

  as_good : (x : ℕ) → is_in x set ≡ true → goes_before workers first loads worker x ≡ false → x ≡ worker
  as_good x h f = let least = best.least x h in
      let loads_same : get_or loads x 0 ≡ get_or loads worker 0 = ⊎_elim (λ less. absurd (false≢true (sym f ∙ or_left _ _ (lt-ltb _ _ less)))) (λ le. omega arith) (cases_lt (get_or loads worker 0) (get_or loads x 0)) in
      let early = best.earliest x h loads_same in
      let turns_same : turn_of workers first x ≡ turn_of workers first worker = ⊎_elim
      (λ less. absurd (false≢true (sym f ∙ or_right _ _ (and_both _ _ (eq-eqb _ _ (sym loads_same)) (lt-ltb _ _ less))))) (λ le. omega arith) (cases_lt (turn_of workers first worker) (turn_of workers first x)) in
      turn_apart workers first x worker below (within x h) (within worker best.member) turns_same

  pub best_is : worker ≡ best_of workers first loads set
  best_is = only_first (λ w. not (list_any (λ x. goes_before workers first loads x w) set)) set worker best.member
      (not_from_false _ (none_passes (λ x. goes_before workers first loads x worker) set none_before))
      (λ y h t. as_good y h (fails_each (λ x. goes_before workers first loads x y) set worker (not-true _ t) best.member))
