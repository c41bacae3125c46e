-- The signalled vertex of least number, as the set of the signalled vertices gives it.
use Rattle.std.proofs.Common.{◌≡◌, ℕ, zero, suc, ◌<◌, Bool, true, false, cond, Option, Some, None, List, [], ◌∷◌, ◌++◌, length}
use Rattle.std.proofs.Common.{refl, sym, ◌∙◌, ap, subst, arith, add-one, inl, inr, ⊎_elim}
use Rattle.std.specs.Prelude.{filter, ◌==◌, ◌⊎◌, is_some, slice_get}
use Rattle.std.specs.List.{range_with_len}
use Rattle.std.proofs.lemmas.Bool.{cases_order, cases_lt, true≢false, ne_eqb}
use Rattle.std.proofs.lemmas.List.{get_or_past}
use Rattle.std.proofs.lemmas.Option.{none-some}
use Rattle.pg_graph.specs.Multigraph.{Multigraph}
use Rattle.pg_graph.proofs.Numbers.{filter_numbers_more}
use Rattle.pg_law.specs.declared.values.End.TheVariants.{Quiescent, Spent}
use Rattle.pg_law.specs.Configuration.{Configuration, is_signalled, signalled}
use Rattle.pg_law.specs.Rounds.{end_of}
use Rattle.pg_serial.specs.Bits.{has, IsLeastOf}
use Rattle.pg_serial.specs.Queue.{HasSignalled, IsNextOf}
use Rattle.pg_serial.specs.Serial.{least_signalled}

-- no number passes
pub none_pass : (p : ℕ → Bool) (n : ℕ) → ((v : ℕ) → v < n → p v ≡ false) → filter p (range_with_len 0 n) ≡ []
none_pass p zero none = refl
none_pass p (suc n) none = let P : ℕ → Type 0 = λ k. filter p (range_with_len 0 k) ≡ [] in
    subst P (add-one n) (filter_numbers_more p n ∙ ap (λ (xs : List ℕ). xs ++ cond (p n) (n ∷ []) []) (none_pass p n (λ v h. none v (omega arith))) ∙ ap (λ b. cond b (n ∷ []) []) (none n (omega arith)))

first_stays : (xs ys : List ℕ) (u : ℕ) → slice_get xs 0 ≡ Some u → slice_get (xs ++ ys) 0 ≡ Some u
first_stays [] ys u h = absurd (none-some u h)
first_stays (x ∷ xs) ys u h = h

-- the first number that passes
pub first_pass : (p : ℕ → Bool) (n u : ℕ) → u < n → p u ≡ true → ((v : ℕ) → v < u → p v ≡ false) → slice_get (filter p (range_with_len 0 n)) 0 ≡ Some u
first_pass p zero u h passes none = absurd (omega arith)
first_pass p (suc n) u h passes none = let P : ℕ → Type 0 = λ k. slice_get (filter p (range_with_len 0 k)) 0 ≡ Some u in
    subst P (add-one n) (ap (λ xs. slice_get xs 0) (filter_numbers_more p n) ∙ by_place (λ below. first_pass p n u below passes none) (cases_order u n))
  where
    by_place : (u < n → slice_get (filter p (range_with_len 0 n)) 0 ≡ Some u) → (u ≡ n) ⊎ ((u < n) ⊎ (n < u)) → slice_get (filter p (range_with_len 0 n) ++ cond (p n) (n ∷ []) []) 0 ≡ Some u
    by_place before (inl same) = rw (none_pass p n (λ v below. none v (omega arith)), sym same, passes) refl
    by_place before (inr (inl below)) = first_stays (filter p (range_with_len 0 n)) _ u (before below)
    by_place before (inr (inr above)) = absurd (omega arith)

module _ (g : Multigraph) (s : Configuration) where
  pub least_is : (u : ℕ) → u < length g.ids → is_signalled s u ≡ true → ((v : ℕ) → v < u → is_signalled s v ≡ false) → least_signalled g s ≡ Some u
  least_is u h passes none = first_pass (is_signalled s) (length g.ids) u h passes none

  pub none_signalled : ((v : ℕ) → is_signalled s v ≡ false) → signalled g s ≡ []
  none_signalled none = none_pass (is_signalled s) (length g.ids) (λ v h. none v)

module _ (g : Multigraph) (s : Configuration) (many : length s.messages ≡ length g.ids) (queue : List ℕ) (is : HasSignalled queue s) where
  inside : (u : ℕ) → is_signalled s u ≡ true → u < length g.ids
  inside u some = ⊎_elim (λ below. below) (λ past. absurd (true≢false (sym some
      ∙ ap is_some (get_or_past s.messages u None (omega (arith, past, many)))))) (cases_lt u (length g.ids))

  -- what the set gives next
  pub next_is : (left : ℕ) → 0 < left → (o : Option ℕ) → IsLeastOf (has queue) o → IsNextOf g s left o
  next_is left some None none = inr (ap (λ (xs : List ℕ). slice_get xs 0) (none_signalled g s (λ v. sym (is v) ∙ none v)))
  next_is left some (Some u) least = let signalled : is_signalled s u ≡ true = sym (is u) ∙ least.passes in
      let within = inside u signalled in
      record { some = some; within = within; signalled = signalled; least = least_is g s u within signalled (λ v below. sym (is v) ∙ least.first v below) }

  some_busy : (xs : List ℕ) (u : ℕ) → slice_get xs 0 ≡ Some u → (length xs == 0) ≡ false
  some_busy [] u h = absurd (none-some u h)
  some_busy (x ∷ xs) u h = ne_eqb (length (x ∷ xs)) 0 (λ e. absurd (omega (arith, e)))

  -- how a run ends, by whether the set is empty
  pub end_is : (o : Option ℕ) → IsLeastOf (has queue) o → cond (is_some o) Spent Quiescent ≡ end_of g s
  end_is None none = sym (ap (λ (xs : List ℕ). cond (length xs == 0) Quiescent Spent) (none_signalled g s (λ v. sym (is v) ∙ none v)))
  end_is (Some u) least = let signalled : is_signalled s u ≡ true = sym (is u) ∙ least.passes in
      sym (ap (λ b. cond b Quiescent Spent) (some_busy _ u (least_is g s u (inside u signalled) signalled (λ v below. sym (is v) ∙ least.first v below))))

-- where no vertex comes next
pub over : (g : Multigraph) (s : Configuration) (left : ℕ) (o : Option ℕ) → IsNextOf g s left o → ((u : ℕ) → o ≡ Some u → ⊥) → (left ≡ 0) ⊎ (least_signalled g s ≡ None)
over g s left None is none = is
over g s left (Some u) is none = absurd (none u refl)
