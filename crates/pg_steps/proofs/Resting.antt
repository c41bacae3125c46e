-- Whether anything is signalled.
use Rattle.std.proofs.Common.{◌≡◌, ℕ, zero, suc, ◌+◌, ◌<◌, ◌⊎◌, Bool, true, false, cond, length}
use Rattle.std.proofs.Common.{refl, sym, ◌∙◌, ap, arith, add-one, inl, inr}
use Rattle.std.specs.Prelude.{filter}
use Rattle.std.specs.List.{range_with_len}
use Rattle.std.proofs.lemmas.Bool.{eq-eqb, eqb-true, true≢false, cases_order}
use Rattle.pg_graph.specs.Multigraph.{Multigraph}
use Rattle.pg_graph.proofs.Numbers.{length_filter_more}
use Rattle.pg_law.specs.Configuration.{Configuration, is_signalled, signalled, is_quiet}

module _ (test : ℕ → Bool) where
  abbrev passing : ℕ → ℕ
  passing n = length (filter test (range_with_len 0 n))

  one_more : (n : ℕ) → passing (suc n) ≡ passing n + cond (test n) 1 0
  one_more n = ap passing (sym (add-one n)) ∙ length_filter_more test n

  -- no number passes where none is counted
  none_passes : (n : ℕ) → passing n ≡ 0 → (v : ℕ) → v < n → test v ≡ false
  none_passes zero none v h = absurd (omega arith)
  none_passes (suc n) none v h = by_last (test n) refl (one_more n) (none_passes n)
    where
      by_last : (b : Bool) → test n ≡ b → passing (suc n) ≡ passing n + cond b 1 0
          → (passing n ≡ 0 → (v : ℕ) → v < n → test v ≡ false) → test v ≡ false
      by_last true is more before = absurd (omega (arith, none, more))
      by_last false is more before = by_place (cases_order v n)
        where
          by_place : (v ≡ n) ⊎ ((v < n) ⊎ (n < v)) → test v ≡ false
          by_place (inl same) = ap test same ∙ is
          by_place (inr (inl below)) = before (omega (arith, none, more)) v below
          by_place (inr (inr above)) = absurd (omega arith)

  -- some number passes where some are counted
  some_passes : (n : ℕ) → 0 < passing n → (v : ℕ) × (v < n) × (test v ≡ true)
  some_passes zero some = absurd (omega arith)
  some_passes (suc n) some = by_last (test n) refl (one_more n) (some_passes n)
    where
      further : (v : ℕ) × (v < n) × (test v ≡ true) → (v : ℕ) × (v < suc n) × (test v ≡ true)
      further (v, below, passes) = (v, omega arith, passes)

      by_last : (b : Bool) → test n ≡ b → passing (suc n) ≡ passing n + cond b 1 0
          → (0 < passing n → (v : ℕ) × (v < n) × (test v ≡ true))
          → (v : ℕ) × (v < suc n) × (test v ≡ true)
      by_last true is more before = (n, omega arith, is)
      by_last false is more before = further (before (omega (arith, some, more)))

-- nothing is signalled in a quiet state
pub quiet_silent : (g : Multigraph) (s : Configuration) → is_quiet g s ≡ true
    → (v : ℕ) → v < length g.ids → is_signalled s v ≡ false
quiet_silent g s quiet v h = none_passes (is_signalled s) (length g.ids)
    (eqb-true (length (signalled g s)) 0 quiet) v h

-- and something in any other
pub busy_some : (g : Multigraph) (s : Configuration) → is_quiet g s ≡ false
    → (v : ℕ) × (v < length g.ids) × (is_signalled s v ≡ true)
busy_some g s busy = some_passes (is_signalled s) (length g.ids)
    (positive (cases_order (length (signalled g s)) 0))
  where
    positive : (length (signalled g s) ≡ 0) ⊎ ((length (signalled g s) < 0)
        ⊎ (0 < length (signalled g s))) → 0 < length (signalled g s)
    positive (inl none) = absurd (true≢false (sym (eq-eqb (length (signalled g s)) 0 none) ∙ busy))
    positive (inr (inl below)) = absurd (omega arith)
    positive (inr (inr some)) = some
