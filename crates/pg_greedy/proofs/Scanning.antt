-- Going over the workers of a set, one after another.
use Rattle.std.proofs.Common.{◌≡◌, ◌≢◌, ℕ, ◌+◌, ◌-◌, ◌<◌, ◌≤◌, arith, true, false, cond, ◌==◌, inl, inr, sym, ◌∙◌, ap, ⊎_elim}
use Rattle.std.specs.Prelude.{◌⊎◌, nat_lt}
use Rattle.std.proofs.lemmas.Bool.{cases_eq, eq-eqb, ne_eqb, false≢true, cond_both, ltb-true}
use Rattle.pg_cut.specs.WorkerSet.{has}
use Rattle.pg_greedy.specs.Greedy.{turn_of}

module _ (rest worker less : ℕ) (taken : (w : ℕ) → has less w ≡ cond (w == worker) false (has rest w)) where
  at_other : (w : ℕ) → w ≢ worker → has less w ≡ has rest w
  at_other w ne = taken w ∙ ap (λ b. cond b false (has rest w)) (ne_eqb w worker ne)

  -- what is left was there
  pub left_before : (w : ℕ) → has less w ≡ true → has rest w ≡ true
  left_before w t = ⊎_elim (λ e. absurd (false≢true (sym (taken w ∙ ap (λ b. cond b false (has rest w)) (eq-eqb w worker e)) ∙ t))) (λ ne. sym (at_other w ne) ∙ t) (cases_eq w worker)

  -- what is gone is the one, or was gone
  pub gone_now : (w : ℕ) → has less w ≡ false → (w ≡ worker) ⊎ (has rest w ≡ false)
  gone_now w f = ⊎_elim (λ e. inl e) (λ ne. inr (sym (at_other w ne) ∙ f)) (cases_eq w worker)

-- a turn is below 64
pub turn_few : (workers first w : ℕ) → workers ≤ 64 → first < workers → w < workers → turn_of workers first w < 64
turn_few workers first w few h below = cond_both (nat_lt w first) (w + workers - first) (w - first) (λ t. t < 64) (λ e. omega (arith, ltb-true w first e)) (λ e. omega arith)
