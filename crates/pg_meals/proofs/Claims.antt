-- Claim and drop keep the words clean.
use Rattle.std.proofs.Common.{ℕ, ◌<◌, ◌≡◌, ◌⊎◌, Bool, true, false, Some, None, arith}
use Rattle.std.proofs.lemmas.Bool.Decides.{nat_tests}
use Rattle.pg_meals.specs.Shape.{Shape}
use Rattle.pg_meals.specs.Words.{Words, claimed, dropped, marked}
use Rattle.pg_meals.specs.Hygiene.{Hygiene}

-- a claim keeps hygiene
pub claim_keeps : (g : Shape) (fuel : ℕ) (sig : ℕ → Bool) (w : Words) (a v : ℕ) (evidence : Bool) → v < g.vertices → (w.grip a).vertex ≡ None → w.vertex v ≡ None → (evidence ≡ true → sig v ≡ true)
    → Hygiene g fuel sig w → Hygiene g fuel sig (claimed w a v evidence)
claim_keeps g fuel sig w a v evidence within idle free known h = record {
  named = λ u b p. grind (arith, nat_tests, h.named);
  names = λ u b p. grind (arith, nat_tests, h.names);
  inside = λ b u q. grind (arith, nat_tests, h.inside);
  turn_named = λ b p. grind (arith, nat_tests, h.turn_named, h.turn_ready);
  turn_names = λ b p. grind (arith, nat_tests, h.turn_names);
  turn_ready = λ b p. grind (arith, nat_tests, h.turn_ready);
  pin_inside = λ b e p. grind (arith, nat_tests, h.pin_inside);
  pin_word = λ b e p. grind (arith, nat_tests, h.pin_word);
  pin_holder = λ b e p. grind (arith, nat_tests, h.pin_holder);
  pinner = λ e p. grind (arith, nat_tests, h.pinner);
  clean_lower = λ e i d k. grind (arith, nat_tests, h.clean_lower, h.pin_holder);
  dirty_higher = h.dirty_higher;
  committed_higher = λ b e p c. grind (arith, nat_tests, h.committed_higher);
  clean_signalled = h.clean_signalled;
  asked_signalled = h.asked_signalled;
  not_both = h.not_both;
  evidence_signalled = λ b p c. grind (arith, nat_tests, h.evidence_signalled, known);
  short = h.short;
  clean_marked = λ b e c p d. grind (arith, nat_tests, h.clean_marked);
  taken_clean = λ b e c p t. grind (arith, nat_tests, h.taken_clean);
}

-- so does a drop
pub drop_keeps : (g : Shape) (fuel : ℕ) (sig : ℕ → Bool) (w : Words) (a v : ℕ) → (w.grip a).vertex ≡ Some v → ((e : ℕ) → (w.grip a).pins e ≡ false) → (w.grip a).turn ≡ false
    → Hygiene g fuel sig w → Hygiene g fuel sig (dropped w a v)
drop_keeps g fuel sig w a v busy empty idle h = record {
  named = λ u b p. grind (arith, nat_tests, h.named);
  names = λ u b p. grind (arith, nat_tests, h.names);
  inside = λ b u q. grind (arith, nat_tests, h.inside);
  turn_named = λ b p. grind (arith, nat_tests, h.turn_named);
  turn_names = λ b p. grind (arith, nat_tests, h.turn_names);
  turn_ready = λ b p. grind (arith, nat_tests, h.turn_ready);
  pin_inside = λ b e p. grind (arith, nat_tests, h.pin_inside);
  pin_word = λ b e p. grind (arith, nat_tests, h.pin_word);
  pin_holder = λ b e p. grind (arith, nat_tests, h.pin_holder);
  pinner = λ e p. grind (arith, nat_tests, h.pinner, empty);
  clean_lower = λ e i d k. grind (arith, nat_tests, h.clean_lower, empty);
  dirty_higher = h.dirty_higher;
  committed_higher = λ b e p c. grind (arith, nat_tests, h.committed_higher);
  clean_signalled = h.clean_signalled;
  asked_signalled = h.asked_signalled;
  not_both = h.not_both;
  evidence_signalled = λ b p c. grind (arith, nat_tests, h.evidence_signalled);
  short = h.short;
  clean_marked = λ b e c p d. grind (arith, nat_tests, h.clean_marked);
  taken_clean = λ b e c p t. grind (arith, nat_tests, h.taken_clean);
}

-- so does a look
pub mark_keeps : (g : Shape) (fuel : ℕ) (sig : ℕ → Bool) (w : Words) (a v : ℕ) (evidence : Bool) → (w.grip a).vertex ≡ Some v → (evidence ≡ true → ((w.grip a).evidence ≡ true) ⊎ (sig v ≡ true)) → ((w.grip a).evidence ≡ true → evidence ≡ true)
    → Hygiene g fuel sig w → Hygiene g fuel sig (marked w a evidence)
mark_keeps g fuel sig w a v evidence busy known more h = record {
  named = λ u b p. grind (arith, nat_tests, h.named);
  names = λ u b p. grind (arith, nat_tests, h.names);
  inside = λ b u q. grind (arith, nat_tests, h.inside);
  turn_named = λ b p. grind (arith, nat_tests, h.turn_named);
  turn_names = λ b p. grind (arith, nat_tests, h.turn_names);
  turn_ready = λ b p. grind (arith, nat_tests, h.turn_ready);
  pin_inside = λ b e p. grind (arith, nat_tests, h.pin_inside);
  pin_word = λ b e p. grind (arith, nat_tests, h.pin_word);
  pin_holder = λ b e p. grind (arith, nat_tests, h.pin_holder);
  pinner = λ e p. grind (arith, nat_tests, h.pinner);
  clean_lower = λ e i d k. grind (arith, nat_tests, h.clean_lower);
  dirty_higher = h.dirty_higher;
  committed_higher = λ b e p c. grind (arith, nat_tests, h.committed_higher);
  clean_signalled = h.clean_signalled;
  asked_signalled = h.asked_signalled;
  not_both = h.not_both;
  evidence_signalled = λ b p c. grind (arith, nat_tests, h.evidence_signalled, known);
  short = h.short;
  clean_marked = λ b e c p d. grind (arith, nat_tests, h.clean_marked, more);
  taken_clean = λ b e c p t. grind (arith, nat_tests, h.taken_clean);
}
