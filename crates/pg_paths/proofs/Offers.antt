-- Pairs that are offered over edges.
use Rattle.std.proofs.Common.{◌≡◌, ℕ, ◌<◌, ◌≤◌, Bool, true, false, cond, refl, sym, ap, ◌∙◌, arith}
use Rattle.std.specs.Prelude.{◌==◌}
use Rattle.std.proofs.lemmas.Bool.{eq-eqb, eqb-true, ne_eqb}
use Rattle.std.proofs.lemmas.Bool.Decides.{nat_tests}
use Rattle.pg_law.specs.declared.values.Datum.{Datum}
use Rattle.pg_law.specs.Values.{two}
use Rattle.pg_law.specs.Words.{greatest}
use Rattle.pg_paths.specs.Plus.{plus}
use Rattle.pg_paths.specs.Pairs.{is_below, smaller_pair, unreached, via}

not_below_self : (a : Datum) → is_below a a ≡ false
not_below_self a = grind (arith, nat_tests)

below_low : (o a b : Datum) → is_below o a ≡ false → is_below b a ≡ true → is_below o b ≡ false
below_low o a b h k = grind (arith, nat_tests)

not_below_low : (o a b : Datum) → is_below o b ≡ false → is_below b a ≡ false
    → is_below o a ≡ false
not_below_low o a b h k = grind (arith, nat_tests)

-- what isn't below either isn't below the smaller
pub left_low : (o a b : Datum) → is_below o a ≡ false → is_below o (smaller_pair a b) ≡ false
left_low o a b h = chosen (is_below b a) refl
  where
    chosen : (t : Bool) → is_below b a ≡ t → is_below o (cond t b a) ≡ false
    chosen true less = below_low o a b h less
    chosen false more = h

pub right_low : (o a b : Datum) → is_below o b ≡ false → is_below o (smaller_pair a b) ≡ false
right_low o a b h = chosen (is_below b a) refl
  where
    chosen : (t : Bool) → is_below b a ≡ t → is_below o (cond t b a) ≡ false
    chosen true less = h
    chosen false more = not_below_low o a b h more

pub self_low : (o a : Datum) → is_below o (smaller_pair a o) ≡ false
self_low o a = right_low o a o (not_below_self o)

-- and each of its words is no greater
pub first_low : (o d : Datum) → is_below o d ≡ false → d.first ≤ o.first
first_low o d h = grind (arith, nat_tests)

pub second_low : (o d : Datum) → is_below o d ≡ false → d.first ≡ o.first → d.second ≤ o.second
second_low o d h same = grind (arith, nat_tests)

-- what holds of both holds of the smaller
pub smaller_either : (Q : Datum → Type 0) (a b : Datum) → Q a → Q b → Q (smaller_pair a b)
smaller_either Q a b qa qb = chosen (is_below b a)
  where
    chosen : (t : Bool) → Q (cond t b a)
    chosen true = qb
    chosen false = qa

-- the length of an offer
pub via_first : (length weight id : ℕ) → (via length weight id).first ≡ plus length weight
via_first length weight id = chosen (plus length weight == greatest) refl
  where
    chosen : (t : Bool) → (plus length weight == greatest) ≡ t
        → (cond t unreached (two (plus length weight) id)).first ≡ plus length weight
    chosen true most = sym (eqb-true (plus length weight) greatest most)
    chosen false less = refl

-- an offer of a path
pub via_path : (length weight id : ℕ) → plus length weight < greatest
    → via length weight id ≡ two (plus length weight) id
via_path length weight id less = ap (λ t. cond t unreached (two (plus length weight) id))
    (ne_eqb (plus length weight) greatest (λ most. absurd (omega (arith, most, less))))

-- and one of none
pub via_none : (weight id : ℕ) → via greatest weight id ≡ unreached
via_none weight id = ap (λ t. cond t unreached (two (plus greatest weight) id))
    (eq-eqb (plus greatest weight) greatest (omega arith))

pub none_low : (d : Datum) → d ≡ unreached → is_below d unreached ≡ false
none_low d is = ap (λ d. is_below d unreached) is ∙ not_below_self unreached
