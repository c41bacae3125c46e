-- Pairs are totally ordered, and a longer path gives no smaller pair.
use Rattle.std.proofs.Common.{◌≡◌, ℕ, ◌≤◌, Bool, true, false, cond, ◌==◌, refl, sym, ap, ◌∙◌, arith}
use Rattle.std.proofs.lemmas.Bool.{true≢false}
use Rattle.std.proofs.lemmas.Bool.Decides.{nat_tests}
use Rattle.pg_law.specs.declared.values.Datum.{Datum}
use Rattle.pg_law.specs.Values.{two}
use Rattle.pg_law.specs.Words.{IsU64, greatest}
use Rattle.pg_paths.specs.Plus.{plus}
use Rattle.pg_paths.specs.Pairs.{IsPair, is_below, smaller_pair, unreached, via}
use Rattle.pg_paths.specs.ShortestPathsLaws.{plus_own, plus_below}

below_one_way : (a b : Datum) → is_below a b ≡ true → is_below b a ≡ false
below_one_way a b h = grind (arith, nat_tests)

below_trans : (a b c : Datum) → is_below a b ≡ true → is_below b c ≡ true → is_below a c ≡ true
below_trans a b c h k = grind (arith, nat_tests)

not_below_trans : (a b c : Datum) → is_below b a ≡ false → is_below c b ≡ false
    → is_below c a ≡ false
not_below_trans a b c h k = grind (arith, nat_tests)

same_first : (a b : Datum) → is_below a b ≡ false → is_below b a ≡ false → a.first ≡ b.first
same_first a b h k = grind (arith, nat_tests)

same_second : (a b : Datum) → is_below a b ≡ false → is_below b a ≡ false → a.second ≡ b.second
same_second a b h k = grind (arith, nat_tests)

below_neither : (a b : Datum) → is_below a b ≡ false → is_below b a ≡ false → a ≡ b
below_neither a b h k = ap (λ x. two x a.second) (same_first a b h k)
    ∙ ap (λ y. two b.first y) (same_second a b h k)

smaller_right : (a b : Datum) → is_below b a ≡ true → smaller_pair a b ≡ b
smaller_right a b h = ap (λ test. cond test b a) h

smaller_left : (a b : Datum) → is_below b a ≡ false → smaller_pair a b ≡ a
smaller_left a b h = ap (λ test. cond test b a) h

pub smaller_comm : (a b : Datum) → smaller_pair a b ≡ smaller_pair b a
smaller_comm a b = chosen (is_below b a) (is_below a b) refl refl
  where
    chosen : (ba ab : Bool) → is_below b a ≡ ba → is_below a b ≡ ab
        → smaller_pair a b ≡ smaller_pair b a
    chosen true true h k = absurd (true≢false (sym k ∙ below_one_way b a h))
    chosen true false h k = smaller_right a b h ∙ sym (smaller_left b a k)
    chosen false true h k = smaller_left a b h ∙ sym (smaller_right b a k)
    chosen false false h k = ap (λ x. smaller_pair x b) (below_neither a b k h)
        ∙ ap (λ x. smaller_pair b x) (sym (below_neither a b k h))

pub smaller_assoc : (a b c : Datum)
    → smaller_pair (smaller_pair a b) c ≡ smaller_pair a (smaller_pair b c)
smaller_assoc a b c = chosen (is_below b a) (is_below c b) refl refl
  where
    left : (x : Datum) → smaller_pair a b ≡ x → smaller_pair (smaller_pair a b) c ≡ smaller_pair x c
    left x e = ap (λ y. smaller_pair y c) e

    right : (x : Datum) → smaller_pair b c ≡ x
        → smaller_pair a (smaller_pair b c) ≡ smaller_pair a x
    right x e = ap (λ y. smaller_pair a y) e

    chosen : (ba cb : Bool) → is_below b a ≡ ba → is_below c b ≡ cb
        → smaller_pair (smaller_pair a b) c ≡ smaller_pair a (smaller_pair b c)
    chosen true true h k = left b (smaller_right a b h) ∙ smaller_right b c k
        ∙ sym (right c (smaller_right b c k) ∙ smaller_right a c (below_trans c b a k h))
    chosen true false h k = left b (smaller_right a b h) ∙ smaller_left b c k
        ∙ sym (right b (smaller_left b c k) ∙ smaller_right a b h)
    chosen false true h k = left a (smaller_left a b h) ∙ sym (right c (smaller_right b c k))
    chosen false false h k = left a (smaller_left a b h)
        ∙ smaller_left a c (not_below_trans a b c h k)
        ∙ sym (right b (smaller_left b c k) ∙ smaller_left a b h)

-- the second of two, where the first isn't below it
smaller_last : (a b : Datum) → is_below a b ≡ false → smaller_pair a b ≡ b
smaller_last a b h = smaller_comm a b ∙ smaller_left b a h

above_all : (a : Datum) → IsPair a → is_below unreached a ≡ false
above_all a h = grind (arith, nat_tests)

pub smaller_unit : (a : Datum) → IsPair a → smaller_pair unreached a ≡ a
smaller_unit a h = smaller_last unreached a (above_all a h)

pub smaller_own : (a b : Datum) → IsPair a → IsPair b → IsPair (smaller_pair a b)
smaller_own a b ha hb = chosen (is_below b a)
  where
    chosen : (ba : Bool) → IsPair (cond ba b a)
    chosen true = hb
    chosen false = ha

pub unreached_own : IsPair unreached
unreached_own = record { first = omega arith; second = omega arith }

pub via_own : (length weight id : ℕ) → IsU64 id → IsPair (via length weight id)
via_own length weight id h = chosen (plus length weight == greatest)
  where
    chosen : (none : Bool) → IsPair (cond none unreached (two (plus length weight) id))
    chosen true = unreached_own
    chosen false = record { first = plus_own length weight; second = h }

-- a shorter path gives no greater pair
via_not_below : (new old weight id : ℕ) → IsU64 id → new ≤ old
    → is_below (via old weight id) (via new weight id) ≡ false
via_not_below new old weight id own h = chosen (plus old weight == greatest)
    (plus new weight == greatest) refl refl
  where
    longer : (x y : ℕ) → x ≤ y → is_below (two y id) (two x id) ≡ false
    longer x y le = grind (arith, nat_tests)

    chosen : (old_none new_none : Bool) → (plus old weight == greatest) ≡ old_none
        → (plus new weight == greatest) ≡ new_none
        → is_below (cond old_none unreached (two (plus old weight) id))
        (cond new_none unreached (two (plus new weight) id)) ≡ false
    chosen true true e f = refl
    chosen true false e f = above_all _ (record { first = plus_own new weight; second = own })
    chosen false true e f = grind (arith, nat_tests)
    chosen false false e f = longer (plus new weight) (plus old weight)
        (plus_below new old weight h)

pub via_joined : (new old weight id : ℕ) → IsU64 id → new ≤ old
    → smaller_pair (via old weight id) (via new weight id) ≡ via new weight id
via_joined new old weight id own h = smaller_last _ _ (via_not_below new old weight id own h)

-- the smaller of two is no longer than either
pub smaller_first : (a b : Datum) → (smaller_pair a b).first ≤ a.first
smaller_first a b = chosen (is_below b a) refl
  where
    shorter : (x y : Datum) → is_below y x ≡ true → y.first ≤ x.first
    shorter x y h = grind (arith, nat_tests)

    chosen : (ba : Bool) → is_below b a ≡ ba → (cond ba b a).first ≤ a.first
    chosen true h = shorter a b h
    chosen false h = omega arith
