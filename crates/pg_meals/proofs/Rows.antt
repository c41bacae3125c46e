-- What each row of the table of fork words says.
use Rattle.std.proofs.Common.{◌≡◌, ◌⊎◌, Bool, true, false, cond, not, ◌&&◌, ◌||◌, Option, Some, None, inl, inr, arith, refl, sym, ap}
use Rattle.pg_forks.specs.declared.fork_word.ForkWord.{ForkWord}
use Rattle.pg_forks.specs.declared.fork_word.Why.{Why}
use Rattle.pg_graph.specs.declared.edge.Side.{Side}
use Rattle.pg_graph.specs.declared.edge.Side.TheVariants.{Source, Target}
use Rattle.pg_graph.specs.Multigraph.{opposite}
use Rattle.pg_forks.specs.Transitions.{same_side, pin_of, take_of, ask_of, hand_over_of, back_of}
use Rattle.pg_meals.specs.Acts.{Got, or_take}
use Rattle.pg_meals.proofs.At.{some_of}

-- the two sides of an edge
pub side_or : (t s : Side) → (t ≡ s) ⊎ (t ≡ opposite s)
side_or Source Source = inl refl
side_or Target Target = inl refl
side_or Source Target = inr refl
side_or Target Source = inr refl

-- sides that are the same
pub same_is : (s t : Side) → same_side s t ≡ true → s ≡ t
same_is Source Source e = refl
same_is Target Target e = refl
same_is Source Target e = cc
same_is Target Source e = cc

-- and sides that are not
pub differs_is : (s t : Side) → same_side s t ≡ false → s ≡ opposite t
differs_is Source Source e = cc
differs_is Target Target e = cc
differs_is Source Target e = refl
differs_is Target Source e = refl

-- where a test gives a value, it holds
pub cond_some : {X : Type 0} (b : Bool) (x y : X) → cond b (Some x) None ≡ Some y → (b ≡ true) × (x ≡ y)
cond_some true x y e = (refl, cc)
cond_some false x y e = absurd (cc)

-- of two that hold the first does
pub and_left : (a b : Bool) → (a && b) ≡ true → a ≡ true
and_left true b e = refl
and_left false b e = e

-- and the second
pub and_right : (a b : Bool) → (a && b) ≡ true → b ≡ true
and_right true b e = e
and_right false b e = absurd (cc)

-- what is not true is false
pub not_true : (a : Bool) → not a ≡ true → a ≡ false
not_true true e = absurd (cc)
not_true false e = refl

-- of two one of which holds
pub or_either : (a b : Bool) → (a || b) ≡ true → (a ≡ true) ⊎ (b ≡ true)
or_either true b e = inl refl
or_either false b e = inr e

-- the first is enough
pub or_left : (a b : Bool) → a ≡ true → (a || b) ≡ true
or_left true b e = refl
or_left false b e = absurd (cc)

-- and so is the second
pub or_right : (a b : Bool) → b ≡ true → (a || b) ≡ true
or_right true b e = refl
or_right false b e = e

pub record PinRow (w : ForkWord) (me : Side) (word : ForkWord) : Type 0 where
  pub side : w.side ≡ me
  pub free : w.pinned ≡ false
  pub is : word ≡ record w { pinned = true }

-- where pin answers, and what
pub pin_row : (w : ForkWord) (me : Side) (word : ForkWord) → pin_of w me ≡ Some word → PinRow w me word
pin_row w me word e =
    let k = cond_some (same_side w.side me && not w.pinned && not (w.dirty && w.asked)) (record w { pinned = true }) word e in
    let l = and_left (same_side w.side me && not w.pinned) (not (w.dirty && w.asked)) k.0 in
    record { side = same_is w.side me (and_left _ _ l); free = not_true w.pinned (and_right _ _ l); is = sym k.1 }

pub record TakeRow (w : ForkWord) (me : Side) (word : ForkWord) : Type 0 where
  pub side : w.side ≡ opposite me
  pub dirty : w.dirty ≡ true
  pub free : w.pinned ≡ false
  pub is : word ≡ record { side = me; dirty = false; asked = false; pinned = true }

-- where take answers, and what
pub take_row : (w : ForkWord) (me : Side) (word : ForkWord) → take_of w me ≡ Some word → TakeRow w me word
take_row w me word e =
    let k = cond_some (not (same_side w.side me) && w.dirty && not w.pinned) (record { side = me; dirty = false; asked = false; pinned = true }) word e in
    let l = and_left (not (same_side w.side me) && w.dirty) (not w.pinned) k.0 in
    record { side = differs_is w.side me (not_true _ (and_left _ _ l)); dirty = and_right _ _ l; free = not_true w.pinned (and_right _ _ k.0); is = sym k.1 }

pub record AskRow (w : ForkWord) (me : Side) (word : ForkWord) : Type 0 where
  pub side : w.side ≡ opposite me
  pub fits : w.pinned ≡ false → w.dirty ≡ false
  pub is : word ≡ record w { asked = true }

fits_or : (d p : Bool) → (not d || p) ≡ true → p ≡ false → d ≡ false
fits_or true true e f = absurd (cc)
fits_or true false e f = absurd (cc)
fits_or false p e f = refl

-- where ask answers, and what
pub ask_row : (w : ForkWord) (me : Side) (word : ForkWord) → ask_of w me ≡ Some word → AskRow w me word
ask_row w me word e =
    let k = cond_some (not (same_side w.side me) && not w.asked && (not w.dirty || w.pinned)) (record w { asked = true }) word e in
    let l = and_left (not (same_side w.side me) && not w.asked) (not w.dirty || w.pinned) k.0 in
    record { side = differs_is w.side me (not_true _ (and_left _ _ l)); fits = fits_or w.dirty w.pinned (and_right _ _ k.0); is = sym k.1 }

-- a fork that was got was pinned or else taken
pub got_row : (o t : Option ForkWord) (got : Got) → or_take o t ≡ Some got → ((o ≡ Some got.word) × (got.taken ≡ false)) ⊎ ((t ≡ Some got.word) × (got.taken ≡ true))
got_row (Some x) t got e =
    let f = some_of (record { word = x; taken = false }) got e in
    inl (ap (λ (z : Got). Some z.word) f, sym (ap (λ (z : Got). z.taken) f))
got_row None (Some x) got e =
    let f = some_of (record { word = x; taken = true }) got e in
    inr (ap (λ (z : Got). Some z.word) f, sym (ap (λ (z : Got). z.taken) f))
got_row None None got e = absurd (cc)

pub record Handed (me : Side) (word : ForkWord) : Type 0 where
  pub is : word ≡ record { side = opposite me; dirty = false; asked = false; pinned = false }

pub data BackRow (w : ForkWord) (me : Side) (why : Why) (word : ForkWord) : Type 0 where
  entered_asked : why.committed ≡ true → w.asked ≡ true → Handed me word → BackRow w me why word
  entered_rest : why.committed ≡ true → w.asked ≡ false → word ≡ record w { dirty = true; pinned = false } → BackRow w me why word
  handed : why.committed ≡ false → w.dirty ≡ true → w.asked ≡ true → Handed me word → BackRow w me why word
  untaken : why.committed ≡ false → why.taken ≡ true → why.evidence ≡ false → word ≡ record { side = opposite me; dirty = true; asked = false; pinned = false } → BackRow w me why word
  kept : why.committed ≡ false → (w.dirty ≡ true → w.asked ≡ false) → (why.taken ≡ true → why.evidence ≡ true) → word ≡ record w { pinned = false } → BackRow w me why word

cond_else : {X : Type 0} (b : Bool) (x : Option X) (y : X) → cond b x None ≡ Some y → (b ≡ true) × (x ≡ Some y)
cond_else true x y e = (refl, e)
cond_else false x y e = absurd (cc)

not_both_is : (a b : Bool) → (a && b) ≡ false → a ≡ true → b ≡ false
not_both_is a b e f = grind arith

unless : (a b : Bool) → (a && not b) ≡ false → a ≡ true → b ≡ true
unless true true e f = refl
unless true false e f = absurd (cc)
unless false b e f = absurd (cc)

handed_is : (w : ForkWord) (me : Side) (word : ForkWord) → hand_over_of w me ≡ Some word → Handed me word
handed_is w me word e = record { is = sym (cond_some _ _ word e).1 }

back_cases : (w : ForkWord) (me : Side) (why : Why) (word : ForkWord) (committed asked both untook : Bool) → why.committed ≡ committed → w.asked ≡ asked → (w.dirty && w.asked) ≡ both → (why.taken && not why.evidence) ≡ untook
    → cond committed
    (cond asked (hand_over_of (record w { dirty = true }) me) (Some (record w { dirty = true; pinned = false })))
    (cond both (hand_over_of w me) (cond untook (Some (record { side = opposite me; dirty = true; asked = false; pinned = false })) (Some (record w { pinned = false })))) ≡ Some word
    → BackRow w me why word
back_cases w me why word true true both untook c a b u e = entered_asked c a (handed_is (record w { dirty = true }) me word e)
back_cases w me why word true false both untook c a b u e = entered_rest c a (sym (some_of _ word e))
back_cases w me why word false asked true untook c a b u e = handed c (and_left _ _ b) (and_right _ _ b) (handed_is w me word e)
back_cases w me why word false asked false true c a b u e = untaken c (and_left _ _ u) (not_true _ (and_right _ _ u)) (sym (some_of _ word e))
back_cases w me why word false asked false false c a b u e = kept c (not_both_is _ _ b) (unless _ _ u) (sym (some_of _ word e))

-- where back answers, case by case, and what
pub back_row : (w : ForkWord) (me : Side) (why : Why) (word : ForkWord) → back_of w me why ≡ Some word → BackRow w me why word
back_row w me why word e = back_cases w me why word why.committed w.asked (w.dirty && w.asked) (why.taken && not why.evidence) refl refl refl refl (cond_else (same_side w.side me && w.pinned) _ word e).1

-- back is for the end at which the fork stands
pub back_side : (w : ForkWord) (me : Side) (why : Why) (word : ForkWord) → back_of w me why ≡ Some word → w.side ≡ me
back_side w me why word e = same_is w.side me (and_left _ _ (cond_else (same_side w.side me && w.pinned) _ word e).0)
