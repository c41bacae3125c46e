-- What is received, one after another.
use Rattle.std.proofs.Common.{◌≡◌, suc, List, [], ◌∷◌, length, refl, sym, subst, ◌∙◌, ap, arith}
use Rattle.std.specs.Prelude.{All, fold}
use Rattle.std.specs.Vec.Iter.{into_iter_items, into_iter_len}
use Rattle.std.specs.declared.vec.IntoIter.{IntoIter}

-- an iterator at its end has nothing left
none_left : {X : Type 0} (xs : List X) → length xs ≡ 0 → xs ≡ []
none_left [] h = refl
none_left (x ∷ xs) h = absurd (omega (arith, h))

pub at_end : {X A : Type 0} (it : IntoIter X A) → into_iter_len it ≡ 0 → into_iter_items it ≡ []
at_end it h = none_left (into_iter_items it) (sym it.rest.ok.0 ∙ h)

-- what holds of all holds of those after the first
pub after_first : {X : Type 0} (P : X → Type 0) (x : X) (xs ys : List X) → ys ≡ x ∷ xs → All P ys → All P xs
after_first P x xs ys is all = λ i d h. (let Each = All P in subst Each is all) (suc i) d (omega (arith, h))

-- one item goes from what is left to what was received
pub received_more : {B X : Type 0} (f : B → X → B) (whole before after : B) (x : X) (xs ys : List X) → ys ≡ x ∷ xs → fold f before ys ≡ whole → after ≡ f before x → fold f after xs ≡ whole
received_more f whole before after x xs ys is inv step = ap (λ b. fold f b xs) step ∙ sym (ap (fold f before) is) ∙ inv

pub received_all : {B X : Type 0} (f : B → X → B) (whole before : B) (xs : List X) → xs ≡ [] → fold f before xs ≡ whole → before ≡ whole
received_all f whole before xs is inv = sym (ap (fold f before) is) ∙ inv

pub first_one : {X : Type 0} (P : X → Type 0) (x : X) (xs ys : List X) → ys ≡ x ∷ xs → All P ys → P x
first_one P x xs ys is all = (let Each = All P in subst Each is all) 0 x (omega arith)
