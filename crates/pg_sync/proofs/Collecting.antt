-- A part that is taken from each of several, while the rest stays.
use Rattle.std.proofs.Common.{◌≡◌, ℕ, ◌+◌, ◌<◌, ◌≤◌, List, [], ◌∷◌, ◌++◌, length, get_or, set, take, map, sym, ◌∙◌, ap, arith}
use Rattle.std.proofs.Math.Seq.{map-set_same}
use Rattle.std.proofs.lemmas.List.{map-append, get_or-set_other}
use Rattle.pg_apply_scatter.proofs.Reading.{map_more}

module _ {X K : Type 0} (kept : X → K) where
  -- what is kept of each, the parts so far, and those that are still whole, after one more
  pub kept_still : (first now : List X) (w : ℕ) (x y : X) → map kept now ≡ map kept first → kept y ≡ kept (get_or now w x) → map kept (set now w y) ≡ map kept first
  kept_still first now w x y same is = map-set_same kept now w y x is ∙ same

module _ {X Y Z : Type 0} (part : X → Y) (told : Z → Y) where
  pub parts_more : (first now : List X) (w : ℕ) (x : X) (parts : List Z) (z : Z) → w < length first → map told parts ≡ map part (take w first) → told z ≡ part (get_or now w x) → get_or now w x ≡ get_or first w x → map told (parts ++ z ∷ []) ≡ map part (take (w + 1) first)
  parts_more first now w x parts z h so_far is whole = map-append told parts (z ∷ []) ∙ ap (λ ys. ys ++ told z ∷ []) so_far ∙ ap (λ y. map part (take w first) ++ y ∷ []) (is ∙ ap part whole) ∙ sym (map_more part first w x h)

pub rest_still : {X : Type 0} (first now : List X) (w : ℕ) (y : X) → ((k : ℕ) (d : X) → w ≤ k → get_or now k d ≡ get_or first k d) → (k : ℕ) (d : X) → w + 1 ≤ k → get_or (set now w y) k d ≡ get_or first k d
rest_still first now w y rest k d above = get_or-set_other now w k y d (λ same. absurd (omega arith)) ∙ rest k d (omega arith)
