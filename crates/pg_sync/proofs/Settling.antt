-- Cells that are settled, one after another.
use Rattle.std.proofs.Common.{◌≡◌, ◌≢◌, ℕ, ◌+◌, ◌<◌, Bool, cond, List, [], ◌∷◌, ◌++◌, length, get_or, set, take, is_some, sym, subst, ◌∙◌, ap, arith, ⊎_elim}
use Rattle.std.specs.Prelude.{AllPairs, filter}
use Rattle.std.proofs.lemmas.Bool.{cases_lt, cases_eq}
use Rattle.std.proofs.lemmas.List.{get_or-set_same, get_or-set_other, get_or_default, take_more, length-set}
use Rattle.std.proofs.lemmas.List.Elements.{filter-append}
use Rattle.pg_law.specs.Program.{Program}
use Rattle.pg_delta.specs.declared.cell.CacheCell.{CacheCell}
use Rattle.pg_delta.specs.Cell.{IsCell, cleared, settled}
use Rattle.pg_apply_scatter.specs.Delivering.{cell_in, AreCellsOf}
use Rattle.pg_sync.specs.Cells.{keeps}

-- one more that passes, or doesn't
pub passes_more : (q : ℕ → Bool) (xs : List ℕ) (i d : ℕ) → i < length xs → filter q (take (i + 1) xs) ≡ filter q (take i xs) ++ cond (q (get_or xs i d)) (get_or xs i d ∷ []) []
passes_more q xs i d h = ap (filter q) (take_more xs i d h) ∙ filter-append q (take i xs) (get_or xs i d ∷ [])

module _ {Acc Carry : Type 0} (p : Program Acc Carry) (old mid : List (CacheCell Acc)) (listed : List ℕ) (apart : AllPairs (λ a b. a ≢ b) listed) (i : ℕ) (h : i < length listed) (v : ℕ) (is : get_or listed i 0 ≡ v) (below : v < length mid) (x y : CacheCell Acc)
    (settles : y ≡ settled p.sum (get_or mid v x)) (here : (k : ℕ) → k < i → cell_in mid (get_or listed k 0) ≡ settled p.sum (cell_in old (get_or listed k 0)))
    (others : (u : ℕ) → ((k : ℕ) → k < i → get_or listed k 0 ≢ u) → cell_in mid u ≡ cell_in old u) where
  before : (k : ℕ) → k < i → get_or listed k 0 ≢ v
  before k lt same = apart k i 0 lt h (same ∙ sym is)

  -- the cell was as it was at first
  still : get_or mid v x ≡ cell_in old v
  still = get_or_default mid v x cleared below ∙ others v before

  pub settled_now : y ≡ settled p.sum (cell_in old v)
  settled_now = settles ∙ ap (settled p.sum) still

  pub keeps_now : is_some y.acc ≡ keeps p old v
  keeps_now = ap (λ (c : CacheCell Acc). is_some c.acc) settled_now

  pub here_more : (k : ℕ) → k < i + 1 → cell_in (set mid v y) (get_or listed k 0) ≡ settled p.sum (cell_in old (get_or listed k 0))
  here_more k lt = ⊎_elim (λ earlier. get_or-set_other mid v (get_or listed k 0) y cleared (before k earlier) ∙ here k earlier) (λ last. at_last (omega (arith, last, lt))) (cases_lt k i)
    where
      at_last : k ≡ i → cell_in (set mid v y) (get_or listed k 0) ≡ settled p.sum (cell_in old (get_or listed k 0))
      at_last same = let At : ℕ → Type 0 = λ u. cell_in (set mid v y) u ≡ settled p.sum (cell_in old u) in
          subst At (sym (ap (λ j. get_or listed j 0) same ∙ is)) (get_or-set_same mid v y cleared below ∙ settled_now)

  pub others_more : (u : ℕ) → ((k : ℕ) → k < i + 1 → get_or listed k 0 ≢ u) → cell_in (set mid v y) u ≡ cell_in old u
  others_more u none = get_or-set_other mid v u y cleared (λ same. none i (omega arith) (is ∙ sym same)) ∙ others u (λ k lt. none k (omega (arith, lt)))

  pub own_more : AreCellsOf p mid → IsCell p y → AreCellsOf p (set mid v y)
  own_more own cell = λ u within. ⊎_elim (λ same. (let Own : CacheCell Acc → Type 0 = λ c. IsCell p c in let At : ℕ → Type 0 = λ k. IsCell p (cell_in (set mid v y) k) in subst At same (subst Own (sym (get_or-set_same mid v y cleared below)) cell)))
      (λ other. (let Own : CacheCell Acc → Type 0 = λ c. IsCell p c in subst Own (sym (get_or-set_other mid v u y cleared (λ same. other (sym same)))) (own u (omega (arith, within, length-set mid v y))))) (cases_eq v u)
