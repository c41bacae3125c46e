-- Cells that are filled, one after another.
use Rattle.std.proofs.Common.{◌≡◌, ◌≢◌, ℕ, suc, ◌<◌, Bool, true, false, cond, ◌==◌, Some, List, [], ◌∷◌, length, get_or, set, refl, sym, ◌∙◌, ap, arith}
use Rattle.std.specs.Prelude.{AllPairs, fold}
use Rattle.std.proofs.lemmas.Bool.{eqb-true, eqb-false}
use Rattle.std.proofs.lemmas.List.{get_or-set_same, get_or-set_other}
use Rattle.pg_delta.specs.declared.cell.CacheCell.{CacheCell}
use Rattle.pg_delta.specs.Cell.{cleared, filled}
use Rattle.pg_apply_scatter.specs.Delivering.{cell_in}
use Rattle.pg_apply_scatter.specs.Halves.{entry_of}
use Rattle.pg_sync.specs.Cells.{filled_by}
use Rattle.pg_sync.proofs.Writing.{entry_absent}

-- the cell of a vertex, after a sum that may be its own
abbrev pub fill_step : {A : Type 0} → ℕ → CacheCell A → ℕ × A → CacheCell A
fill_step v cell sum = cond (sum.0 == v) (filled sum.1) cell

apart_rest : {A : Type 0} (x : ℕ × A) (xs : List (ℕ × A)) → AllPairs (λ a b. a.0 ≢ b.0) (x ∷ xs) → AllPairs (λ a b. a.0 ≢ b.0) xs
apart_rest x xs apart = λ i j d lt h. apart (suc i) (suc j) d (omega (arith, lt)) (omega (arith, h))

-- each vertex is filled once
pub filled_once : {A : Type 0} (xs : List (ℕ × A)) (v : ℕ) (cell : CacheCell A) → AllPairs (λ a b. a.0 ≢ b.0) xs → fold (fill_step v) cell xs ≡ filled_by (entry_of xs v) cell
filled_once [] v cell apart = refl
filled_once {A = A} (x ∷ xs) v cell apart = by_first (x.0 == v) refl (filled_once xs v (filled x.1) (apart_rest x xs apart)) (filled_once xs v cell (apart_rest x xs apart))
  where
    away : (x.0 == v) ≡ true → (k : ℕ) (d : ℕ × A) → k < length xs → (get_or xs k d).0 ≢ v
    away is k d h same = apart 0 (suc k) d (omega arith) (omega (arith, h)) (eqb-true x.0 v is ∙ sym same)

    by_first : (b : Bool) → (x.0 == v) ≡ b → fold (fill_step v) (filled x.1) xs ≡ filled_by (entry_of xs v) (filled x.1) → fold (fill_step v) cell xs ≡ filled_by (entry_of xs v) cell → fold (fill_step v) (cond b (filled x.1) cell) xs ≡ filled_by (cond b (Some x.1) (entry_of xs v)) cell
    by_first true is here there = here ∙ ap (λ o. filled_by o (filled x.1)) (entry_absent xs v (away is))
    by_first false is here there = there

-- a cell that is filled, seen from any vertex
pub set_step : {A : Type 0} (cells : List (CacheCell A)) (x : ℕ × A) (y : CacheCell A) (v : ℕ) → x.0 < length cells → y ≡ filled x.1 → cell_in (set cells x.0 y) v ≡ fill_step v (cell_in cells v) x
set_step cells x y v h is = by_test (x.0 == v) refl
  where
    by_test : (b : Bool) → (x.0 == v) ≡ b → cell_in (set cells x.0 y) v ≡ cond b (filled x.1) (cell_in cells v)
    by_test true same = ap (cell_in (set cells x.0 y)) (sym (eqb-true x.0 v same)) ∙ get_or-set_same cells x.0 y cleared h ∙ is
    by_test false other = get_or-set_other cells x.0 v y cleared (λ same. eqb-false x.0 v other (sym same))
