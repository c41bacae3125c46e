-- The bits of the keys, set one after another.
use Rattle.std.proofs.Common.{◌≡◌, ◌≢◌, ℕ, ◌+◌, ◌-◌, ◌*◌, ◌/◌, ◌%◌, ◌<◌, Bool, true, false, ◌==◌, ◌||◌, List, length, get_or, take, set, refl, sym, ◌∙◌, ap, arith, ⊎_elim}
use Rattle.std.specs.List.Sorted.{IsStrictlyIncreasing}
use Rattle.std.proofs.lemmas.Bool.{cases_eq, eq-eqb, ne_eqb}
use Rattle.std.proofs.lemmas.List.{get_or-set_same, get_or-set_other, get_or_read}
use Rattle.std.proofs.lemmas.List.Folds.{list_any_more}
use Rattle.pg_cut.specs.WorkerSet.{has}
use Rattle.pg_cut.specs.Directory.{blocks_of, is_key}
use Rattle.pg_cut.proofs.Searching.{below_at}

or-false : (b : Bool) → (b || false) ≡ b
or-false true = refl
or-false false = refl

module _ (keys masks : List ℕ) (up : IsStrictlyIncreasing keys) (i : ℕ) (inside : i < length keys) (count : length masks ≡ blocks_of keys) where
  -- a key has a block
  pub block_inside : get_or keys i 0 / 64 < length masks
  block_inside = omega (arith, inside, count, below_at keys up i (length keys - 1) (omega arith) (omega arith))

  -- one key more has its bit
  module _ (mask more : ℕ) (read : mask ≡ get_or masks (get_or keys i 0 / 64) mask) (added : (j : ℕ) → has more j ≡ (has mask j || (j == get_or keys i 0 % 64)))
      (marked : (b j : ℕ) → b < blocks_of keys → j < 64 → has (get_or masks b 0) j ≡ is_key (take i keys) (b * 64 + j)) where
    pub marked_more : (b j : ℕ) → b < blocks_of keys → j < 64 → has (get_or (set masks (get_or keys i 0 / 64) more) b 0) j ≡ is_key (take (i + 1) keys) (b * 64 + j)
    marked_more b j hb hj = ⊎_elim same other (cases_eq b block) ∙ sym (list_any_more (λ k. k == b * 64 + j) keys i 0 inside)
      where
        key : ℕ
        key = get_or keys i 0

        block : ℕ
        block = key / 64

        agree : b ≡ block → (j == key % 64) ≡ (key == b * 64 + j)
        agree e = ⊎_elim (λ (here : j ≡ key % 64). eq-eqb j (key % 64) here ∙ sym (eq-eqb key (b * 64 + j) (omega (arith, e, here))))
            (λ (apart : j ≢ key % 64). ne_eqb j (key % 64) apart ∙ sym (ne_eqb key (b * 64 + j) (λ is. apart (omega (arith, e, is, hj))))) (cases_eq j (key % 64))

        same : b ≡ block → has (get_or (set masks block more) b 0) j ≡ (is_key (take i keys) (b * 64 + j) || (key == b * 64 + j))
        same e = ap (λ m. has m j) (ap (λ k. get_or (set masks block more) k 0) e ∙ get_or-set_same masks block more 0 block_inside) ∙ added j
            ∙ ap (λ t. t || (j == key % 64)) (ap (λ m. has m j) (get_or_read masks block mask block_inside read 0 ∙ ap (λ k. get_or masks k 0) (sym e)) ∙ marked b j hb hj)
            ∙ ap (λ t. is_key (take i keys) (b * 64 + j) || t) (agree e)

        other : b ≢ block → has (get_or (set masks block more) b 0) j ≡ (is_key (take i keys) (b * 64 + j) || (key == b * 64 + j))
        other apart = ap (λ m. has m j) (get_or-set_other masks block b more 0 apart) ∙ marked b j hb hj ∙ sym (or-false (is_key (take i keys) (b * 64 + j)))
            ∙ ap (λ t. is_key (take i keys) (b * 64 + j) || t) (sym (ne_eqb key (b * 64 + j) (λ is. apart (omega (arith, is, hj)))))
