-- Parts that are added to the sums of their vertices.
use Rattle.std.proofs.Common.{◌≡◌, ◌≢◌, ℕ, suc, ◌+◌, ◌<◌, Bool, true, false, cond, ◌==◌, List, [], ◌∷◌, length, get_or, map, set, take, refl, sym, ◌∙◌, ap, arith, ⊎_elim}
use Rattle.std.specs.Prelude.{AllPairs}
use Rattle.std.proofs.lemmas.Bool.{eq-eqb, ne_eqb, cases_eq, cases_lt}
use Rattle.std.proofs.lemmas.List.{ext_get_or, get_or-map, length-map, length-set, get_or-set_same, get_or-set_other}
use Rattle.std.proofs.lemmas.List.Elements.{All-map}
use Rattle.std.proofs.lemmas.List.Sums.{fold_more}
use Rattle.pg_law.specs.Program.{Program}
use Rattle.pg_law.specs.Laws.{IsLawful}
use Rattle.pg_gather.specs.Merging.{with_part, with_parts, sum_at, with_list, merged, AreParts}

-- a write at one place is a map, where nothing else changes
set_is_map : {X : Type 0} (f : X → X) (xs : List X) (k : ℕ) (x d : X) → k < length xs → x ≡ f (get_or xs k d) → ((i : ℕ) → i < length xs → i ≢ k → f (get_or xs i d) ≡ get_or xs i d) → set xs k x ≡ map f xs
set_is_map {X = X} f xs k x d h is stays = ext_get_or d (set xs k x) (map f xs) (length-set xs k x ∙ sym (length-map xs f))
    (λ i inside. let within : i < length xs = omega (arith, length-set xs k x) in
    ⊎_elim (λ same. here i within same) (λ apart. get_or-set_other xs k i x d (λ e. apart e) ∙ sym (stays i within apart) ∙ sym (get_or-map f xs i d d within)) (cases_eq i k))
  where
    here : (i : ℕ) → i < length xs → i ≡ k → get_or (set xs k x) i d ≡ get_or (map f xs) i d
    here i within same = rw same (get_or-set_same xs k x d h ∙ is ∙ sym (get_or-map f xs k d d h))

-- different places have different vertices
apart_at : (xs : List ℕ) → AllPairs (λ a b. a ≢ b) xs → (i k : ℕ) → i < length xs → k < length xs → i ≢ k → get_or xs i 0 ≢ get_or xs k 0
apart_at xs apart i k hi hk ne same = ⊎_elim (λ below. apart i k 0 below hk same) (λ le. apart k i 0 (omega arith) hi (sym same)) (cases_lt i k)

module _ {Acc Carry : Type 0} (p : Program Acc Carry) where
  -- all sums with one part
  abbrev pub with_one : List (ℕ × Acc) → ℕ × Acc → List (ℕ × Acc)
  with_one sums part = map (λ sum. (sum.0, with_part p sum.0 sum.1 part)) sums

  -- the part's vertex stands at one place
  pub added : (wanted : List ℕ) (sums : List (ℕ × Acc)) (k : ℕ) (part : ℕ × Acc) → AllPairs (λ a b. a ≢ b) wanted → map (λ sum. sum.0) sums ≡ wanted → k < length wanted → get_or wanted k 0 ≡ part.0
      → set sums k ((sum_at p sums k).0, p.sum (sum_at p sums k).1 part.1) ≡ with_one sums part
  added wanted sums k part apart firsts h is = set_is_map (λ sum. (sum.0, with_part p sum.0 sum.1 part)) sums k ((sum_at p sums k).0, p.sum (sum_at p sums k).1 part.1) (0, p.empty) (inside k h)
      (rw (eq-eqb part.0 (sum_at p sums k).0 (sym is ∙ first k h)) refl)
      (λ i below ne. let h2 : i < length wanted = omega (arith, below, count) in
      rw (ne_eqb part.0 (sum_at p sums i).0 (λ same. apart_at wanted apart i k h2 h ne (first i h2 ∙ sym same ∙ sym is))) refl)
    where
      count : length wanted ≡ length sums
      count = ap length (sym firsts) ∙ length-map sums (λ sum. sum.0)

      inside : (i : ℕ) → i < length wanted → i < length sums
      inside i h = omega (arith, count)

      first : (i : ℕ) → i < length wanted → get_or wanted i 0 ≡ (sum_at p sums i).0
      first i h = ap (λ xs. get_or xs i 0) (sym firsts) ∙ get_or-map (λ (sum : ℕ × Acc). sum.0) sums i (0, p.empty) 0 (inside i h)

  -- or at none
  pub passed : (wanted : List ℕ) (sums : List (ℕ × Acc)) (part : ℕ × Acc) → map (λ sum. sum.0) sums ≡ wanted → ((k : ℕ) → k < length wanted → get_or wanted k 0 ≢ part.0) → sums ≡ with_one sums part
  passed wanted [] part firsts none = refl
  passed wanted (sum ∷ sums) part firsts none = rw (ne_eqb part.0 sum.0 (λ same. none 0 (omega (arith, ap length (sym firsts))) (ap (λ xs. get_or xs 0 0) (sym firsts) ∙ sym same)))
      (ap (λ xs. sum ∷ xs) (passed (map (λ s. s.0) sums) sums part refl (λ k h same. none (suc k) (omega (arith, ap length (sym firsts))) (ap (λ xs. get_or xs (suc k) 0) (sym firsts) ∙ same))))

  -- one more part of the list
  pub list_more : (sums : List (ℕ × Acc)) (parts : List (ℕ × Acc)) (i : ℕ) (d : ℕ × Acc) → i < length parts → with_list p sums (take (i + 1) parts) ≡ with_one (with_list p sums (take i parts)) (get_or parts i d)
  list_more [] parts i d h = refl
  list_more (sum ∷ sums) parts i d h = rw (fold_more (with_part p sum.0) sum.1 parts i d h, list_more sums parts i d h) refl

  -- no part changes nothing
  pub with_none : (sums : List (ℕ × Acc)) → sums ≡ with_list p sums []
  with_none [] = refl
  with_none (sum ∷ sums) = ap (λ xs. sum ∷ xs) (with_none sums)

  -- the vertices stay
  pub firsts_stay : (sums : List (ℕ × Acc)) (part : ℕ × Acc) → map (λ sum. sum.0) (with_one sums part) ≡ map (λ sum. sum.0) sums
  firsts_stay [] part = refl
  firsts_stay (sum ∷ sums) part = ap (λ xs. sum.0 ∷ xs) (firsts_stay sums part)

  pub firsts_of : (wanted : List ℕ) (lists : List (List (ℕ × Acc))) → map (λ sum. sum.0) (merged p wanted lists) ≡ wanted
  firsts_of [] lists = refl
  firsts_of (u ∷ wanted) lists = ap (λ xs. u ∷ xs) (firsts_of wanted lists)

  -- one more list
  pub merged_more : (wanted : List ℕ) (lists : List (List (ℕ × Acc))) (i : ℕ) (d : List (ℕ × Acc)) → i < length lists → with_list p (merged p wanted (take i lists)) (get_or lists i d) ≡ merged p wanted (take (i + 1) lists)
  merged_more [] lists i d h = refl
  merged_more (u ∷ wanted) lists i d h = rw (fold_more (with_parts p u) p.empty lists i d h, merged_more wanted lists i d h) refl

  -- sums stay accumulators of the program
  pub one_own : IsLawful p → (sums : List (ℕ × Acc)) (part : ℕ × Acc) → AreParts p sums → p.IsAcc part.1 → AreParts p (with_one sums part)
  one_own law sums part own part_own = let P : ℕ × Acc → Type 0 = λ sum. p.IsAcc sum.1 in
      All-map P (λ sum. (sum.0, with_part p sum.0 sum.1 part)) sums (λ i d h. chosen (part.0 == (get_or sums i d).0) (get_or sums i d).1 (own i d h))
    where
      chosen : (b : Bool) (acc : Acc) → p.IsAcc acc → p.IsAcc (cond b (p.sum acc part.1) acc)
      chosen true acc h = law.closed.sum acc part.1 h part_own
      chosen false acc h = h

  pub empties_own : IsLawful p → (wanted : List ℕ) → AreParts p (map (λ u. (u, p.empty)) wanted)
  empties_own law wanted = let P : ℕ × Acc → Type 0 = λ sum. p.IsAcc sum.1 in All-map P (λ u. (u, p.empty)) wanted (λ i d h. law.closed.empty)
