-- Lists, one for each worker, that grow.
use Rattle.std.proofs.Common.{◌≡◌, ℕ, ◌<◌, cond, ◌==◌, Vec, Global, List, [], ◌∷◌, ◌++◌, length, get_or, set, map, refl, sym, ◌∙◌, ap, arith, inl, inr, length-set}
use Rattle.std.specs.List.{range_with_len}
use Rattle.std.proofs.lemmas.Bool.{cases_eq, eq-eqb, ne_eqb}
use Rattle.std.proofs.lemmas.List.{map-set, get_or-set_same, get_or-set_other, get_or-map, length-map, append-nil}
use Rattle.std.proofs.lemmas.List.FromFn.{fill_by_all, length-map-range_with_len, get_or-map-range_with_len}
use Rattle.pg_cut.specs.ByWorker.{lists_in, Appends}

-- one list of several grows
pub appends_at : {A : Type 0} (lists : List (Vec A Global)) (at : ℕ) (old new : Vec A Global) (x : A) → at < length lists → old ≡ get_or lists at old → new.items ≡ old.items ++ x ∷ []
    → Appends (lists_in lists) (lists_in (set lists at new)) (λ w. cond (at == w) (x ∷ []) [])
appends_at {A} lists at old new x h is more = record {
  count = ap length moved ∙ length-set (lists_in lists) at new.items;
  each = λ w below. elim (cases_eq w at) [
    | inl same ↦ rw (same, eq-eqb at at refl) (ap (λ xs. get_or xs at []) moved ∙ get_or-set_same (lists_in lists) at new.items [] inside ∙ more ∙ ap (λ xs. xs ++ x ∷ []) was)
    | inr apart ↦ rw (ne_eqb at w (λ e. apart (sym e))) (ap (λ xs. get_or xs w []) moved ∙ get_or-set_other (lists_in lists) at w new.items [] apart ∙ sym (append-nil (get_or (lists_in lists) w [])))
  ];
}
  where
    items : Vec A Global → List A
    items v = v.items

    moved : lists_in (set lists at new) ≡ set (lists_in lists) at new.items
    moved = map-set (λ (v : Vec A Global). v.items) lists at new

    inside : at < length (lists_in lists)
    inside = omega (arith, length-map lists (λ (v : Vec A Global). v.items))

    was : old.items ≡ get_or (lists_in lists) at []
    was = ap (λ (v : Vec A Global). v.items) is ∙ sym (get_or-map (λ (v : Vec A Global). v.items) lists at old [] h)

-- so many lists, each by its worker
pub record AreLists {A : Type 0} (list : ℕ → List A) (n : ℕ) (lists : List (List A)) : Type 0 where
  pub count : length lists ≡ n
  pub each : (w : ℕ) → w < n → get_or lists w [] ≡ list w

pub grown_lists : {A : Type 0} (list more next : ℕ → List A) (n : ℕ) (old new : List (List A)) → AreLists list n old → Appends old new more → ((w : ℕ) → w < n → list w ++ more w ≡ next w) → AreLists next n new
grown_lists list more next n old new are appends agree = record {
  count = appends.count ∙ are.count;
  each = λ w h. appends.each w (omega (arith, are.count)) ∙ ap (λ xs. xs ++ more w) (are.each w h) ∙ agree w h;
}

pub no_lists : {A : Type 0} (list : ℕ → List A) (rooms : List ℕ) (lists : List (List A)) → lists ≡ map (λ _. []) rooms → ((w : ℕ) → list w ≡ []) → AreLists list (length rooms) lists
no_lists {A} list rooms lists is none = record {
  count = ap length is ∙ length-map rooms (λ (room : ℕ). let empty : List A = [] in empty);
  each = λ w h. ap (λ xs. get_or xs w []) is ∙ get_or-map (λ (room : ℕ). let empty : List A = [] in empty) rooms w 0 [] h ∙ sym (none w);
}

pub lists_made : {A : Type 0} (list : ℕ → List A) (n : ℕ) (lists : List (List A)) → AreLists list n lists → lists ≡ map list (range_with_len 0 n)
lists_made list n lists are = fill_by_all list lists n [] are.count are.each

-- one of several lists
pub list_read : {A : Type 0} (list : ℕ → List A) (n : ℕ) (lists : List (Vec A Global)) (w : ℕ) (x : Vec A Global) → lists_in lists ≡ map list (range_with_len 0 n) → w < n → x ≡ get_or lists w x → x.items ≡ list w
list_read {A} list n lists w x made h is =
    let count : length lists ≡ n = sym (length-map lists (λ (v : Vec A Global). v.items)) ∙ ap length made ∙ length-map-range_with_len list 0 n in
    let inside : w < length lists = omega (arith, count) in
    ap (λ (v : Vec A Global). v.items) is ∙ sym (get_or-map (λ (v : Vec A Global). v.items) lists w x [] inside) ∙ ap (λ xs. get_or xs w []) made ∙ get_or-map-range_with_len list 0 n w w [] h (omega arith)
