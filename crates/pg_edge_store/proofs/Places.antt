-- The places around a vertex, among the edges of a graph and among the edges between replicas.
use Rattle.std.proofs.Common.{◌≡◌, ℕ, zero, suc, ◌+◌, ◌≤◌, Bool, true, false, cond, ◌==◌, ◌&&◌, List, [], ◌∷◌, ◌++◌, length, get_or, map, take, refl, sym, subst, ◌∙◌, ap, arith, add-one}
use Rattle.std.specs.Prelude.{filter}
use Rattle.std.specs.List.{range_with_len}
use Rattle.std.proofs.lemmas.List.{map-append, take_more, take_all}
use Rattle.std.proofs.lemmas.List.Elements.{filter-append}
use Rattle.pg_graph.specs.declared.edge.Dir.{Dir}
use Rattle.pg_graph.specs.Multigraph.{Multigraph, edge_numbers, edges_at, edge_at, side_at, is_at, takes}
use Rattle.pg_graph.proofs.Numbers.{filter_numbers_more}
use Rattle.pg_cut.specs.Cut.{edges_on}
use Rattle.pg_edge_store.specs.Store.{is_around, places_around}

-- filters change places
filters_step : (b c : Bool) (x : ℕ) (p q : ℕ → Bool) (ys zs : List ℕ) → p x ≡ b → q x ≡ c → filter p ys ≡ filter q zs → filter p (cond c (x ∷ ys) ys) ≡ filter q (cond b (x ∷ zs) zs)
filters_step true true x p q ys zs eb ec ih = rw (eb, ec) (ap (λ ws. x ∷ ws) ih)
filters_step true false x p q ys zs eb ec ih = rw ec ih
filters_step false true x p q ys zs eb ec ih = rw eb ih
filters_step false false x p q ys zs eb ec ih = ih

filters_commute : (p q : ℕ → Bool) (xs : List ℕ) → filter p (filter q xs) ≡ filter q (filter p xs)
filters_commute p q [] = refl
filters_commute p q (x ∷ xs) = filters_step (p x) (q x) x p q (filter q xs) (filter p xs) refl refl (filters_commute p q xs)

pub filter_of_filter : (p q : ℕ → Bool) (xs : List ℕ) → filter (λ x. p x && q x) xs ≡ filter q (filter p xs)
filter_of_filter p q [] = refl
filter_of_filter p q (x ∷ xs) = by_first (p x) (filter_of_filter p q xs)
  where
    by_first : (b : Bool) → filter (λ x. p x && q x) xs ≡ filter q (filter p xs) → cond (b && q x) (x ∷ filter (λ x. p x && q x) xs) (filter (λ x. p x && q x) xs) ≡ filter q (cond b (x ∷ filter p xs) (filter p xs))
    by_first true e = ap (λ ys. cond (q x) (x ∷ ys) ys) e
    by_first false e = e

picked_last : (f : ℕ → ℕ) (n : ℕ) (b : Bool) → map f (cond b (n ∷ []) []) ≡ cond b (f n ∷ []) []
picked_last f n true = refl
picked_last f n false = refl

-- the places below a bound whose items pass a test
picked_below : (q : ℕ → Bool) (xs : List ℕ) (n : ℕ) → n ≤ length xs → map (λ i. get_or xs i 0) (filter (λ i. q (get_or xs i 0)) (range_with_len 0 n)) ≡ filter q (take n xs)
picked_below q xs zero h = refl
picked_below q xs (suc n) h =
    let f = λ (i : ℕ). get_or xs i 0 in
    let Q : ℕ → Type 0 = λ m. map f (filter (λ i. q (f i)) (range_with_len 0 m)) ≡ filter q (take m xs) in
    let next : Q (n + 1) = ap (map f) (filter_numbers_more (λ i. q (f i)) n) ∙ map-append f (filter (λ i. q (f i)) (range_with_len 0 n)) (cond (q (f n)) (n ∷ []) [])
    ∙ ap (λ ys. ys ++ map f (cond (q (f n)) (n ∷ []) [])) (picked_below q xs n (omega arith)) ∙ ap (λ ys. filter q (take n xs) ++ ys) (picked_last f n (q (f n)))
    ∙ sym (ap (filter q) (take_more xs n 0 (omega arith)) ∙ filter-append q (take n xs) (f n ∷ [])) in
    subst Q (add-one n) next

picked : (q : ℕ → Bool) (xs : List ℕ) → map (λ i. get_or xs i 0) (filter (λ i. q (get_or xs i 0)) (range_with_len 0 (length xs))) ≡ filter q xs
picked q xs = picked_below q xs (length xs) (omega arith) ∙ ap (filter q) (take_all (length xs) xs (omega arith))

-- the edges around a vertex, as a filter of those at it
pub around_is : (g : Multigraph) (place : List ℕ) (worker v : ℕ) (dir : Dir) → length place ≡ length g.edges
    → map (λ i. get_or (edges_on place worker) i 0) (places_around g (edges_on place worker) v dir)
    ≡ filter (λ e. get_or place e 0 == worker) (filter (λ e. takes dir (side_at g v e)) (edges_at g v))
around_is g place worker v dir count =
    let on = λ (e : ℕ). get_or place e 0 == worker in
    let at = λ (e : ℕ). is_at v (edge_at g e) in
    let over = λ (e : ℕ). takes dir (side_at g v e) in
    picked (λ e. is_around v dir (edge_at g e)) (edges_on place worker)
    ∙ ap (λ n. filter (λ e. is_around v dir (edge_at g e)) (filter on (range_with_len 0 n))) count
    ∙ filters_commute (λ e. is_around v dir (edge_at g e)) on (edge_numbers g)
    ∙ ap (filter on) (filter_of_filter at over (edge_numbers g))
