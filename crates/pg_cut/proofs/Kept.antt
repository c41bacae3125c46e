-- What a cut keeps beside its division.
use Rattle.std.proofs.Common.{◌≡◌, ℕ, ◌+◌, ◌<◌, ◌≤◌, ◌%◌, ◌^◌, Bool, true, false, cond, List, [], ◌∷◌, length, get_or, map, refl, sym, ◌∙◌, ap, arith, ⊎_elim}
use Rattle.std.specs.Prelude.{count_by, sum_by, filter, fold, ◌==◌, ◌&&◌}
use Rattle.std.specs.List.{range_with_len, list_any}
use Rattle.std.proofs.lemmas.List.{get_or-map, length-map}
use Rattle.std.proofs.lemmas.List.Folds.{list_any_at, Any-from_list_any}
use Rattle.std.proofs.lemmas.List.FromFn.{fill_by_all, length-range_with_len, get_or-range_with_len, length-map-range_with_len, get_or-map-range_with_len}
use Rattle.std.proofs.lemmas.Bool.Decides.{nat_tests}
use Rattle.std.proofs.lemmas.Map.Views.{any-filter_same}
use Rattle.std.proofs.lemmas.Bool.{eq-eqb, eqb-true, cases_Bool, cases_lt}
use Rattle.std.proofs.lemmas.Nat.Bits.{bit_at_above}
use Rattle.pg_graph.specs.Multigraph.{Multigraph, edges_at, is_at, edge_at, vertices}
use Rattle.pg_graph.proofs.Numbers.{filter_numbers_each}
use Rattle.pg_cut.specs.WorkerSet.{workers_in, workers_that, has, is_in, all_workers}
use Rattle.pg_cut.specs.Cut.{IsPlacement, in_span, span_of, master_of, span_in, vertices_on, division, cut_of}
use Rattle.pg_cut.proofs.Passing.{filter_agree_below, passing_longer}

-- a fold over a mapped list
pub fold-map : {A B C : Type 0} (h : C → B → C) (f : A → B) (c : C) (xs : List A) → fold h c (map f xs) ≡ fold (λ c x. h c (f x)) c xs
fold-map h f c [] = refl
fold-map h f c (x ∷ xs) = fold-map h f (h c (f x)) xs

pub fold_agree : {A C : Type 0} (h k : C → A → C) → ((c : C) (x : A) → h c x ≡ k c x) → (c : C) (xs : List A) → fold h c xs ≡ fold k c xs
fold_agree h k agree c [] = refl
fold_agree h k agree c (x ∷ xs) = rw (agree c x) (fold_agree h k agree (k c x) xs)

-- a function of the numbers below a bound
pub map_agree_below : {X : Type 0} (f h : ℕ → X) (d : X) (n : ℕ) → ((k : ℕ) → k < n → f k ≡ h k) → map f (range_with_len 0 n) ≡ map h (range_with_len 0 n)
map_agree_below f h d n agree = fill_by_all h (map f (range_with_len 0 n)) n d (length-map-range_with_len f 0 n) (λ k below. get_or-map-range_with_len f 0 n k k d below (omega arith) ∙ agree k below)

all_among : (w : ℕ) → w < 64 → list_any (λ x. x == w) all_workers ≡ true
unfolding all_workers
all_among w h = list_any_at (λ x. x == w) (range_with_len 0 64) w 0 (rw (length-range_with_len 0 64) h) (eq-eqb _ w (omega (arith, get_or-range_with_len 0 64 w 0 h)))

and-true : (b : Bool) → (b && true) ≡ b
and-true true = refl
and-true false = refl

-- a worker is among those that pass a test where it passes
pub is_in-workers_that : (test : ℕ → Bool) (w : ℕ) → w < 64 → is_in w (workers_that test) ≡ test w
is_in-workers_that test w h = any-filter_same (λ x. x == w) test (test w) (λ k same. ap test (eqb-true k w same)) all_workers ∙ ap (λ b. test w && b) (all_among w h) ∙ and-true (test w)

-- a worker is in the list of a set where its bit is set
pub is_in-workers_in : (bits w : ℕ) → w < 64 → is_in w (workers_in bits) ≡ has bits w
is_in-workers_in bits w h = any-filter_same (λ x. x == w) (has bits) (has bits w) (λ k same. ap (has bits) (eqb-true k w same)) all_workers ∙ ap (λ b. has bits w && b) (all_among w h) ∙ and-true (has bits w)

pub held_is : (w : ℕ) → w < 64 → (spans : List ℕ) → count_by (λ bits. has bits w) spans ≡ count_by (is_in w) (map workers_in spans)
held_is w h spans = fold_agree _ _ (λ c bits. ap (λ b. c + cond b 1 0) (sym (is_in-workers_in bits w h))) 0 spans ∙ sym (fold-map (λ c span. c + cond (is_in w span) 1 0) workers_in 0 spans)

pub replicas_are : (spans : List ℕ) → sum_by (λ bits. length (workers_in bits)) spans ≡ sum_by length (map workers_in spans)
replicas_are spans = sym (fold-map (λ c span. c + length span) workers_in 0 spans)

pub masters_are : (workers : ℕ) (place bits : List ℕ) → map (λ v. master_of (workers_in (get_or bits v 0)) v) (range_with_len 0 (length bits))
    ≡ map (λ v. master_of (span_in (division workers place bits) v) v) (range_with_len 0 (length (map workers_in bits)))
masters_are workers place bits = rw (length-map bits workers_in)
    (map_agree_below _ _ 0 (length bits) (λ v h. ap (λ span. master_of span v) (sym (get_or-map workers_in bits v 0 [] h))))

-- what a list that a function of the numbers makes has at a place
pub made_read : {X : Type 0} (f : ℕ → X) (n : ℕ) (xs : List X) (i : ℕ) (x : X) → xs ≡ map f (range_with_len 0 n) → i < n → x ≡ get_or xs i x → x ≡ f i
made_read f n xs i x made h is = is ∙ ap (λ ys. get_or ys i x) made ∙ get_or-map-range_with_len f 0 n i i x h (omega arith)

pub made_length : {X : Type 0} (f : ℕ → X) (n : ℕ) (xs : List X) → xs ≡ map f (range_with_len 0 n) → length xs ≡ n
made_length f n xs made = ap length made ∙ length-map-range_with_len f 0 n

span_by : (g : Multigraph) (workers : ℕ) (place : List ℕ) (v w : ℕ) → w < 64 → in_span g workers place v w ≡ true → 0 < length (span_of g workers place v)
unfolding all_workers
span_by g workers place v w h t = omega (arith, passing_longer (in_span g workers place v) w 64 h t)

-- each span has a worker
pub span_some : (g : Multigraph) (workers : ℕ) (place : List ℕ) → IsPlacement g workers place → (v : ℕ) → 0 < length (span_of g workers place v)
span_some g workers place placed v = ⊎_elim alone among (cases_Bool (length (edges_at g v) == 0))
  where
    by_one : (w : ℕ) → w < 64 → in_span g workers place v w ≡ true → 0 < length (span_of g workers place v)
    by_one w h t = span_by g workers place v w h t

    alone : (length (edges_at g v) == 0) ≡ true → 0 < length (span_of g workers place v)
    alone none = by_one (v % workers) (omega (arith, placed.some, placed.few)) (rw none (eq-eqb (v % workers) (v % workers) refl))

    among : (length (edges_at g v) == 0) ≡ false → 0 < length (span_of g workers place v)
    among some = let e = get_or (edges_at g v) 0 0 in
        let inside : 0 < length (edges_at g v) = grind (arith, nat_tests) in
        let below : e < length g.edges = (filter_numbers_each (λ e. is_at v (edge_at g e)) (length g.edges) 0 0 inside).0 in
        let low : get_or place e 0 < workers = placed.each e (omega (arith, placed.count)) in
        by_one (get_or place e 0) (omega (arith, placed.few)) (rw some (list_any_at (λ x. get_or place x 0 == get_or place e 0) (edges_at g v) 0 0 inside (eq-eqb _ _ refl)))

-- the same of spans that are kept as bits
pub spans_some : (g : Multigraph) (workers : ℕ) (place bits : List ℕ) → IsPlacement g workers place → map workers_in bits ≡ map (span_of g workers place) (vertices g) → (v : ℕ) → v < length bits → 0 < length (workers_in (get_or bits v 0))
spans_some g workers place bits placed e v h = let count : length bits ≡ length g.ids = sym (length-map bits workers_in) ∙ ap length e ∙ length-map-range_with_len (span_of g workers place) 0 (length g.ids) in
    let is = sym (get_or-map workers_in bits v 0 [] h) ∙ ap (λ xs. get_or xs v []) e ∙ get_or-map-range_with_len (span_of g workers place) 0 (length g.ids) v v [] (omega arith) (omega arith) in
    rw is (span_some g workers place placed v)

and-false : (a b : Bool) → a ≡ false → (a && b) ≡ a
and-false a b e = rw e refl

pub is_in_set : (bits w : ℕ) → bits < 2 ^ 64 → is_in w (workers_in bits) ≡ has bits w
is_in_set bits w fits = ⊎_elim (is_in-workers_in bits w) above (cases_lt w 64)
  where
    above : 64 ≤ w → is_in w (workers_in bits) ≡ has bits w
    above h = any-filter_same (λ x. x == w) (has bits) (has bits w) (λ k same. ap (has bits) (eqb-true k w same)) all_workers
        ∙ and-false (has bits w) _ (ap (λ x. x == 1) (bit_at_above bits 64 w fits h))

-- no worker of a span is out of range
pub in_span_within : (g : Multigraph) (workers : ℕ) (place : List ℕ) → IsPlacement g workers place → (v w : ℕ) → in_span g workers place v w ≡ true → w < workers
in_span_within g workers place placed v w t = ⊎_elim alone among (cases_Bool (length (edges_at g v) == 0))
  where
    alone : (length (edges_at g v) == 0) ≡ true → w < workers
    alone none = let same = eqb-true w (v % workers) (rw none at t) in omega (arith, same, placed.some)

    among : (length (edges_at g v) == 0) ≡ false → w < workers
    among some =
        let at = Any-from_list_any (λ e. get_or place e 0 == w) (edges_at g v) (rw some at t) in
        let below = (filter_numbers_each (λ e. is_at v (edge_at g e)) (length g.edges) at.0 at.1 at.2).0 in
        let inside : at.1 < length place = omega (arith, below, at.3, placed.count) in
        omega (arith, placed.each at.1 inside, eqb-true (get_or place at.1 0) w at.4)

-- the vertices of a worker, by bits and by lists
pub vertices_are : (workers : ℕ) (place bits : List ℕ) (w : ℕ) → w < 64
    → filter (λ v. has (get_or bits v 0) w) (range_with_len 0 (length bits)) ≡ vertices_on (division workers place bits) w
vertices_are workers place bits w h =
    filter_agree_below (λ v. has (get_or bits v 0) w) (λ v. is_in w (span_in (division workers place bits) v)) (length bits)
    (λ v below. sym (is_in-workers_in (get_or bits v 0) w h) ∙ ap (is_in w) (sym (get_or-map workers_in bits v 0 [] below)))
    ∙ ap (λ n. filter (λ v. is_in w (span_in (division workers place bits) v)) (range_with_len 0 n)) (sym (length-map bits workers_in))

pub made_cut : (g : Multigraph) (workers : ℕ) (place bits : List ℕ) → map workers_in bits ≡ map (span_of g workers place) (vertices g) → division workers place bits ≡ cut_of g workers place
made_cut g workers place bits spans_are = rw spans_are refl

-- lists that were made from a slice of the places, for as many workers as a list of counts has
pub lists_for : {X : Type 0} (list : List ℕ → ℕ → X) (place placed counts slice : List ℕ) (workers : ℕ) (lists : List X) → lists ≡ map (list placed) (range_with_len 0 (length slice)) → placed ≡ place → slice ≡ counts → length counts ≡ workers
    → lists ≡ map (list place) (range_with_len 0 workers)
lists_for list place placed counts slice workers lists made p s n = made ∙ ap (λ xs. map (list xs) (range_with_len 0 (length slice))) p ∙ ap (λ n. map (list place) (range_with_len 0 n)) (ap length s ∙ n)

-- counts that were made from a slice
pub counts_for : {X : Type 0} (count : List ℕ → ℕ → X) (all slice : List ℕ) (workers : ℕ) (counts : List X) → counts ≡ map (count slice) (range_with_len 0 workers) → slice ≡ all → (counts ≡ map (count all) (range_with_len 0 workers)) × (length counts ≡ workers)
counts_for count all slice workers counts made s = let is = made ∙ ap (λ xs. map (count xs) (range_with_len 0 workers)) s in (is, made_length (count all) workers counts is)
