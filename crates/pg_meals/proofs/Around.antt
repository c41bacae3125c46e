-- The edges at a vertex: each once, and how many of them are gathered.
use Rattle.std.proofs.Common.{ℕ, zero, suc, ◌+◌, ◌<◌, ◌≡◌, ◌≢◌, ◌⊎◌, ◌==◌, ◌||◌, List, [], ◌∷◌, ◌++◌, length, Bool, true, false, cond, inl, inr, arith, refl, sym, ap, subst, ◌∙◌, add-one, length-append, true≢false}
use Rattle.std.specs.Prelude.{filter, sum_by}
use Rattle.std.specs.List.{range_with_len, AllByRecursion}
use Rattle.std.proofs.lemmas.Bool.Decides.{Decides-eqb}
use Rattle.std.proofs.lemmas.List.{append-nil}
use Rattle.std.proofs.lemmas.List.Elements.{filter-append, recursion_from_All}
use Rattle.std.proofs.lemmas.List.Sums.{fold-append}
use Rattle.pg_graph.specs.declared.edge.Side.{Side}
use Rattle.pg_graph.specs.declared.edge.Side.TheVariants.{Source, Target}
use Rattle.pg_graph.specs.Multigraph.{Multigraph, edge_at, end_at, takes, is_at, side_at, edges_at}
use Rattle.pg_graph.proofs.Numbers.{numbers_more, filter_numbers_more, filter_numbers_each, passing_below}
use Rattle.pg_law.specs.Program.{Program}
use Rattle.pg_law.specs.Round.{edges_over}
use Rattle.pg_meals.specs.Families.{total}
use Rattle.pg_meals.specs.Shape.{at_end}
use Rattle.pg_meals.specs.Listed.{Cut, shape_of}
use Rattle.pg_meals.proofs.Distinct.{IsNot, Distinct, EdgesOf, IsIn}
use Rattle.pg_meals.specs.Sparing.{gather_degree}
use Rattle.pg_meals.proofs.Gathers.{either_side}
use Rattle.pg_meals.proofs.At.{same_or_not}

is_not_more : (e n : ℕ) (xs : List ℕ) → IsNot e xs → n ≢ e → IsNot e (xs ++ n ∷ [])
is_not_more e n [] k d = (d, tt)
is_not_more e n (x ∷ xs) k d = (k.0, is_not_more e n xs k.1 d)

distinct_more : (n : ℕ) (xs : List ℕ) → Distinct xs → AllByRecursion (λ e. e < n) xs → Distinct (xs ++ n ∷ [])
distinct_more n [] k below = (tt, tt)
distinct_more n (x ∷ xs) k below = let i : x < n = below.0 in (is_not_more x n xs k.0 (λ q. omega (arith, i, q)), distinct_more n xs k.1 below.1)

-- numbers that pass a test are listed once each
pub distinct_numbers : (test : ℕ → Bool) (n : ℕ) → Distinct (filter test (range_with_len 0 n))
distinct_numbers test zero = tt
distinct_numbers test (suc n) = subst (λ k. Distinct (filter test (range_with_len 0 k))) (add-one n) (subst Distinct (sym (filter_numbers_more test n)) (go (distinct_numbers test n) (test n)))
  where
    go : Distinct (filter test (range_with_len 0 n)) → (b : Bool) → Distinct (filter test (range_with_len 0 n) ++ cond b (n ∷ []) [])
    go d true = distinct_more n (filter test (range_with_len 0 n)) d (passing_below test n n (omega arith))
    go d false = subst Distinct (sym (append-nil (filter test (range_with_len 0 n)))) d

in_more : (e n : ℕ) (xs : List ℕ) → IsIn e xs → IsIn e (xs ++ n ∷ [])
in_more e n [] k = absurd k
in_more e n (x ∷ xs) (inl r) = inl r
in_more e n (x ∷ xs) (inr m) = inr (in_more e n xs m)

in_last : (n : ℕ) (xs : List ℕ) → IsIn n (xs ++ n ∷ [])
in_last n [] = inl refl
in_last n (x ∷ xs) = inr (in_last n xs)

-- a number that passes stands among those that do
pub numbers_have : (test : ℕ → Bool) (n e : ℕ) → e < n → test e ≡ true → IsIn e (filter test (range_with_len 0 n))
numbers_have test zero e i t = absurd (omega arith)
numbers_have test (suc n) e i t = subst (λ k. IsIn e (filter test (range_with_len 0 k))) (add-one n) (subst (IsIn e) (sym (filter_numbers_more test n)) (go (λ j. numbers_have test n e j t) (same_or_not e n)))
  where
    past : (b : Bool) → IsIn e (filter test (range_with_len 0 n)) → IsIn e (filter test (range_with_len 0 n) ++ cond b (n ∷ []) [])
    past true k = in_more e n (filter test (range_with_len 0 n)) k
    past false k = subst (IsIn e) (sym (append-nil (filter test (range_with_len 0 n)))) k

    go : (e < n → IsIn e (filter test (range_with_len 0 n))) → (e ≡ n) ⊎ (e ≢ n) → IsIn e (filter test (range_with_len 0 n) ++ cond (test n) (n ∷ []) [])
    go below (inl r) = subst (λ m. IsIn e (filter test (range_with_len 0 n) ++ cond (test m) (n ∷ []) [])) r
        (subst (λ b. IsIn e (filter test (range_with_len 0 n) ++ cond b (n ∷ []) [])) (sym t)
        (subst (λ m. IsIn m (filter test (range_with_len 0 n) ++ n ∷ [])) (sym r) (in_last n (filter test (range_with_len 0 n)))))
    go below (inr m) = past (test n) (below (omega (arith, i, m)))

-- an edge one of whose ends is u stands among the edges at u
pub edges_have : (g : Multigraph) (u e : ℕ) → e < length g.edges → (s : Side) → end_at g s e ≡ u → IsIn e (edges_at g u)
edges_have g u e i s at = numbers_have (λ k. is_at u (edge_at g k)) (length g.edges) e i (go s at)
  where
    left : (b d : Bool) → b ≡ true → (b || d) ≡ true
    left true d t = refl
    left false d t = absurd (true≢false (sym t))

    right : (b d : Bool) → d ≡ true → (b || d) ≡ true
    right true d t = refl
    right false d t = t

    go : (s : Side) → end_at g s e ≡ u → is_at u (edge_at g e) ≡ true
    go Source r = left _ _ ((Decides-eqb (end_at g Source e) u).1 r)
    go Target r = right _ _ ((Decides-eqb (end_at g Target e) u).1 r)

-- one of two tests on an edge holds, so one of its ends is u
pub either_end : (x y u : ℕ) → ((x == u) || (y == u)) ≡ true → (x ≡ u) ⊎ (y ≡ u)
either_end x y u = go (x == u) refl
  where
    go : (b : Bool) → (x == u) ≡ b → (b || (y == u)) ≡ true → (x ≡ u) ⊎ (y ≡ u)
    go true q k = inl ((Decides-eqb x u).0 q)
    go false q k = inr ((Decides-eqb y u).0 k)

edges_of_all : (g : Multigraph) (cut : Cut) (caches : Bool) (u : ℕ) (es : List ℕ) → AllByRecursion (λ e. (e < length g.edges) × (is_at u (edge_at g e) ≡ true)) es → EdgesOf (shape_of g cut caches) u es
edges_of_all g cut caches u [] k = tt
edges_of_all g cut caches u (e ∷ es) k = (k.0.0, either_end (end_at g Source e) (end_at g Target e) u k.0.1, edges_of_all g cut caches u es k.1)

-- the edges at u stand at u
pub edges_are_of : (g : Multigraph) (cut : Cut) (caches : Bool) (u : ℕ) → EdgesOf (shape_of g cut caches) u (edges_at g u)
edges_are_of g cut caches u =
    let P = λ (e : ℕ). (e < length g.edges) × (is_at u (edge_at g e) ≡ true) in
    edges_of_all g cut caches u (edges_at g u) (recursion_from_All P _ (filter_numbers_each (λ e. is_at u (edge_at g e)) (length g.edges)))

-- how many pass two tests
length_last : (q : ℕ → Bool) (n : ℕ) (t : Bool) → length (filter q (cond t (n ∷ []) [])) ≡ cond t (cond (q n) 1 0) 0
length_last q n true = go (q n)
  where
    go : (s : Bool) → length (cond s (n ∷ []) []) ≡ cond s 1 0
    go true = refl
    go false = refl
length_last q n false = refl

length_both_more : (p q : ℕ → Bool) (n : ℕ) → length (filter q (filter p (range_with_len 0 (n + 1)))) ≡ length (filter q (filter p (range_with_len 0 n))) + cond (p n) (cond (q n) 1 0) 0
length_both_more p q n =
    ap (λ xs. length (filter q xs)) (filter_numbers_more p n)
    ∙ ap length (filter-append q (filter p (range_with_len 0 n)) (cond (p n) (n ∷ []) []))
    ∙ length-append (filter q (filter p (range_with_len 0 n))) (filter q (cond (p n) (n ∷ []) []))
    ∙ ap (λ k. length (filter q (filter p (range_with_len 0 n))) + k) (length_last q n (p n))

module _ {A C : Type 0} (p : Program A C) (g : Multigraph) (cut : Cut) (caches : Bool) where
  degree_upto : (v n : ℕ) → total ◌+◌ 0 (λ e. at_end (shape_of g cut caches) v e (λ s. cond (takes p.gather_edges s) 1 0) 0) n
      ≡ length (filter (λ e. takes p.gather_edges (side_at g v e)) (filter (λ e. is_at v (edge_at g e)) (range_with_len 0 n)))
  degree_upto v zero = refl
  degree_upto v (suc n) =
      let test : ℕ → Bool = λ e. is_at v (edge_at g e) in
      let used : ℕ → Bool = λ e. takes p.gather_edges (side_at g v e) in
      let one : at_end (shape_of g cut caches) v n (λ s. cond (takes p.gather_edges s) 1 0) 0 ≡ cond (test n) (cond (used n) 1 0) 0
      = either_side ((edge_at g n).src == v) ((edge_at g n).dst == v) (λ s. cond (takes p.gather_edges s) 1 0) 0 in
      let goal : ℕ → Type 0 = λ k. total ◌+◌ 0 (λ e. at_end (shape_of g cut caches) v e (λ s. cond (takes p.gather_edges s) 1 0) 0) (suc n) ≡ length (filter used (filter test (range_with_len 0 k))) in
      subst goal (add-one n) ((λ j. degree_upto v n j + one j) ∙ sym (length_both_more test used n))

  -- the gather degree of the core is the length of the list of gather edges
  pub degree_is : (v : ℕ) → gather_degree p (shape_of g cut caches) v ≡ length (edges_over p.gather_edges g v)
  degree_is v = degree_upto v (length g.edges)

-- a sum over the numbers below n
pub total_is_sum : (f h : ℕ → ℕ) (n : ℕ) → ((k : ℕ) → f k ≡ h k) → total ◌+◌ 0 f n ≡ sum_by h (range_with_len 0 n)
total_is_sum f h zero e = refl
total_is_sum f h (suc n) e =
    let goal : ℕ → Type 0 = λ k. total ◌+◌ 0 f (suc n) ≡ sum_by h (range_with_len 0 k) in
    subst goal (add-one n) ((λ j. total_is_sum f h n e j + e n j) ∙ sym (ap (sum_by h) (numbers_more n) ∙ fold-append (λ a x. a + h x) 0 (range_with_len 0 n) (n ∷ [])))
