-- The edges that a direction takes in at a vertex, counted by its degrees.
use Rattle.std.proofs.Common.{◌≡◌, ℕ, zero, suc, ◌+◌, ◌≤◌, Bool, true, false, cond, ◌==◌, ◌||◌, ◌&&◌, ◌^◌, List, [], ◌∷◌, length, take, refl, sym, subst, ◌∙◌, ap, arith, add-one}
use Rattle.std.specs.Prelude.{filter, sum_by, count_by}
use Rattle.std.specs.List.{range_with_len}
use Rattle.std.proofs.lemmas.Bool.{ne_eqb, eqb-true, true≢false}
use Rattle.std.proofs.lemmas.List.{take_all}
use Rattle.std.proofs.lemmas.List.Sums.{sum_by_more, sum_by-cons}
use Rattle.pg_graph.specs.declared.edge.Edge.{Edge}
use Rattle.pg_graph.specs.declared.edge.Dir.{Dir}
use Rattle.pg_graph.specs.declared.edge.Dir.TheVariants.{NoEdges, InEdges, OutEdges, AllEdges}
use Rattle.pg_graph.specs.declared.edge.Side.TheVariants.{Source, Target}
use Rattle.pg_graph.specs.Multigraph.{Multigraph, IsMultigraph, no_edge, edge_at, is_at, side_at, takes}
use Rattle.pg_graph.proofs.Numbers.{length_filter_more}
use Rattle.pg_graph.proofs.Stored.{edges_passing_within}
use Rattle.pg_law.specs.Round.{edges_over}

sum_of_none : {X : Type 0} (xs : List X) → sum_by (λ (x : X). 0) xs ≡ 0
sum_of_none [] = refl
sum_of_none {X = X} (x ∷ xs) = omega (arith, sum_by-cons (λ (x : X). 0) x xs, sum_of_none xs)

sum_of_both : {X : Type 0} (f h : X → ℕ) (xs : List X) → sum_by (λ x. f x + h x) xs ≡ sum_by f xs + sum_by h xs
sum_of_both f h [] = refl
sum_of_both f h (x ∷ xs) = omega (arith, sum_by-cons (λ x. f x + h x) x xs, sum_by-cons f x xs, sum_by-cons h x xs, sum_of_both f h xs)

both_tests : (p q : ℕ → Bool) (xs : List ℕ) → filter q (filter p xs) ≡ filter (λ x. p x && q x) xs
both_tests p q [] = refl
both_tests p q (x ∷ xs) = by_first (p x) (both_tests p q xs)
  where
    by_first : (b : Bool) → filter q (filter p xs) ≡ filter (λ x. p x && q x) xs → filter q (cond b (x ∷ filter p xs) (filter p xs)) ≡ cond (b && q x) (x ∷ filter (λ x. p x && q x) xs) (filter (λ x. p x && q x) xs)
    by_first true e = ap (λ ys. cond (q x) (x ∷ ys) ys) e
    by_first false e = e

-- how a direction counts an edge by its source and its target
abbrev counted : Dir → Bool → Bool → ℕ
counted NoEdges a b = 0
counted InEdges a b = cond b 1 0
counted OutEdges a b = cond a 1 0
counted AllEdges a b = cond b 1 0 + cond a 1 0

by_ends : (dir : Dir) (a b : Bool) → (a ≡ true → b ≡ false) → cond ((a || b) && takes dir (cond a Source Target)) 1 0 ≡ counted dir a b
by_ends dir true true apart = absurd (true≢false (apart refl))
by_ends NoEdges true false apart = refl
by_ends NoEdges false true apart = refl
by_ends NoEdges false false apart = refl
by_ends InEdges true false apart = refl
by_ends InEdges false true apart = refl
by_ends InEdges false false apart = refl
by_ends OutEdges true false apart = refl
by_ends OutEdges false true apart = refl
by_ends OutEdges false false apart = refl
by_ends AllEdges true false apart = refl
by_ends AllEdges false true apart = refl
by_ends AllEdges false false apart = refl

module _ (g : Multigraph) (ok : IsMultigraph g) (dir : Dir) (v : ℕ) where
  abbrev counts : Edge → ℕ
  counts edge = counted dir (edge.src == v) (edge.dst == v)

  abbrev takes_in : ℕ → Bool
  takes_in e = is_at v (edge_at g e) && takes dir (side_at g v e)

  below : (m : ℕ) → m ≤ length g.edges → length (filter takes_in (range_with_len 0 m)) ≡ sum_by counts (take m g.edges)
  below zero h = refl
  below (suc m) h = let P : ℕ → Type 0 = λ n. length (filter takes_in (range_with_len 0 n)) ≡ sum_by counts (take n g.edges) in
      let apart : ((edge_at g m).src == v) ≡ true → ((edge_at g m).dst == v) ≡ false = λ is. ne_eqb (edge_at g m).dst v (λ same. (ok.edge m (omega arith)).apart (eqb-true (edge_at g m).src v is ∙ sym same)) in
      let next : P (m + 1) = omega (
        arith,
        length_filter_more takes_in m,
        by_ends dir ((edge_at g m).src == v) ((edge_at g m).dst == v) apart,
        below m (omega arith),
        sum_by_more counts g.edges m no_edge (omega arith),
      ) in
      subst P (add-one m) next

  pub over_is : length (edges_over dir g v) ≡ sum_by counts g.edges
  over_is = ap length (both_tests (λ e. is_at v (edge_at g e)) (λ e. takes dir (side_at g v e)) (range_with_len 0 (length g.edges)))
      ∙ below (length g.edges) (omega arith) ∙ ap (sum_by counts) (take_all (length g.edges) g.edges (omega arith))

module _ (g : Multigraph) (ok : IsMultigraph g) (v : ℕ) where
  pub over_none : length (edges_over NoEdges g v) ≡ 0
  over_none = over_is g ok NoEdges v ∙ sum_of_none g.edges

  pub over_into : length (edges_over InEdges g v) ≡ count_by (λ (edge : Edge). edge.dst == v) g.edges
  over_into = over_is g ok InEdges v

  pub over_out : length (edges_over OutEdges g v) ≡ count_by (λ (edge : Edge). edge.src == v) g.edges
  over_out = over_is g ok OutEdges v

  pub over_all : length (edges_over AllEdges g v) ≡ count_by (λ (edge : Edge). edge.dst == v) g.edges + count_by (λ (edge : Edge). edge.src == v) g.edges
  over_all = over_is g ok AllEdges v ∙ sum_of_both (λ (edge : Edge). cond (edge.dst == v) 1 0) (λ (edge : Edge). cond (edge.src == v) 1 0) g.edges

-- a vertex has no more of them than a graph has edges
pub few_over : (dir : Dir) (g : Multigraph) (v : ℕ) → IsMultigraph g → length (edges_over dir g v) ≤ 2 ^ 24
few_over dir g v ok = omega (arith, edges_passing_within g (λ e. takes dir (side_at g v e)) v, ok.edge_count)
