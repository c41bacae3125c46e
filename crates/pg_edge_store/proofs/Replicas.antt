-- Edges between replicas, and the edges of the graph that they stand for.
use Rattle.std.proofs.Common.{◌≡◌, ◌≢◌, ℕ, suc, ◌+◌, ◌-◌, ◌<◌, Bool, true, false, ◌==◌, ◌&&◌, List, [], ◌∷◌, length, get_or, map, refl, sym, ◌∙◌, ap, arith, ⊎_elim}
use Rattle.std.specs.Prelude.{filter, All, Contains}
use Rattle.std.specs.List.{range_with_len}
use Rattle.std.specs.List.Sorted.{IsStrictlyIncreasing}
use Rattle.std.proofs.lemmas.Bool.{cases_eq, cases_lt, eq-eqb, ne_eqb}
use Rattle.std.proofs.lemmas.List.{get_or_default}
use Rattle.std.proofs.lemmas.List.FromFn.{get_or-map-range_with_len, length-map-range_with_len}
use Rattle.pg_graph.specs.declared.edge.Edge.{Edge}
use Rattle.pg_graph.specs.declared.edge.Dir.{Dir}
use Rattle.pg_graph.specs.declared.edge.Dir.TheVariants.{AllEdges}
use Rattle.pg_graph.specs.declared.edge.Side.{Side}
use Rattle.pg_graph.specs.declared.edge.Side.TheVariants.{Source, Target}
use Rattle.pg_graph.specs.Multigraph.{Multigraph, edge_at, end_at, side_at, is_at, side_of, end_of, takes, no_edge, edges_around}
use Rattle.pg_graph.proofs.Numbers.{filter_numbers_each}
use Rattle.pg_cut.proofs.Searching.{rises}
use Rattle.pg_cut.proofs.Passing.{filter_agree_below, none_below}
use Rattle.pg_edge_store.specs.Store.{Store, IsOver, IsKept, local_at, is_around, places_around, places_taken}
use Rattle.pg_edge_store.proofs.Places.{filter_of_filter}

-- places of a list that ascends are one to one with its items
pub apart_from : (xs : List ℕ) → IsStrictlyIncreasing xs → (i r : ℕ) → i < r → r < length xs → get_or xs i 0 ≢ get_or xs r 0
apart_from xs up i r below h same =
    let e : i + (r - i) ≡ r = omega arith in
    omega (arith, rises xs up i (r - i) (omega arith), ap (λ k. get_or xs k 0) e)

place_agrees : (xs : List ℕ) → IsStrictlyIncreasing xs → (i r : ℕ) → i < length xs → r < length xs → (i == r) ≡ (get_or xs i 0 == get_or xs r 0)
place_agrees xs up i r hi hr = ⊎_elim
    (λ same. eq-eqb i r same ∙ sym (eq-eqb (get_or xs i 0) (get_or xs r 0) (ap (λ k. get_or xs k 0) same)))
    (λ apart. ne_eqb i r apart ∙ sym (ne_eqb (get_or xs i 0) (get_or xs r 0) (⊎_elim
    (λ below. apart_from xs up i r below hr)
    (λ behind same. apart_from xs up r i (omega arith) hi (sym same))
    (cases_lt i r))))
    (cases_eq i r)

-- the row of a replica among the edges between replicas
pub row_is : (edges : List Edge) (rows : List (List ℕ)) (n r : ℕ) → rows ≡ map (edges_around edges) (range_with_len 0 n) → r < n → get_or rows r [] ≡ edges_around edges r
row_is edges rows n r is h = ap (λ xs. get_or xs r []) is ∙ get_or-map-range_with_len (edges_around edges) 0 n r r [] h (omega arith)

-- a store has a row for each replica, and in it places of its edges
pub rows_count : (s : Store) → IsKept s → length s.rows ≡ length s.vertices
rows_count s kept = ap length kept.rows_are ∙ length-map-range_with_len (edges_around s.edges) 0 (length s.vertices)

pub row_within : (s : Store) → IsKept s → (r : ℕ) → r < length s.vertices → All (λ i. i < length s.edges) (get_or s.rows r [])
row_within s kept r h = rw (row_is s.edges s.rows (length s.vertices) r kept.rows_are h)
    (λ k d inside. (filter_numbers_each (λ i. is_at r (local_at s i)) (length s.edges) k d inside).0)

and_true : (b : Bool) → (b && true) ≡ b
and_true true = refl
and_true false = refl

module _ (g : Multigraph) (s : Store) (over : IsOver g s) (r : ℕ) (h : r < length s.vertices) where
  -- a replica stands at an end where its vertex does
  end_agrees : (i : ℕ) → i < length s.numbers → (side : Side) → (end_of side (local_at s i) == r) ≡ (end_at g side (get_or s.numbers i 0) == get_or s.vertices r 0)
  end_agrees i inside side = place_agrees s.vertices over.ascending (end_of side (local_at s i)) r (over.within i inside side) h
      ∙ ap (λ v. v == get_or s.vertices r 0) (over.ends i inside side)

  at_agrees : (i : ℕ) → i < length s.numbers → is_at r (local_at s i) ≡ is_at (get_or s.vertices r 0) (edge_at g (get_or s.numbers i 0))
  at_agrees i inside = rw (end_agrees i inside Source, end_agrees i inside Target) refl

  pub side_agrees : (i : ℕ) → i < length s.numbers → side_of r (local_at s i) ≡ side_at g (get_or s.vertices r 0) (get_or s.numbers i 0)
  side_agrees i inside = rw (end_agrees i inside Source) refl

  -- what a direction takes in of the row
  pub taken_is : (dir : Dir) → places_taken s.edges r dir (get_or s.rows r []) ≡ places_around g s.numbers (get_or s.vertices r 0) dir
  taken_is dir =
      let at = λ (i : ℕ). is_at r (local_at s i) in
      let over_dir = λ (i : ℕ). takes dir (side_of r (local_at s i)) in
      ap (places_taken s.edges r dir) (row_is s.edges s.rows (length s.vertices) r over.rows_are h)
      ∙ sym (filter_of_filter at over_dir (range_with_len 0 (length s.edges)))
      ∙ ap (λ n. filter (λ i. at i && over_dir i) (range_with_len 0 n)) over.count
      ∙ filter_agree_below (λ i. at i && over_dir i) (λ i. is_around (get_or s.vertices r 0) dir (edge_at g (get_or s.numbers i 0))) (length s.numbers)
      (λ i inside. rw (at_agrees i inside, side_agrees i inside) refl)

  pub row_around : get_or s.rows r [] ≡ places_around g s.numbers (get_or s.vertices r 0) AllEdges
  row_around = sym (all_taken (get_or s.rows r [])) ∙ taken_is AllEdges
    where
      all_taken : (xs : List ℕ) → places_taken s.edges r AllEdges xs ≡ xs
      all_taken [] = refl
      all_taken (x ∷ xs) = ap (λ ys. x ∷ ys) (all_taken xs)

-- no edge is around a vertex without a replica
pub none_around : (g : Multigraph) (s : Store) → IsOver g s → (v : ℕ) → (Contains s.vertices v → ⊥) → (dir : Dir) → places_around g s.numbers v dir ≡ []
none_around g s over v none dir = none_below (λ i. is_around v dir (edge_at g (get_or s.numbers i 0))) (length s.numbers)
    (λ i inside. rw (elsewhere i inside Source, elsewhere i inside Target) refl)
  where
    elsewhere : (i : ℕ) → i < length s.numbers → (side : Side) → (end_at g side (get_or s.numbers i 0) == v) ≡ false
    elsewhere i inside side = ne_eqb (end_at g side (get_or s.numbers i 0)) v
        (λ same. let r = end_of side (local_at s i) in
        let h = over.within i inside side in
        none (r, h, get_or_default s.vertices r v 0 h ∙ over.ends i inside side ∙ same))

-- one place of a row that isn't taken
pub taken_no : (edges : List Edge) (r : ℕ) (dir : Dir) (i : ℕ) (others : List ℕ) → takes dir (side_of r (get_or edges i no_edge)) ≡ false → places_taken edges r dir (i ∷ others) ≡ places_taken edges r dir others
taken_no edges r dir i others is = rw is refl

pub within_behind : (edges : List Edge) (places : List ℕ) (i : ℕ) (others : List ℕ) → places ≡ i ∷ others → All (λ k. k < length edges) places → All (λ k. k < length edges) others
within_behind edges places i others is within =
    let first : All (λ k. k < length edges) (i ∷ others) = rw is at within in
    λ k d h. first (suc k) d (omega arith)
