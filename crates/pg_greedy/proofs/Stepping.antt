-- A table after one more edge.
use Rattle.std.proofs.Common.{◌≡◌, ℕ, ◌+◌, ◌-◌, ◌<◌, ◌≤◌, Bool, true, false, cond, ◌==◌, ◌||◌, ◌&&◌, List, [], ◌∷◌, replicate, length, get_or, map, refl, sym, ◌∙◌, ap, arith, ⊎_elim}
use Rattle.std.specs.Prelude.{filter}
use Rattle.std.specs.List.{range_with_len}
use Rattle.std.proofs.lemmas.Bool.{cases_lt, eqb-true, or_cases, and_parts, false_from_ne_true}
use Rattle.std.proofs.lemmas.List.{get_or-map, length-map, length-replicate, get_or-replicate}
use Rattle.std.proofs.lemmas.List.Elements.{filter_agree}
use Rattle.std.proofs.lemmas.List.FromFn.{fill_by_all, length-range_with_len}
use Rattle.std.proofs.lemmas.Map.Views.{any-filter_same}
use Rattle.pg_graph.specs.declared.edge.Edge.{Edge}
use Rattle.pg_graph.specs.Multigraph.{Multigraph, IsMultigraph, IsEdge, no_edge, is_at, vertices, edges_at, edge_at}
use Rattle.pg_cut.specs.WorkerSet.{has, is_in, workers_in, all_workers}
use Rattle.pg_cut.proofs.Kept.{is_in-workers_in}
use Rattle.pg_greedy.specs.Greedy.{Table, IsKept, table_by, with_edge, with_member, set_at, empty_table}
use Rattle.pg_greedy.specs.Batches.{without_edge}
use Rattle.std.proofs.lemmas.Nat.Bits.{bit_at-zero}
use Rattle.pg_graph.proofs.Numbers.{length_filter_within}

or-false : (b : Bool) → (b || false) ≡ b
or-false true = refl
or-false false = refl

and-false : (a b : Bool) → a ≡ false → (a && b) ≡ a
and-false a b e = rw e refl

-- the members of a set whose bits are low
is_in_low : (bits w : ℕ) → (has bits w ≡ true → w < 64) → is_in w (workers_in bits) ≡ has bits w
is_in_low bits w low = ⊎_elim (is_in-workers_in bits w) above (cases_lt w 64)
  where
    above : 64 ≤ w → is_in w (workers_in bits) ≡ has bits w
    above h = any-filter_same (λ x. x == w) (has bits) (has bits w) (λ k same. ap (has bits) (eqb-true k w same)) all_workers
        ∙ and-false (has bits w) _ (false_from_ne_true (has bits w) (λ t. let l = low t in omega arith))

module _ (g : Multigraph) (workers first : ℕ) (bits placed loads : List ℕ) (kept : IsKept g workers first bits placed loads)
    (edge : Edge) (worker : ℕ) (within : worker < workers)
    (room_placed : (v : ℕ) → v < length g.ids → get_or placed v 0 < length g.edges) (room_loads : (w : ℕ) → w < workers → get_or loads w 0 < length g.edges)
    (bits' placed' loads' : List ℕ) (sets_len : length bits' ≡ length bits) (placed_len : length placed' ≡ length placed) (loads_len : length loads' ≡ length loads)
    (sets_each : (v w : ℕ) → v < length bits → has (get_or bits' v 0) w ≡ (has (get_or bits v 0) w || (is_at v edge && (w == worker))))
    (placed_each : (v : ℕ) → v < length placed → get_or placed' v 0 ≡ get_or placed v 0 + cond (is_at v edge) 1 0)
    (loads_each : (w : ℕ) → w < length loads → get_or loads' w 0 ≡ get_or loads w 0 + cond (w == worker) 1 0) where
  one_more : (b : Bool) (n : ℕ) → n < length g.edges → n + cond b 1 0 ≤ length g.edges
  one_more true n h = omega arith
  one_more false n h = omega arith

  pub step_kept : IsKept g workers first bits' placed' loads'
  step_kept = record {
    graph = kept.graph;
    some = kept.some;
    few = kept.few;
    first_below = kept.first_below;
    sets_count = sets_len ∙ kept.sets_count;
    placed_count = placed_len ∙ kept.placed_count;
    loads_count = loads_len ∙ kept.loads_count;
    members = λ v h w t. ⊎_elim (λ old. kept.members v h w old) (λ now. let e : w ≡ worker = eqb-true w worker (and_parts (is_at v edge) (w == worker) now).1 in omega arith)
        (or_cases _ _ (sym (sets_each v w (omega (arith, kept.sets_count))) ∙ t));
    placed_few = λ v h. rw (placed_each v (omega (arith, kept.placed_count))) (one_more (is_at v edge) _ (room_placed v h));
    loads_few = λ w h. rw (loads_each w (omega (arith, kept.loads_count))) (one_more (w == worker) _ (room_loads w h));
  }

  table : Table
  table = table_by g workers first bits placed loads

  pub set_is : (v : ℕ) → v < length g.ids → set_at (table_by g workers first bits placed loads) v ≡ workers_in (get_or bits v 0)
  set_is v h = get_or-map workers_in bits v 0 [] (omega (arith, kept.sets_count))

  sets_at : (v : ℕ) → v < length g.ids → (b : Bool) → is_at v edge ≡ b → workers_in (get_or bits' v 0)
      ≡ cond b (with_member worker (set_at (table_by g workers first bits placed loads) v)) (set_at (table_by g workers first bits placed loads) v)
  sets_at v h true e = rw (set_is v h) (filter_agree _ _ (λ w. sets_each v w (omega (arith, kept.sets_count)) ∙ ap (λ b. has (get_or bits v 0) w || (b && (w == worker))) e
      ∙ ap (λ b. b || (w == worker)) (sym (is_in_low (get_or bits v 0) w (λ t. let l = kept.members v h w t in omega (arith, kept.few))))) all_workers)
  sets_at v h false e = rw (set_is v h) (filter_agree _ _ (λ w. sets_each v w (omega (arith, kept.sets_count)) ∙ ap (λ b. has (get_or bits v 0) w || (b && (w == worker))) e ∙ or-false (has (get_or bits v 0) w)) all_workers)

  pub step_is : ◌≡◌ {A = Table} (table_by g workers first bits' placed' loads') (with_edge (table_by g workers first bits placed loads) edge worker)
  unfolding with_edge
  step_is = let before = table_by g workers first bits placed loads in
      let sets : map workers_in bits' ≡ (with_edge before edge worker).sets = fill_by_all (λ v. cond (is_at v edge) (with_member worker (set_at before v)) (set_at before v)) (map workers_in bits') (length g.ids) []
      (length-map bits' workers_in ∙ sets_len ∙ kept.sets_count) (λ v h. get_or-map workers_in bits' v 0 [] (omega (arith, sets_len, kept.sets_count)) ∙ sets_at v h (is_at v edge) refl) in
      let counts : placed' ≡ (with_edge before edge worker).placed = fill_by_all (λ v. get_or placed v 0 + cond (is_at v edge) 1 0) placed' (length g.ids) 0 (placed_len ∙ kept.placed_count) (λ v h. placed_each v (omega (arith, kept.placed_count))) in
      let weights : loads' ≡ (with_edge before edge worker).loads = fill_by_all (λ w. get_or loads w 0 + cond (w == worker) 1 0) loads' workers 0 (loads_len ∙ kept.loads_count) (λ w h. loads_each w (omega (arith, kept.loads_count))) in
      rw (sets, counts, weights) refl

-- the table without an edge
module _ (g : Multigraph) (workers first : ℕ) (bits placed loads : List ℕ) (kept : IsKept g workers first bits placed loads) (edge : Edge) (worker us vs : ℕ)
    (bits' placed' loads' : List ℕ) (sets_len : length bits' ≡ length bits) (placed_len : length placed' ≡ length placed) (loads_len : length loads' ≡ length loads)
    (sets_each : (v : ℕ) → v < length bits → get_or bits' v 0 ≡ cond (edge.src == v) us (cond (edge.dst == v) vs (get_or bits v 0)))
    (placed_each : (v : ℕ) → v < length placed → get_or placed' v 0 ≡ get_or placed v 0 - cond (is_at v edge) 1 0)
    (loads_each : (w : ℕ) → w < length loads → get_or loads' w 0 ≡ get_or loads w 0 - cond (w == worker) 1 0) where
  pub back_is : ◌≡◌ {A = Table} (table_by g workers first bits' placed' loads') (without_edge (table_by g workers first bits placed loads) edge worker (workers_in us) (workers_in vs))
  unfolding without_edge
  back_is = let before = table_by g workers first bits placed loads in
      let set : ℕ → List ℕ = λ v. cond (edge.src == v) (workers_in us) (cond (edge.dst == v) (workers_in vs) (set_at before v)) in
      let sets : map workers_in bits' ≡ map set (vertices g) = fill_by_all set (map workers_in bits') (length g.ids) [] (length-map bits' workers_in ∙ sets_len ∙ kept.sets_count)
      (λ v h. get_or-map workers_in bits' v 0 [] (omega (arith, sets_len, kept.sets_count)) ∙ ap workers_in (sets_each v (omega (arith, kept.sets_count)))
      ∙ by_ends v (edge.src == v) (edge.dst == v) ∙ ap (λ s. cond (edge.src == v) (workers_in us) (cond (edge.dst == v) (workers_in vs) s)) (sym (get_or-map workers_in bits v 0 [] (omega (arith, kept.sets_count))))) in
      let counts : placed' ≡ map (λ v. get_or placed v 0 - cond (is_at v edge) 1 0) (vertices g) = fill_by_all (λ v. get_or placed v 0 - cond (is_at v edge) 1 0) placed' (length g.ids) 0 (placed_len ∙ kept.placed_count) (λ v h. placed_each v (omega (arith, kept.placed_count))) in
      let weights : loads' ≡ map (λ w. get_or loads w 0 - cond (w == worker) 1 0) (range_with_len 0 workers) = fill_by_all (λ w. get_or loads w 0 - cond (w == worker) 1 0) loads' workers 0 (loads_len ∙ kept.loads_count) (λ w h. loads_each w (omega (arith, kept.loads_count))) in
      rw (sets, counts, weights) refl
    where
      by_ends : (v : ℕ) (s t : Bool) → workers_in (cond s us (cond t vs (get_or bits v 0))) ≡ cond s (workers_in us) (cond t (workers_in vs) (workers_in (get_or bits v 0)))
      by_ends v true t = refl
      by_ends v false true = refl
      by_ends v false false = refl

-- a vertex has no more edges than the graph
pub degree_within : (g : Multigraph) (v : ℕ) → length (edges_at g v) ≤ length g.edges
degree_within g v = omega (arith, length_filter_within (λ e. is_at v (edge_at g e)) (range_with_len 0 (length g.edges)), length-range_with_len 0 (length g.edges))

-- a table of nothing
no_members : (xs : List ℕ) → filter (has 0) xs ≡ []
no_members [] = refl
no_members (x ∷ xs) = rw (ap (λ b. b == 1) (bit_at-zero x)) (no_members xs)

pub empty_is : (g : Multigraph) (workers first : ℕ) → ◌≡◌ {A = Table} (table_by g workers first (replicate (length g.ids) 0) (replicate (length g.ids) 0) (replicate workers 0)) (empty_table g workers first)
empty_is g workers first = let n = length g.ids in
    let sets = fill_by_all (λ (v : ℕ). []) (map workers_in (replicate n 0)) n [] (length-map (replicate n 0) workers_in ∙ length-replicate {A = ℕ} n 0)
    (λ v h. get_or-map workers_in (replicate n 0) v 0 [] (omega (arith, length-replicate {A = ℕ} n 0)) ∙ ap workers_in (get_or-replicate {A = ℕ} n v 0 0 h) ∙ no_members all_workers) in
    let counts = fill_by_all (λ (v : ℕ). 0) (replicate n 0) n 0 (length-replicate {A = ℕ} n 0) (λ v h. get_or-replicate {A = ℕ} n v 0 0 h) in
    let weights = fill_by_all (λ (w : ℕ). 0) (replicate workers 0) workers 0 (length-replicate {A = ℕ} workers 0) (λ w h. get_or-replicate {A = ℕ} workers w 0 0 h) in
    rw (sets, counts, weights) refl

-- the edge that a read of the graph gives
pub edge_own : (g : Multigraph) (edges : List Edge) (e : ℕ) → IsMultigraph g → edges ≡ g.edges → e < length g.edges → IsEdge (length g.ids) (get_or edges e no_edge)
edge_own g edges e graph same h = rw (ap (λ es. get_or es e no_edge) same) (graph.edge e h)
