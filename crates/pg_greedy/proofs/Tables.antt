-- What holds of a table that has seen some edges.
use Rattle.std.proofs.Common.{◌≡◌, ℕ, ◌+◌, ◌-◌, ◌<◌, ◌≤◌, Bool, true, false, cond, ◌==◌, ◌||◌, List, [], ◌∷◌, ◌++◌, length, get_or, map, refl, sym, subst, ◌∙◌, ap, arith}
use Rattle.std.specs.Prelude.{fold}
use Rattle.std.specs.List.{range_with_len, AllByRecursion}
use Rattle.std.proofs.lemmas.Bool.{eq-eqb, eqb-true, or_left, or_right}
use Rattle.std.proofs.lemmas.List.Sums.{fold_push}
use Rattle.std.proofs.lemmas.List.FromFn.{fill_by_all, length-map-range_with_len, get_or-map-range_with_len}
use Rattle.pg_graph.specs.declared.edge.Edge.{Edge}
use Rattle.pg_graph.specs.Multigraph.{Multigraph, IsEdge, is_at, edge_at}
use Rattle.pg_greedy.specs.Greedy.{Table, HasRoom, set_at, with_member, with_edge, empty_table}
use Rattle.pg_greedy.specs.Batches.{IsCounted, without_edge, with_first}
use Rattle.pg_greedy.specs.Loaders.{table_after}

-- a table of this graph, whose counts are at most so high
pub record IsTableOf (g : Multigraph) (workers first n : ℕ) (table : Table) : Type 0 where
  pub graph : table.graph ≡ g
  pub workers_are : table.workers ≡ workers
  pub first_is : table.first ≡ first
  pub sets_count : length table.sets ≡ length g.ids
  pub placed_count : length table.placed ≡ length g.ids
  pub loads_count : length table.loads ≡ workers
  pub placed_few : (v : ℕ) → v < length g.ids → get_or table.placed v 0 ≤ n
  pub loads_few : (w : ℕ) → w < workers → get_or table.loads w 0 ≤ n

pub empty_table_of : (g : Multigraph) (workers first : ℕ) → IsTableOf g workers first 0 (empty_table g workers first)
empty_table_of g workers first = record {
  graph = refl;
  workers_are = refl;
  first_is = refl;
  sets_count = length-map-range_with_len (λ (v : ℕ). let none : List ℕ = [] in none) 0 (length g.ids);
  placed_count = length-map-range_with_len (λ (v : ℕ). let none : ℕ = 0 in none) 0 (length g.ids);
  loads_count = length-map-range_with_len (λ (w : ℕ). let none : ℕ = 0 in none) 0 workers;
  placed_few = λ v h. omega (arith, get_or-map-range_with_len (λ (v : ℕ). let none : ℕ = 0 in none) 0 (length g.ids) v v 0 h (omega arith));
  loads_few = λ w h. omega (arith, get_or-map-range_with_len (λ (w : ℕ). let none : ℕ = 0 in none) 0 workers w w 0 h (omega arith));
}

one_more : (b : Bool) (k n : ℕ) → k ≤ n → k + cond b 1 0 ≤ n + 1
one_more true k n h = omega arith
one_more false k n h = omega arith

-- one more edge
pub more_table_of : (g : Multigraph) (workers first n : ℕ) (table : Table) (edge : Edge) (worker : ℕ) → IsTableOf g workers first n table → IsTableOf g workers first (n + 1) (with_edge table edge worker)
unfolding with_edge
more_table_of g workers first n table edge worker is =
    let set : ℕ → List ℕ = λ v. cond (is_at v edge) (with_member worker (set_at table v)) (set_at table v) in
    let count : ℕ → ℕ = λ v. get_or table.placed v 0 + cond (is_at v edge) 1 0 in
    let load : ℕ → ℕ = λ w. get_or table.loads w 0 + cond (w == worker) 1 0 in
    record {
      graph = is.graph;
      workers_are = is.workers_are;
      first_is = is.first_is;
      sets_count = length-map-range_with_len set 0 (length table.graph.ids) ∙ ap (λ (g : Multigraph). length g.ids) is.graph;
      placed_count = length-map-range_with_len count 0 (length table.graph.ids) ∙ ap (λ (g : Multigraph). length g.ids) is.graph;
      loads_count = length-map-range_with_len load 0 table.workers ∙ is.workers_are;
      placed_few = λ v h. let inside : v < length table.graph.ids = rw is.graph h in
          rw (get_or-map-range_with_len count 0 (length table.graph.ids) v v 0 inside (omega arith)) (one_more (is_at v edge) (get_or table.placed v 0) n (is.placed_few v h));
      loads_few = λ w h. let inside : w < table.workers = rw is.workers_are h in
          rw (get_or-map-range_with_len load 0 table.workers w w 0 inside (omega arith)) (one_more (w == worker) (get_or table.loads w 0) n (is.loads_few w h));
    }

module _ (g : Multigraph) (places : List ℕ) where
  step : Table → ℕ → Table
  step table x = with_edge table (edge_at g x) (get_or places x 0)

  all_from : (workers first n : ℕ) (table : Table) (edges : List ℕ) → IsTableOf g workers first n table → IsTableOf g workers first (n + length edges) (fold (λ table x. with_edge table (edge_at g x) (get_or places x 0)) table edges)
  all_from workers first n table [] is = let P : ℕ → Type 0 = λ m. IsTableOf g workers first m table in
      let same : n ≡ n + 0 = omega arith in subst P same is
  all_from workers first n table (x ∷ edges) is =
      let next = with_edge table (edge_at g x) (get_or places x 0) in
      let P : ℕ → Type 0 = λ m. IsTableOf g workers first m (fold (λ table x. with_edge table (edge_at g x) (get_or places x 0)) next edges) in
      let same : n + 1 + length edges ≡ n + length (x ∷ edges) = omega arith in
      subst P same (all_from workers first (n + 1) next edges (more_table_of g workers first n table (edge_at g x) (get_or places x 0) is))

  first_from : (table : Table) (first : ℕ) (edges : List ℕ) → with_first (fold (λ table x. with_edge table (edge_at g x) (get_or places x 0)) table edges) first ≡ fold (λ table x. with_edge table (edge_at g x) (get_or places x 0)) (with_first table first) edges
  unfolding with_edge with_first
  first_from table first [] = refl
  first_from table first (x ∷ edges) = first_from (with_edge table (edge_at g x) (get_or places x 0)) first edges

-- the counts of a table are at most as many as it has seen
pub table_after_of : (g : Multigraph) (workers first : ℕ) (places edges : List ℕ) → IsTableOf g workers first (length edges) (table_after g workers first places edges)
unfolding table_after
table_after_of g workers first places edges = let P : ℕ → Type 0 = λ m. IsTableOf g workers first m (table_after g workers first places edges) in
    let same : 0 + length edges ≡ length edges = omega arith in
    subst P same (all_from g places workers first 0 (empty_table g workers first) edges (empty_table_of g workers first))

pub has_room : (g : Multigraph) (workers first n : ℕ) (table : Table) → IsTableOf g workers first n table → n < length g.edges → HasRoom table
has_room g workers first n table is less = record {
  placed = λ v h. let inside = rw is.graph at h in rw is.graph (let few = is.placed_few v inside in omega arith);
  loads = λ w h. let inside = rw is.workers_are at h in rw is.graph (let few = is.loads_few w inside in omega arith);
}

-- the same of a table that is this one
pub is_after : (g : Multigraph) (workers first : ℕ) (places edges : List ℕ) (table : Table) → table ≡ table_after g workers first places edges → IsTableOf g workers first (length edges) table
is_after g workers first places edges table is = let P : Table → Type 0 = λ t. IsTableOf g workers first (length edges) t in subst P (sym is) (table_after_of g workers first places edges)

pub table_after_none : (g : Multigraph) (workers first : ℕ) (places : List ℕ) → empty_table g workers first ≡ table_after g workers first places []
unfolding table_after
table_after_none g workers first places = refl

-- a loader that prefers another worker
pub with_first_after : (g : Multigraph) (workers first other : ℕ) (places edges : List ℕ) → with_first (table_after g workers first places edges) other ≡ table_after g workers other places edges
unfolding table_after with_first
with_first_after g workers first other places edges = first_from g places (empty_table g workers first) other edges

-- one more edge behind those that were seen
pub table_after_more : (g : Multigraph) (workers first : ℕ) (places edges : List ℕ) (e : ℕ) → table_after g workers first places (edges ++ e ∷ []) ≡ with_edge (table_after g workers first places edges) (edge_at g e) (get_or places e 0)
unfolding table_after
table_after_more g workers first places edges e = fold_push (λ table x. with_edge table (edge_at g x) (get_or places x 0)) (empty_table g workers first) edges e

-- two lists of places that agree on what was seen
pub table_after_agree : (g : Multigraph) (workers first : ℕ) (places other : List ℕ) (edges : List ℕ) → AllByRecursion (λ x. get_or places x 0 ≡ get_or other x 0) edges → table_after g workers first places edges ≡ table_after g workers first other edges
unfolding table_after
table_after_agree g workers first places other edges all = along (empty_table g workers first) edges all
  where
    along : (table : Table) (edges : List ℕ) → AllByRecursion (λ x. get_or places x 0 ≡ get_or other x 0) edges
        → fold (λ table x. with_edge table (edge_at g x) (get_or places x 0)) table edges ≡ fold (λ table x. with_edge table (edge_at g x) (get_or other x 0)) table edges
    along table [] all = refl
    along table (x ∷ edges) all = rw all.0 (along (with_edge table (edge_at g x) (get_or other x 0)) edges all.1)

-- an edge that is taken back leaves the table as it was
module _ (g : Multigraph) (workers first n : ℕ) (table : Table) (is : IsTableOf g workers first n table) (edge : Edge) (worker : ℕ) where
  give_back : (b : Bool) (k : ℕ) → k + cond b 1 0 - cond b 1 0 ≡ k
  give_back true k = omega arith
  give_back false k = omega arith

  set_back : (v : ℕ) → v < length table.graph.ids → get_or table.sets v []
      ≡ cond (edge.src == v) (set_at table edge.src) (cond (edge.dst == v) (set_at table edge.dst) (set_at (with_edge table edge worker) v))
  unfolding with_edge
  set_back v h = by_ends (edge.src == v) (edge.dst == v) refl refl
    where
      set : ℕ → List ℕ
      set v = cond (is_at v edge) (with_member worker (set_at table v)) (set_at table v)

      by_ends : (s t : Bool) → (edge.src == v) ≡ s → (edge.dst == v) ≡ t → get_or table.sets v []
          ≡ cond s (set_at table edge.src) (cond t (set_at table edge.dst) (set_at (with_edge table edge worker) v))
      by_ends true t es et = ap (λ u. get_or table.sets u []) (sym (eqb-true edge.src v es))
      by_ends false true es et = ap (λ u. get_or table.sets u []) (sym (eqb-true edge.dst v et))
      by_ends false false es et = sym (get_or-map-range_with_len (λ v. cond (is_at v edge) (with_member worker (set_at table v)) (set_at table v)) 0 (length table.graph.ids) v v [] h (omega arith)
          ∙ ap (λ s. cond (s || (edge.dst == v)) (with_member worker (set_at table v)) (set_at table v)) es
          ∙ ap (λ t. cond t (with_member worker (set_at table v)) (set_at table v)) et)

  pub taken_back : without_edge (with_edge table edge worker) edge worker (set_at table edge.src) (set_at table edge.dst) ≡ table
  unfolding with_edge without_edge
  taken_back = let n = length table.graph.ids in
      let own : length g.ids ≡ n = ap (λ (g : Multigraph). length g.ids) (sym is.graph) in
      let next = with_edge table edge worker in
      let sets : table.sets ≡ map (λ v. cond (edge.src == v) (set_at table edge.src) (cond (edge.dst == v) (set_at table edge.dst) (set_at next v))) (range_with_len 0 n) =
      fill_by_all (λ v. cond (edge.src == v) (set_at table edge.src) (cond (edge.dst == v) (set_at table edge.dst) (set_at next v))) table.sets n [] (is.sets_count ∙ own) set_back in
      let count : ℕ → ℕ = λ v. get_or table.placed v 0 + cond (is_at v edge) 1 0 in
      let counts : table.placed ≡ map (λ v. get_or next.placed v 0 - cond (is_at v edge) 1 0) (range_with_len 0 n) =
      fill_by_all (λ v. get_or next.placed v 0 - cond (is_at v edge) 1 0) table.placed n 0 (is.placed_count ∙ own)
      (λ v h. sym (ap (λ k. k - cond (is_at v edge) 1 0) (get_or-map-range_with_len count 0 n v v 0 h (omega arith)) ∙ give_back (is_at v edge) (get_or table.placed v 0))) in
      let load : ℕ → ℕ = λ w. get_or table.loads w 0 + cond (w == worker) 1 0 in
      let loads : table.loads ≡ map (λ w. get_or next.loads w 0 - cond (w == worker) 1 0) (range_with_len 0 table.workers) =
      fill_by_all (λ w. get_or next.loads w 0 - cond (w == worker) 1 0) table.loads table.workers 0 (is.loads_count ∙ sym is.workers_are)
      (λ w h. sym (ap (λ k. k - cond (w == worker) 1 0) (get_or-map-range_with_len load 0 table.workers w w 0 h (omega arith)) ∙ give_back (w == worker) (get_or table.loads w 0))) in
      rw (← sets, ← counts, ← loads) refl

-- an edge that was just noted is counted
pub counted : (g : Multigraph) (workers first n : ℕ) (table : Table) → IsTableOf g workers first n table → (edge : Edge) → IsEdge (length g.ids) edge → (worker : ℕ) → worker < workers → IsCounted (with_edge table edge worker) edge worker
unfolding with_edge
counted g workers first n table is edge own worker below =
    let m = length table.graph.ids in
    let same : m ≡ length g.ids = ap (λ (g : Multigraph). length g.ids) is.graph in
    let one : Bool → ℕ = λ b. cond b 1 0 in
    let count : ℕ → ℕ = λ v. get_or table.placed v 0 + cond (is_at v edge) 1 0 in
    let load : ℕ → ℕ = λ w. get_or table.loads w 0 + cond (w == worker) 1 0 in
    record {
      src = omega (arith, get_or-map-range_with_len count 0 m edge.src edge.src 0 (let h = own.src in omega arith) (omega arith), ap one (or_left (edge.src == edge.src) (edge.dst == edge.src) (eq-eqb edge.src edge.src refl)));
      dst = omega (arith, get_or-map-range_with_len count 0 m edge.dst edge.dst 0 (let h = own.dst in omega arith) (omega arith), ap one (or_right (edge.src == edge.dst) (edge.dst == edge.dst) (eq-eqb edge.dst edge.dst refl)));
      load = omega (arith, get_or-map-range_with_len load 0 table.workers worker worker 0 (let e = is.workers_are in omega arith) (omega arith), ap one (eq-eqb worker worker refl));
    }
