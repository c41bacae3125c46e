-- The gather over all edges is the gather over the list of the edges at a vertex.
use Rattle.std.proofs.Common.{ℕ, zero, suc, ◌+◌, ◌^◌, ◌<◌, ◌≤◌, ◌≡◌, ◌⊎◌, ◌==◌, ◌||◌, ltb, [], ◌∷◌, length, Bool, true, false, cond, None, inl, inr, arith, refl, sym, ap, subst, ◌∙◌, add-one}
use Rattle.std.specs.Prelude.{filter, fold, slice_index, slice_index_or}
use Rattle.std.specs.List.{range_with_len}
use Rattle.std.proofs.lemmas.Bool.Decides.{nat_tests}
use Rattle.std.proofs.lemmas.List.{get_or_default, get_or_past}
use Rattle.std.proofs.lemmas.List.Elements.{filter-append}
use Rattle.std.proofs.lemmas.List.Sums.{fold-append, count_by-le-length}
use Rattle.pg_graph.specs.declared.edge.Side.{Side}
use Rattle.pg_graph.specs.declared.edge.Side.TheVariants.{Source, Target}
use Rattle.pg_graph.specs.declared.edge.Edge.{Edge}
use Rattle.pg_graph.specs.Multigraph.{Multigraph, IsMultigraph, IsEdgeInfo, IsVertexInfo, edge_at, edge_info, info, end_at, opposite, takes, is_at, side_at}
use Rattle.pg_graph.proofs.Numbers.{filter_numbers_more}
use Rattle.pg_graph.proofs.Stored.{info_known, edge_known}
use Rattle.pg_law.specs.Values.{one}
use Rattle.pg_law.specs.Program.{Program}
use Rattle.pg_law.specs.Laws.{IsLawful, IsOptional, info_at}
use Rattle.pg_law.specs.Configuration.{Configuration, IsFit, datum_in}
use Rattle.pg_law.specs.Round.{near_of, gathered, fresh as fresh_of}
use Rattle.pg_law.proofs.Fitting.{end_within}
use Rattle.pg_meals.specs.Shape.{Shape, at_end}
use Rattle.pg_meals.proofs.Shapes.{Graphlike}
use Rattle.pg_meals.specs.Serial.{Serial, near_in, gather_over, fresh}
use Rattle.pg_meals.specs.Listed.{Cut, IsCut, any_edge, any_vertex, any_datum, any_word, shape_of, serial_of}

-- one more number: a fold over those that pass two tests
last_of : {B : Type 0} (f : B → ℕ → B) (z : B) (q : ℕ → Bool) (n : ℕ) (t : Bool) → fold f z (filter q (cond t (n ∷ []) [])) ≡ cond t (cond (q n) (f z n) z) z
last_of f z q n true = go (q n)
  where
    go : (s : Bool) → fold f z (cond s (n ∷ []) []) ≡ cond s (f z n) z
    go true = refl
    go false = refl
last_of f z q n false = refl

pub fold_both_more : {B : Type 0} (f : B → ℕ → B) (b : B) (p q : ℕ → Bool) (n : ℕ)
    → let old = fold f b (filter q (filter p (range_with_len 0 n))) in fold f b (filter q (filter p (range_with_len 0 (n + 1)))) ≡ cond (p n) (cond (q n) (f old n) old) old
fold_both_more f b p q n =
    ap (λ xs. fold f b (filter q xs)) (filter_numbers_more p n)
    ∙ ap (fold f b) (filter-append q (filter p (range_with_len 0 n)) (cond (p n) (n ∷ []) []))
    ∙ fold-append f b (filter q (filter p (range_with_len 0 n))) (filter q (cond (p n) (n ∷ []) []))
    ∙ last_of f (fold f b (filter q (filter p (range_with_len 0 n)))) q n (p n)

-- an end of an edge, by two tests or by one
pub either_side : {X : Type 0} (b d : Bool) (f : Side → X) (none : X) → cond b (f Source) (cond d (f Target) none) ≡ cond (b || d) (f (cond b Source Target)) none
either_side true d f none = refl
either_side false true f none = refl
either_side false false f none = refl

any_edge_known : IsEdgeInfo any_edge
any_edge_known = record {
  src = record { id = omega arith; in_degree = omega arith; out_degree = omega arith };
  dst = record { id = omega arith; in_degree = omega arith; out_degree = omega arith };
  weight = omega arith;
  leaves = omega arith;
  enters = omega arith;
}

-- some graph has this vertex
pub any_vertex_known : IsVertexInfo any_vertex
any_vertex_known = record { id = omega arith; in_degree = omega arith; out_degree = omega arith }

-- a number is below n or not
pub below_or_past : (k n : ℕ) → (k < n) ⊎ (n ≤ k)
below_or_past k n = go (ltb k n) refl
  where
    go : (b : Bool) → ltb k n ≡ b → (k < n) ⊎ (n ≤ k)
    go true t = inl (grind (arith, nat_tests))
    go false t = inr (grind (arith, nat_tests))

module _ {A C : Type 0} (p : Program A C) (g : Multigraph) (cut : Cut) (caches : Bool) (law : IsLawful p) (graph : IsMultigraph g) where
  abbrev shape : Shape
  shape = shape_of g cut caches

  -- the info of an edge of the graph
  pub edge_is : (e : ℕ) → e < length g.edges → shape.edge_info e ≡ edge_info g e
  edge_is e i =
      let t : ltb e (length g.edges) ≡ true = grind (arith, nat_tests) in
      ap (λ b. cond b (edge_info g e) any_edge) t

  -- each info is one that some graph gives
  pub all_edges_known : (e : ℕ) → IsEdgeInfo (shape.edge_info e)
  all_edges_known e = go (ltb e (length g.edges)) refl
    where
      go : (b : Bool) → ltb e (length g.edges) ≡ b → IsEdgeInfo (cond b (edge_info g e) any_edge)
      go true t = edge_known g graph e (grind (arith, nat_tests))
      go false t = any_edge_known

  all_vertices_known : (v : ℕ) → IsVertexInfo (info g v)
  all_vertices_known v = go (below_or_past v (length g.ids))
    where
      go : (v < length g.ids) ⊎ (length g.ids ≤ v) → IsVertexInfo (info g v)
      go (inl i) = info_known g graph v i
      go (inr i) = let least = any_vertex_known in record {
        id = let past : slice_index_or g.ids v 0 ≡ 0 = get_or_past g.ids v 0 i in subst (λ k. k < 2 ^ 32) (sym past) least.id;
        in_degree = omega (arith, count_by-le-length (λ (edge : Edge). edge.dst == v) g.edges, graph.edge_count);
        out_degree = omega (arith, count_by-le-length (λ (edge : Edge). edge.src == v) g.edges, graph.edge_count);
      }

  -- the shape of a graph is one that the core can work on
  pub shape_is_graphlike : IsCut g cut → Graphlike shape
  shape_is_graphlike is_cut = record {
    loopless = λ e i. (graph.edge e i).apart;
    info_known = all_vertices_known;
    edge_known = all_edges_known;
    info_of = λ s e i. ap (info_at s) (edge_is e i) ∙ at s e;
    placed = is_cut;
  }
    where
      at : (s : Side) (e : ℕ) → info_at s (edge_info g e) ≡ info g (end_at g s e)
      at Source e = refl
      at Target e = refl

  module _ (s : Configuration) (fit : IsFit p g s) where
    abbrev st : Serial
    st = serial_of p s

    -- the datum of a vertex, in a list and in the family
    pub datum_read : (v : ℕ) → v < length g.ids → st.value v ≡ datum_in s.values v
    datum_read v i = get_or_default s.values v (any_datum p) (one 0) (subst (λ n. v < n) (sym fit.values.count) i)

    -- the word of an edge, likewise
    pub word_read : (e : ℕ) → e < length g.edges → st.word e ≡ slice_index s.edges e
    word_read e i = get_or_default s.edges e (any_word p) 0 (subst (λ n. e < n) (sym fit.words.count) i)

    -- what an end sees, likewise
    pub near_read : (t : Side) (e : ℕ) → e < length g.edges → near_in shape st t e ≡ near_of g s.values t e (slice_index s.edges e)
    near_read t e i = λ j. record {
      side = t;
      edge = edge_is e i j;
      word = word_read e i j;
      centre = datum_read (end_at g t e) (end_within p g law graph t e i) j;
      other = datum_read (end_at g (opposite t) e) (end_within p g law graph (opposite t) e i) j;
    }

    -- every value that the core reads is one of the program
    pub value_own : (v : ℕ) → p.IsDatum (st.value v)
    value_own v = go (below_or_past v (length g.ids))
      where
        go : (v < length g.ids) ⊎ (length g.ids ≤ v) → p.IsDatum (st.value v)
        go (inl i) = subst p.IsDatum (sym (datum_read v i)) (fit.values.each v i)
        go (inr i) = subst p.IsDatum (sym (get_or_past s.values v (any_datum p) (subst (λ n. n ≤ v) (sym fit.values.count) i))) (law.closed.start_datum any_vertex any_vertex_known)

    -- each word of the family is one of the program
    pub word_own : (e : ℕ) → p.IsWord (st.word e)
    word_own e = go (below_or_past e (length g.edges))
      where
        go : (e < length g.edges) ⊎ (length g.edges ≤ e) → p.IsWord (st.word e)
        go (inl i) = subst p.IsWord (sym (word_read e i)) (fit.words.each e i)
        go (inr i) = subst p.IsWord (sym (get_or_past s.edges e (any_word p) (subst (λ n. n ≤ e) (sym fit.words.count) i))) (law.closed.start_edge any_edge any_edge_known)

    -- so is each message
    pub message_own : (v : ℕ) → IsOptional p.IsMessage (st.message v)
    message_own v = go (below_or_past v (length g.ids))
      where
        go : (v < length g.ids) ⊎ (length g.ids ≤ v) → IsOptional p.IsMessage (st.message v)
        go (inl i) = fit.messages.each v i
        go (inr i) = subst (IsOptional p.IsMessage) (sym (get_or_past s.messages v None (subst (λ n. n ≤ v) (sym fit.messages.count) i))) tt

    -- the gather below n
    gathers_upto : (v n : ℕ) → n ≤ length g.edges
        → gather_over p shape (near_in shape st) v n ≡ fold (λ acc e. p.sum acc (gathered p g s.values s.edges v e)) p.empty (filter (λ e. takes p.gather_edges (side_at g v e)) (filter (λ e. is_at v (edge_at g e)) (range_with_len 0 n)))
    gathers_upto v zero i = refl
    gathers_upto v (suc n) i =
        let test : ℕ → Bool = λ e. is_at v (edge_at g e) in
        let used : ℕ → Bool = λ e. takes p.gather_edges (side_at g v e) in
        let add : A → ℕ → A = λ acc e. p.sum acc (gathered p g s.values s.edges v e) in
        let old : A = gather_over p shape (near_in shape st) v n in
        let same : old ≡ fold add p.empty (filter used (filter test (range_with_len 0 n))) = gathers_upto v n (omega arith) in
        let here : (t : Side) → p.gather (near_in shape st t n) ≡ p.gather (near_of g s.values t n (slice_index s.edges n)) = λ t. ap p.gather (near_read t n (omega arith)) in
        let f : Side → A = λ t. cond (takes p.gather_edges t) (p.sum old (p.gather (near_in shape st t n))) old in
        let one : at_end shape v n f old ≡ cond (test n) (f (side_at g v n)) old = either_side ((edge_at g n).src == v) ((edge_at g n).dst == v) f old in
        let two : cond (test n) (f (side_at g v n)) old ≡ cond (test n) (cond (used n) (add (fold add p.empty (filter used (filter test (range_with_len 0 n)))) n) (fold add p.empty (filter used (filter test (range_with_len 0 n))))) (fold add p.empty (filter used (filter test (range_with_len 0 n))))
        = λ j. cond (test n) (cond (used n) (p.sum (same j) (here (side_at g v n) j)) (same j)) (same j) in
        let goal : ℕ → Type 0 = λ k. gather_over p shape (near_in shape st) v (suc n) ≡ fold add p.empty (filter used (filter test (range_with_len 0 k))) in
        subst goal (add-one n) (one ∙ two ∙ sym (fold_both_more add p.empty test used n))

    -- the fresh gather is the same
    pub fresh_same : (v : ℕ) → fresh p shape st v ≡ fresh_of p g s v
    fresh_same v = gathers_upto v (length g.edges) (omega arith)
