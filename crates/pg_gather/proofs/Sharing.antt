-- The share of one worker of a cut: what is read there is what the state has.
use Rattle.std.proofs.Common.{◌≡◌, ℕ, suc, ◌+◌, ◌<◌, Bool, true, false, ◌==◌, ◌||◌, List, [], ◌∷◌, length, get_or, map, refl, sym, subst, ◌∙◌, ap, arith}
use Rattle.std.specs.Prelude.{All, Contains, filter, fold, slice_index}
use Rattle.std.specs.List.{range_with_len, list_any}
use Rattle.std.proofs.lemmas.Bool.{eq-eqb, ne_eqb}
use Rattle.std.proofs.lemmas.List.{get_or-map, length-map, get_or_default}
use Rattle.std.proofs.lemmas.List.FromFn.{get_or-map-range_with_len}
use Rattle.std.proofs.lemmas.List.Folds.{list_any_at}
use Rattle.pg_graph.specs.declared.edge.Edge.{Edge}
use Rattle.pg_graph.specs.declared.edge.Side.{Side}
use Rattle.pg_graph.specs.declared.edge.Side.TheVariants.{Source, Target}
use Rattle.pg_graph.specs.Multigraph.{Multigraph, IsMultigraph, edge_at, edges_at, end_of, end_at, side_at, is_at, opposite}
use Rattle.pg_graph.proofs.Numbers.{filter_numbers_each}
use Rattle.pg_law.specs.declared.values.Datum.{Datum}
use Rattle.pg_law.specs.Values.{one}
use Rattle.pg_law.specs.Program.{Program}
use Rattle.pg_law.specs.Configuration.{Configuration, IsFit, datum_in}
use Rattle.pg_law.specs.Round.{near_of, gathered, sum_over, edges_over}
use Rattle.pg_law.specs.Monoid.{part}
use Rattle.pg_cut.specs.WorkerSet.{is_in}
use Rattle.pg_cut.specs.Cut.{Division, IsCutOf, edges_on, vertices_on, span_in, span_of, in_span}
use Rattle.pg_cut.proofs.Kept.{is_in-workers_that}
use Rattle.pg_cut.proofs.Passing.{passing_longer, passing_at}
use Rattle.pg_edge_store.specs.Store.{Store, places_around}
use Rattle.pg_edge_store.proofs.Places.{around_is}
use Rattle.pg_mirrors.specs.Mirrors.{Mirrors, datum_at}
use Rattle.pg_mirrors.proofs.Pushing.{replicas_in_spans, vertices_rise, vertices_inside}
use Rattle.pg_gather.specs.Partials.{replica_of, near_at, gathered_at, partial_sum, IsReadable, IsReadableAt}
use Rattle.pg_gather.specs.Shares.{IsShareOf}
use Rattle.pg_gather.proofs.Reading.{replica_at, around_each}

-- an edge is at each of its ends
pub at_end : (side : Side) (edge : Edge) → is_at (end_of side edge) edge ≡ true
at_end Source edge = ap (λ b. b || (edge.dst == edge.src)) (eq-eqb edge.src edge.src refl)
at_end Target edge = ap (λ b. (edge.src == edge.dst) || b) (eq-eqb edge.dst edge.dst refl) ∙ or_true (edge.src == edge.dst)
  where
    or_true : (b : Bool) → (b || true) ≡ true
    or_true true = refl
    or_true false = refl

module _ (g : Multigraph) (cut : Division) (worker : ℕ) (is : IsCutOf g cut) (within : worker < cut.workers) where
  -- the span of an end of an edge has the edge's worker
  end_in_span : (e : ℕ) (side : Side) → e < length g.edges → (get_or cut.place e 0 == worker) ≡ true → in_span g cut.workers cut.place (end_at g side e) worker ≡ true
  end_in_span e side h placed =
      let v = end_at g side e in
      let at = λ (k : ℕ). is_at v (edge_at g k) in
      let here = at_end side (edge_at g e) in
      let i = length (filter at (range_with_len 0 e)) in
      let inside : i < length (edges_at g v) = passing_longer at e (length g.edges) h here in
      let found : list_any (λ k. get_or cut.place k 0 == worker) (edges_at g v) ≡ true = list_any_at (λ k. get_or cut.place k 0 == worker) (edges_at g v) i 0 inside
      (ap (λ k. get_or cut.place k 0 == worker) (passing_at at e (length g.edges) h here) ∙ placed) in
      let some : (length (edges_at g v) == 0) ≡ false = ne_eqb _ 0 (λ none. absurd (omega (arith, none, inside))) in
      rw some found

  pub end_has_replica : IsMultigraph g → (e : ℕ) (side : Side) → e < length g.edges → (get_or cut.place e 0 == worker) ≡ true → Contains (vertices_on cut worker) (end_at g side e)
  end_has_replica ok e side h placed =
      let v = end_at g side e in
      let below : v < length g.ids = inside side in
      let span : span_in cut v ≡ span_of g cut.workers cut.place v = ap (λ spans. get_or spans v []) is.spans_are ∙ get_or-map-range_with_len (span_of g cut.workers cut.place) 0 (length g.ids) v v [] below (omega arith) in
      let few = is.placed.few in
      (replicas_in_spans cut worker v (omega (arith, below, is.count))).1
      (ap (is_in worker) span ∙ is_in-workers_that (in_span g cut.workers cut.place v) worker (omega (arith, few, within)) ∙ end_in_span e side h placed)
    where
      inside : (side : Side) → end_at g side e < length g.ids
      inside Source = (ok.edge e h).src
      inside Target = (ok.edge e h).dst

  -- each edge of the worker is one of the graph, and its ends have replicas
  pub edges_readable : IsMultigraph g → (m : Mirrors) → m.vertices ≡ vertices_on cut worker → All (IsReadableAt g m) (edges_on cut.place worker)
  edges_readable ok m vertices i d h =
      let each = filter_numbers_each (λ e. get_or cut.place e 0 == worker) (length cut.place) i d h in
      let below : get_or (edges_on cut.place worker) i d < length g.edges = omega (arith, each.0, is.placed.count) in
      record {
        edge = below;
        ends = λ side. rw vertices (end_has_replica ok (get_or (edges_on cut.place worker) i d) side below each.1);
      }

-- the replica of a vertex has its datum
pub replica_is : (vertices : List ℕ) (values : List Datum) (v : ℕ) → ((i : ℕ) → i + 1 < length vertices → get_or vertices i 0 < get_or vertices (i + 1) 0) → Contains vertices v → replica_of (record { vertices = vertices; values = map (datum_at values) vertices }) v ≡ datum_in values v
replica_is vertices values v up has =
    let at = get_or_default vertices has.0 0 v has.1 ∙ has.2 in
    sym (replica_at (record { vertices = vertices; values = map (datum_at values) vertices }) v has.0 up has.1 at)
    ∙ get_or-map (datum_at values) vertices has.0 0 (one 0) has.1 ∙ ap (datum_at values) at

module _ {Acc Carry : Type 0} (p : Program Acc Carry) (g : Multigraph) (cut : Division) (worker : ℕ) (s : Configuration) (store : Store) (mirrors : Mirrors)
    (ok : IsMultigraph g) (is : IsCutOf g cut) (within : worker < cut.workers) (share : IsShareOf g cut worker s store mirrors) where
  pub word_is : (i : ℕ) → i < length store.numbers → get_or store.words i 0 ≡ get_or s.edges (get_or store.numbers i 0) 0
  word_is i h = ap (λ ws. get_or ws i 0) share.words ∙ get_or-map (slice_index s.edges) store.numbers i 0 0 h

  pub vertices_are : mirrors.vertices ≡ vertices_on cut worker
  vertices_are = ap (λ (m : Mirrors). m.vertices) share.replicas

  pub all_readable : All (IsReadableAt g mirrors) store.numbers
  all_readable = rw share.edges.numbers (edges_readable g cut worker is within ok mirrors vertices_are)

  -- a share can be read
  pub readable : IsFit p g s → IsReadable p g store mirrors
  readable fit = record {
    over = share.edges.over;
    vertices = share.edges.vertices ∙ sym vertices_are;
    edges = all_readable;
    words = λ i h. subst p.IsWord (sym (word_is i h)) (fit.words.each _ (all_readable i 0 h).edge);
    ascending = rw vertices_are (vertices_rise cut worker);
    values = λ i h. own fit i (rw vertices_are at h);
  }
    where
      own : IsFit p g s → (i : ℕ) → i < length (vertices_on cut worker) → p.IsDatum (datum_at mirrors.values i)
      own fit i h =
          let v = get_or (vertices_on cut worker) i 0 in
          let value : datum_at mirrors.values i ≡ datum_in s.values v = ap (λ (m : Mirrors). datum_at m.values i) share.replicas ∙ get_or-map (datum_at s.values) (vertices_on cut worker) i 0 (one 0) h in
          subst p.IsDatum (sym value) (fit.values.each v (omega (arith, vertices_inside cut worker i 0 h, is.count)))

  -- each replica has the datum of the state
  pub datum_is : (v : ℕ) → Contains mirrors.vertices v → replica_of mirrors v ≡ datum_in s.values v
  datum_is v has = ap (λ m. replica_of m v) share.replicas ∙ replica_is (vertices_on cut worker) s.values v (vertices_rise cut worker) (rw vertices_are at has)

  -- an edge that is read here is the edge of the state
  near_is_of : (side : Side) (i : ℕ) → i < length store.numbers → near_at g store mirrors side i ≡ near_of g s.values side (get_or store.numbers i 0) (get_or s.edges (get_or store.numbers i 0) 0)
  near_is_of side i h = let e = get_or store.numbers i 0 in
      let ends = (all_readable i 0 h).ends in
      rw (word_is i h, datum_is (end_at g side e) (ends side), datum_is (end_at g (opposite side) e) (ends (opposite side))) refl

  -- a sum over places is the sum over their edges
  sums_are : (u : ℕ) (acc : Acc) (places : List ℕ) → All (λ i. i < length store.numbers) places
      → fold (λ acc i. p.sum acc (gathered_at p g store mirrors u i)) acc places ≡ fold (λ acc e. p.sum acc (gathered p g s.values s.edges u e)) acc (map (λ i. get_or store.numbers i 0) places)
  sums_are u acc [] inside = refl
  sums_are u acc (i ∷ places) inside =
      ap (λ near. fold (λ acc i. p.sum acc (gathered_at p g store mirrors u i)) (p.sum acc (p.gather near)) places) (near_is_of (side_at g u (get_or store.numbers i 0)) i (inside 0 0 (omega arith)))
      ∙ sums_are u (p.sum acc (gathered p g s.values s.edges u (get_or store.numbers i 0))) places (λ k d h. inside (suc k) d (omega arith))

  -- the partial sum here is the sum over the worker's part of the gather edges
  pub partial_is : (u : ℕ) → partial_sum p g store mirrors u ≡ sum_over p g s.values s.edges u (part (slice_index cut.place) worker (edges_over p.gather_edges g u))
  partial_is u = sums_are u p.empty (places_around g store.numbers u p.gather_edges) (λ i d h. (around_each g store.numbers u p.gather_edges i d h).0)
      ∙ ap (sum_over p g s.values s.edges u) (edges_are share.edges.numbers)
    where
      edges_are : store.numbers ≡ edges_on cut.place worker → map (λ i. get_or store.numbers i 0) (places_around g store.numbers u p.gather_edges) ≡ part (slice_index cut.place) worker (edges_over p.gather_edges g u)
      edges_are same = rw same (around_is g cut.place worker u p.gather_edges is.placed.count)

  -- as many places as edges
  pub places_count : (u : ℕ) → length (places_around g store.numbers u p.gather_edges) ≡ length (part (slice_index cut.place) worker (edges_over p.gather_edges g u))
  places_count u = sym (length-map (places_around g store.numbers u p.gather_edges) (λ i. get_or store.numbers i 0)) ∙ ap length (edges_are share.edges.numbers)
    where
      edges_are : store.numbers ≡ edges_on cut.place worker → map (λ i. get_or store.numbers i 0) (places_around g store.numbers u p.gather_edges) ≡ part (slice_index cut.place) worker (edges_over p.gather_edges g u)
      edges_are same = rw same (around_is g cut.place worker u p.gather_edges is.placed.count)
