-- The replicas on a worker: its vertices, ascending, among them both ends of each of its edges.
use Rattle.std.proofs.Common.{◌≡◌, ℕ, ◌+◌, ◌<◌, ◌≤◌, true, false, ◌==◌, ◌||◌, [], length, get_or, refl, sym, ◌∙◌, ap, arith}
use Rattle.std.specs.Prelude.{filter, All, AllPairs, Contains}
use Rattle.std.specs.List.{range_with_len, list_any}
use Rattle.std.specs.List.Sorted.{IsStrictlyIncreasing}
use Rattle.std.proofs.Math.Bool.{or-true}
use Rattle.std.proofs.lemmas.Bool.{eq-eqb, ne_eqb}
use Rattle.std.proofs.lemmas.List.{get_or_default}
use Rattle.std.proofs.lemmas.List.Folds.{list_any_at}
use Rattle.std.proofs.lemmas.List.Kept.{AllPairs-filter}
use Rattle.std.proofs.lemmas.List.FromFn.{length-range_with_len, get_or-range_with_len, get_or-map-range_with_len}
use Rattle.pg_graph.specs.declared.edge.Edge.{Edge}
use Rattle.pg_graph.specs.declared.edge.Side.{Side}
use Rattle.pg_graph.specs.declared.edge.Side.TheVariants.{Source, Target}
use Rattle.pg_graph.specs.Multigraph.{Multigraph, IsMultigraph, edge_at, edges_at, end_of, end_at, is_at}
use Rattle.pg_graph.proofs.Numbers.{filter_numbers_each, length_filter_within}
use Rattle.pg_cut.specs.WorkerSet.{is_in}
use Rattle.pg_cut.specs.Cut.{Division, IsCutOf, vertices_on, span_in, span_of, in_span}
use Rattle.pg_cut.proofs.Kept.{is_in-workers_that}
use Rattle.pg_cut.proofs.Passing.{passing_longer, passing_at}

-- replicas are where spans have the worker
module _ (cut : Division) (worker : ℕ) where
  pub spans_have : (v : ℕ) → Contains (vertices_on cut worker) v → is_in worker (span_in cut v) ≡ true
  spans_have v there = let each = filter_numbers_each (λ u. is_in worker (span_in cut u)) (length cut.spans) there.0 v there.1 in ap (λ u. is_in worker (span_in cut u)) (sym there.2) ∙ each.1

  pub has_replica : (v : ℕ) → v < length cut.spans → is_in worker (span_in cut v) ≡ true → Contains (vertices_on cut worker) v
  has_replica v h t =
      let p = λ (u : ℕ). is_in worker (span_in cut u) in
      let place = length (filter p (range_with_len 0 v)) in
      let inside = passing_longer p v (length cut.spans) h t in
      (place, inside, get_or_default (vertices_on cut worker) place v 0 inside ∙ passing_at p v (length cut.spans) h t)

-- the vertices of a worker ascend, and are vertices of the graph
pub vertices_rise : (cut : Division) (worker : ℕ) → IsStrictlyIncreasing (vertices_on cut worker)
vertices_rise cut worker = λ k h. AllPairs-filter (λ a b. a < b) (λ v. is_in worker (span_in cut v)) (range_with_len 0 (length cut.spans)) numbers_rise k (k + 1) 0 (omega arith) h
  where
    numbers_rise : AllPairs (λ a b. a < b) (range_with_len 0 (length cut.spans))
    numbers_rise = λ i j d lt h. let below : j < length cut.spans = omega (arith, length-range_with_len 0 (length cut.spans)) in
        rw (get_or-range_with_len 0 (length cut.spans) i d (omega arith), get_or-range_with_len 0 (length cut.spans) j d below) (omega arith)

pub vertices_inside : (cut : Division) (worker : ℕ) → All (λ v. v < length cut.spans) (vertices_on cut worker)
vertices_inside cut worker = λ k d h. (filter_numbers_each (λ v. is_in worker (span_in cut v)) (length cut.spans) k d h).0

pub vertices_fewer : (cut : Division) (worker : ℕ) → length (vertices_on cut worker) ≤ length cut.spans
vertices_fewer cut worker = omega (arith, length_filter_within (λ v. is_in worker (span_in cut v)) (range_with_len 0 (length cut.spans)), length-range_with_len 0 (length cut.spans))

-- an edge is at each of its ends
at_end : (side : Side) (edge : Edge) → is_at (end_of side edge) edge ≡ true
at_end Source edge = ap (λ b. b || (edge.dst == edge.src)) (eq-eqb edge.src edge.src refl)
at_end Target edge = ap (λ b. (edge.src == edge.dst) || b) (eq-eqb edge.dst edge.dst refl) ∙ or-true (edge.src == edge.dst)

module _ (g : Multigraph) (cut : Division) (worker : ℕ) (is : IsCutOf g cut) (within : worker < cut.workers) where
  -- the span of an end has the edge's worker
  end_in_span : (e : ℕ) (side : Side) → e < length g.edges → (get_or cut.place e 0 == worker) ≡ true → in_span g cut.workers cut.place (end_at g side e) worker ≡ true
  end_in_span e side h placed =
      let v = end_at g side e in
      let at = λ (k : ℕ). is_at v (edge_at g k) in
      let here = at_end side (edge_at g e) in
      let i = length (filter at (range_with_len 0 e)) in
      let inside : i < length (edges_at g v) = passing_longer at e (length g.edges) h here in
      let found : list_any (λ k. get_or cut.place k 0 == worker) (edges_at g v) ≡ true = list_any_at (λ k. get_or cut.place k 0 == worker) (edges_at g v) i 0 inside
      (ap (λ k. get_or cut.place k 0 == worker) (passing_at at e (length g.edges) h here) ∙ placed) in
      let some : (length (edges_at g v) == 0) ≡ false = ne_eqb _ 0 (λ none. absurd (omega (arith, none, inside))) in
      rw some found

  -- so it has a replica there
  pub end_replica : IsMultigraph g → (e : ℕ) (side : Side) → e < length g.edges → (get_or cut.place e 0 == worker) ≡ true → Contains (vertices_on cut worker) (end_at g side e)
  end_replica ok e side h placed =
      let v = end_at g side e in
      let below : v < length g.ids = inside side in
      let span = ap (λ spans. get_or spans v []) is.spans_are ∙ get_or-map-range_with_len (span_of g cut.workers cut.place) 0 (length g.ids) v v [] below (omega arith) in
      let few = is.placed.few in
      has_replica cut worker v (omega (arith, below, is.count))
      (ap (is_in worker) span ∙ is_in-workers_that (in_span g cut.workers cut.place v) worker (omega (arith, few, within)) ∙ end_in_span e side h placed)
    where
      inside : (side : Side) → end_at g side e < length g.ids
      inside Source = (ok.edge e h).src
      inside Target = (ok.edge e h).dst
