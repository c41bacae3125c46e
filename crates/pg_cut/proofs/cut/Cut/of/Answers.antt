use Rattle.std.proofs.Common.{◌≡◌, ℕ, List, [], length, get_or, map, count_by, ◌==◌, ap, ◌∙◌, arith}
use Rattle.std.specs.Prelude.{filter, sum_by, slice_index}
use Rattle.std.specs.List.{range_with_len}
use Rattle.std.proofs.lemmas.List.FromFn.{length-map-range_with_len}
use Rattle.pg_graph.specs.Multigraph.{vertices}
use Rattle.pg_cut.specs.WorkerSet.{has, workers_in, is_in}
use Rattle.pg_cut.specs.Cut.{master_of, edges_on, span_of}
use Rattle.pg_cut.proofs.Kept.{masters_are, vertices_are, map_agree_below, made_cut, lists_for, counts_for}
use Rattle.pg_cut.proofs.cut.Cut.of.Goals as goal

-- how many edges are on a worker, and how many sets have it
abbrev loads : List ℕ → ℕ → ℕ
loads place w = count_by (λ x. x == w) place

abbrev helds : List ℕ → ℕ → ℕ
helds bits w = count_by (is_in w) (map workers_in bits)

pub edges_by_worker-requires-clause-place : goal.edges_by_worker-requires-clause-place
edges_by_worker-requires-clause-place c =
    let load = counts_for loads c.args.place.items c.as_slice-placed.result.now c.args.workers c.in_ok-loads.loads.items c.in_ok-loads.ensures c.as_slice-placed.ensures.value in
    let count : length c.as_slice.result.now ≡ c.args.workers = ap length c.as_slice.ensures.value ∙ load.1 in
    rw (c.as_slice-placed.ensures.value, count) c.requires.each

pub vertices_by_worker-requires-clause-within : goal.vertices_by_worker-requires-clause-within
vertices_by_worker-requires-clause-within c =
    let held = counts_for helds c.in_ok-spans.spans.items c.as_slice-bits.result.now c.args.workers c.in_ok-held.held.items c.in_ok-held.ensures c.as_slice-bits.ensures.value in
    let count : length c.as_slice-2.result.now ≡ c.args.workers = ap length c.as_slice-2.ensures.value ∙ held.1 in
    rw (c.as_slice-bits.ensures.value, count) c.in_ok-spans.ensures.within

pub invariant_of-result : goal.invariant_of-result
invariant_of-result c =
    let g = c.args.graph.now in
    let n = c.args.workers in
    let place = c.args.place.items in
    let bits = c.in_ok-spans.spans.items in
    let load = counts_for loads place c.as_slice-placed.result.now n c.in_ok-loads.loads.items c.in_ok-loads.ensures c.as_slice-placed.ensures.value in
    let held = counts_for helds bits c.as_slice-bits.result.now n c.in_ok-held.held.items c.in_ok-held.ensures c.as_slice-bits.ensures.value in
    record {
      some = c.requires.some;
      few = c.requires.few;
      placed = c.requires.each;
      masters_are = c.in_ok-masters.ensures ∙ ap (λ (bits : List ℕ). map (λ v. master_of (workers_in (slice_index bits v)) v) (range_with_len 0 (length bits))) c.as_slice-bits.ensures.value ∙ masters_are n place bits;
      loads_are = load.0;
      held_are = held.0;
      replicas_are = c.replicas_of-replicas.ensures ∙ ap (λ (bits : List ℕ). sum_by length (map workers_in bits)) c.as_slice-bits.ensures.value;
      edges_are = lists_for edges_on place c.as_slice-placed.result.now c.in_ok-loads.loads.items c.as_slice.result.now n _ c.in_ok-edges.ensures c.as_slice-placed.ensures.value c.as_slice.ensures.value load.1;
      vertices_are = lists_for (λ (xs : List ℕ) (w : ℕ). filter (λ v. has (get_or xs v 0) w) (range_with_len 0 (length xs))) bits c.as_slice-bits.result.now c.in_ok-held.held.items c.as_slice-2.result.now n _
          c.in_ok-vertices.ensures c.as_slice-bits.ensures.value c.as_slice-2.ensures.value held.1
          ∙ map_agree_below _ _ [] n (λ w h. vertices_are n place bits w (omega (arith, c.requires.few)));
    }

pub returns-clause-value : goal.returns-clause-value
returns-clause-value c =
    let g = c.args.graph.now in
    made_cut g c.args.workers c.args.place.items c.in_ok-spans.spans.items
    (c.in_ok-spans.ensures.value ∙ ap (λ (xs : List ℕ). map (span_of g c.args.workers xs) (vertices g)) c.as_slice-placed.ensures.value)

pub returns-clause-cut : goal.returns-clause-cut
returns-clause-cut c =
    let g = c.args.graph.now in
    record {
      placed = c.requires;
      count = ap length c.in_ok-spans.ensures.value ∙ length-map-range_with_len (span_of g c.args.workers c.as_slice-placed.result.now) 0 (length g.ids);
      spans_are = c.in_ok-spans.ensures.value ∙ ap (λ (xs : List ℕ). map (span_of g c.args.workers xs) (vertices g)) c.as_slice-placed.ensures.value;
    }
