use Rattle.std.proofs.Common.{length, map, sym, ◌∙◌, ap, arith}
use Rattle.std.specs.Prelude.{slice_index}
use Rattle.std.specs.List.{range_with_len}
use Rattle.std.proofs.lemmas.List.{length-map}
use Rattle.pg_graph.specs.Multigraph.{edges_around}
use Rattle.pg_cut.proofs.Replicas.{vertices_rise, vertices_inside, vertices_fewer}
use Rattle.pg_edge_store.proofs.Standing.{numbers_inside, numbers_fewer, ends_inside, graph_on}
use Rattle.pg_edge_store.proofs.store.EdgeStore.with_words.Goals as goal

pub of-requires : goal.of-requires
of-requires c = rw (c.as_slice.ensures.value ∙ c.in_ok-numbers.ensures.items ∙ c.edges_on.ensures, c.requires.words, sym c.requires.cut.placed.count)
    (numbers_inside c.args.cut.now.place c.args.worker)

pub edges_between-requires-clause-numbers : goal.edges_between-requires-clause-numbers
edges_between-requires-clause-numbers c = rw (c.as_slice-2.ensures.value ∙ c.in_ok-numbers.ensures.items ∙ c.edges_on.ensures, sym c.requires.cut.placed.count)
    (numbers_inside c.args.cut.now.place c.args.worker)

pub edges_between-requires-clause-ascending : goal.edges_between-requires-clause-ascending
edges_between-requires-clause-ascending c = rw c.vertices_on-vertices.ensures (vertices_rise c.args.cut.now c.args.worker)

pub edges_between-requires-clause-within : goal.edges_between-requires-clause-within
edges_between-requires-clause-within c = rw (c.vertices_on-vertices.ensures, sym c.requires.cut.count) (vertices_inside c.args.cut.now c.args.worker)

pub edges_between-requires-clause-few : goal.edges_between-requires-clause-few
edges_between-requires-clause-few c =
    omega (arith, ap length c.vertices_on-vertices.ensures, vertices_fewer c.args.cut.now c.args.worker, c.requires.cut.count, c.vertices.ensures.graph.vertex_count)

pub edges_between-requires-clause-ends : goal.edges_between-requires-clause-ends
edges_between-requires-clause-ends c = rw (c.vertices_on-vertices.ensures, c.as_slice-2.ensures.value ∙ c.in_ok-numbers.ensures.items ∙ c.edges_on.ensures)
    (ends_inside c.args.graph.now c.vertices.ensures.graph c.args.cut.now c.args.worker c.requires.cut c.requires.worker)

pub rows_of-requires : goal.rows_of-requires
rows_of-requires c = rw c.as_slice-3.ensures.value
    (graph_on c.args.graph.now c.vertices.ensures.graph c.args.cut.now c.args.worker c.requires.cut c.as_slice-2.result.now c.vertices_on-vertices.result.now c.in_ok-edges.edges.items
    (c.as_slice-2.ensures.value ∙ c.in_ok-numbers.ensures.items ∙ c.edges_on.ensures) c.vertices_on-vertices.ensures c.in_ok-edges.ensures)

pub of-requires-2-clause-ascending : goal.of-requires-2-clause-ascending
of-requires-2-clause-ascending c = rw (c.in_ok-from_slice.ensures.items ∙ c.vertices_on-vertices.ensures) (vertices_rise c.args.cut.now c.args.worker)

pub of-requires-2-clause-few : goal.of-requires-2-clause-few
of-requires-2-clause-few c =
    omega (arith, ap length (c.in_ok-from_slice.ensures.items ∙ c.vertices_on-vertices.ensures), vertices_fewer c.args.cut.now c.args.worker, c.requires.cut.count, c.vertices.ensures.graph.vertex_count)

pub invariant_of-result : goal.invariant_of-result
invariant_of-result c =
    let edges = c.in_ok-edges.edges.items in
    let kept = c.in_ok-vertices.ensures ∙ c.in_ok-from_slice.ensures.items in
    record {
      few = omega (arith, ap length (c.in_ok-numbers.ensures.items ∙ c.edges_on.ensures), numbers_fewer c.args.cut.now.place c.args.worker, c.requires.cut.placed.count, c.vertices.ensures.graph.edge_count);
      words_count = ap length c.in_ok-own.ensures ∙ length-map c.as_slice.result.now (slice_index c.args.words.now) ∙ ap length c.as_slice.ensures.value;
      edges_count = c.in_ok-edges.ensures.count ∙ ap length c.as_slice-2.ensures.value;
      rows_are = c.in_ok-rows.ensures ∙ ap (λ es. map (edges_around es) (range_with_len 0 (length c.vertices_on-vertices.result.now))) c.as_slice-3.ensures.value
          ∙ ap (λ n. map (edges_around edges) (range_with_len 0 n)) (ap length (sym kept));
    }
