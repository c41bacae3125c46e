use Rattle.std.proofs.Common.{◌≡◌, length, map, sym, ap, ◌∙◌, arith}
use Rattle.std.specs.List.{range_with_len}
use Rattle.std.proofs.lemmas.List.FromFn.{length-map-range_with_len}
use Rattle.pg_graph.specs.Multigraph.{vertices}
use Rattle.pg_cut.proofs.Kept.{spans_some, in_span_within}
use Rattle.std.proofs.lemmas.List.{map_push, length-map}
use Rattle.std.proofs.lemmas.List.Elements.{filter_agree, All-push}
use Rattle.pg_graph.proofs.Numbers.{grown}
use Rattle.pg_cut.specs.WorkerSet.{workers_in, has, all_workers, IsWithin}
use Rattle.pg_cut.specs.Cut.{span_of, in_span}
use Rattle.pg_cut.proofs.span.spans_of.Goals as goal

pub loop-v-preserved : goal.loop-v-preserved
loop-v-preserved c = let g = c.args.graph.now in
    let v = c.loop-v.v in
    record {
      value = ap (map workers_in) c.in_ok-push.ensures.items ∙ map_push workers_in c.loop-v.spans.items c.span_bits.result
          ∙ grown (span_of g c.args.workers c.args.place.now) v _ _ c.loop-v.invariant.value (filter_agree (has c.span_bits.result) (in_span g c.args.workers c.args.place.now v) c.span_bits.ensures all_workers);
      within = rw c.in_ok-push.ensures.items (All-push (IsWithin c.args.workers) c.loop-v.spans.items c.span_bits.result c.loop-v.invariant.within (λ w t. in_span_within g c.args.workers c.args.place.now c.requires v w (sym (c.span_bits.ensures w) ∙ t)));
    }

value : (c : goal.After-loop-v) → map workers_in c.loop-v.spans.items ≡ map (span_of c.args.graph.now c.args.workers c.args.place.now) (vertices c.args.graph.now)
value c = let all : c.loop-v.v ≡ length c.args.graph.now.ids = omega (arith, c.vertices-v-end.ensures.value) in
    c.loop-v.invariant.value ∙ ap (λ n. map (span_of c.args.graph.now c.args.workers c.args.place.now) (range_with_len 0 n)) all

pub returns-clause-few : goal.returns-clause-few
returns-clause-few c = omega (arith, ap length (value c), length-map c.loop-v.spans.items workers_in, length-map-range_with_len (span_of c.args.graph.now c.args.workers c.args.place.now) 0 (length c.args.graph.now.ids), c.vertices-v-end.ensures.graph.vertex_count)

pub returns-clause-some : goal.returns-clause-some
returns-clause-some c = spans_some c.args.graph.now c.args.workers c.args.place.now c.loop-v.spans.items c.requires (value c)
