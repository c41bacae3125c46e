use Rattle.std.proofs.Common.{◌≡◌, ◌+◌, ◌<◌, ◌++◌, List, ℕ, drop, get_or, length, sym, ◌∙◌, ap, subst, refl, arith}
use Rattle.std.specs.List.{flat_map}
use Rattle.pg_graph.specs.declared.edge.VertexInfo.{VertexInfo}
use Rattle.pg_law.specs.declared.values.Datum.{Datum}
use Rattle.pg_law.specs.Values.{one}
use Rattle.pg_law.specs.Configuration.{Configuration, datum_in}
use Rattle.pg_report.specs.Report.{ended}
use Rattle.std.proofs.lemmas.List.{at_drop_all, get_or_read}
use Rattle.std.proofs.lemmas.List.FromFn.{length-range_with_len}
use Rattle.std.proofs.lemmas.Result.{err_from_is_err_and}
use Rattle.pg_base.specs.Writing.{Sent}
use Rattle.pg_base.proofs.Sending.{sent_nothing, sent_whole}
use Rattle.pg_graph.specs.Multigraph.{vertices}
use Rattle.pg_report.specs.Report.{values_text, value_line, value_at}
use Rattle.pg_report.proofs.Sending.{sent_part, sent_front}
use Rattle.pg_report.proofs.Vertices.{lines_more}
use Rattle.pg_report.proofs.write.write_values.Goals as goal

pub loop-v-init : goal.loop-v-init
loop-v-init g c = record { sent = sent_nothing _ _; later = omega arith }

pub loop-v-preserved : goal.loop-v-preserved
loop-v-preserved g c =
    let graph = c.args.graph.now in
    let wide = c.args.wide in
    let state = c.args.state.now in
    let v = c.loop-v.v in
    let inside : v < length graph.ids = omega (arith, c.vertices-v-end.ensures.value) in
    let id = ap (λ (info : VertexInfo). info.id) c.info.ensures.value in
    let datum = get_or_read state.values v c.index.result.now (omega (arith, c.requires)) (c.index.ensures ∙ ap (λ (s : Configuration). get_or s.values v c.index.result.now) c.state.view_is) (one 0) in
    let line_is : value_at wide graph state v ≡ ended (value_line wide c.info.result.id c.index.result.now) = ap (λ (n : ℕ). ended (value_line wide n (datum_in state.values v))) (sym id) ∙ ap ((λ (d : Datum). ended (value_line wide c.info.result.id d))) (sym datum) in
    let rest = flat_map (value_at wide graph state) (drop (v + 1) (vertices graph)) in
    let next = lines_more (value_at wide graph state) (length graph.ids) v inside ∙ ap (λ (part : List ℕ). part ++ rest) line_is in
    let P : List ℕ → Type 0 = λ left. Sent (g.K.Sink.written c.args.sink.now) (g.K.Sink.written c.loop-v.sink) (values_text wide graph state) left in
    record {
      sent = sent_part (ended (value_line wide c.info.result.id c.index.result.now)) rest (subst P next c.loop-v.invariant.sent) c.in_ok-write_value.ensures.whole;
      later = omega (arith, c.loop-v.invariant.later, c.write_value.ensures.later);
    }

pub returns-in_err-write_value : goal.returns-in_err-write_value
returns-in_err-write_value g c =
    let p = err_from_is_err_and c.from_residual.result c.from_residual.ensures.1 in
    let graph = c.args.graph.now in
    let wide = c.args.wide in
    let state = c.args.state.now in
    let v = c.loop-v.v in
    let inside : v < length graph.ids = omega (arith, c.vertices-v-end.ensures.value) in
    let id = ap (λ (info : VertexInfo). info.id) c.info.ensures.value in
    let datum = get_or_read state.values v c.index.result.now (omega (arith, c.requires)) (c.index.ensures ∙ ap (λ (s : Configuration). get_or s.values v c.index.result.now) c.state.view_is) (one 0) in
    let line_is : value_at wide graph state v ≡ ended (value_line wide c.info.result.id c.index.result.now) = ap (λ (n : ℕ). ended (value_line wide n (datum_in state.values v))) (sym id) ∙ ap ((λ (d : Datum). ended (value_line wide c.info.result.id d))) (sym datum) in
    let rest = flat_map (value_at wide graph state) (drop (v + 1) (vertices graph)) in
    let next = lines_more (value_at wide graph state) (length graph.ids) v inside ∙ ap (λ (part : List ℕ). part ++ rest) line_is in
    let P : List ℕ → Type 0 = λ left. Sent (g.K.Sink.written c.args.sink.now) (g.K.Sink.written c.loop-v.sink) (values_text wide graph state) left in
    rw p.1 (record {
      whole = tt;
      front = sent_front (ended (value_line wide c.info.result.id c.index.result.now)) rest (subst P next c.loop-v.invariant.sent) c.in_err-write_value.ensures.front;
      cause = λ _. omega (arith, c.loop-v.invariant.later, c.in_err-write_value.ensures.cause refl);
      later = omega (arith, c.loop-v.invariant.later, c.write_value.ensures.later);
    })

pub returns : goal.returns
returns g c =
    let none = at_drop_all (flat_map (value_at c.args.wide c.args.graph.now c.args.state.now)) (vertices c.args.graph.now) c.loop-v.v (omega (arith, length-range_with_len 0 (length c.args.graph.now.ids))) in
    record {
      whole = sent_whole c.loop-v.invariant.sent none;
      front = tt;
      cause = λ e. absurd (cc);
      later = c.loop-v.invariant.later;
    }
