use Rattle.std.proofs.Common.{ℕ, ◌<◌, List, [], ◌∷◌, ◌++◌, cond, length, get_or, ◌∙◌, ap, arith}
use Rattle.std.specs.Prelude.{slice_index}
use Rattle.pg_graph.specs.Multigraph.{edges_at}
use Rattle.pg_serial.specs.declared.scatter.Sent.{Sent}
use Rattle.pg_serial.specs.Sending.{sent_over, tells, is_news, IsAddressed}
use Rattle.pg_serial.proofs.Noting.{noted_more, noted_own}
use Rattle.pg_serial.proofs.scatter.scatter_around.Goals as goal

pub loop-e-preserved : goal.loop-e-preserved
loop-e-preserved g c = let p = g.P.VertexProgram.meaning c.args.program.now in
    let graph = c.args.graph.now in
    let words = c.args.words.now in
    let i = c.loop-e.e-index in
    let items = c.edges_of-e-items.result.now in
    let old = c.loop-e.sents.items in
    let inside : i < length (edges_at graph c.args.u) = omega (arith, c.loop-e-test.true, ap length c.edges_of-e-items.ensures.value) in
    let f = sent_over p graph c.args.values.now words c.args.u c.args.applied in
    let e = get_or items i 0 in
    let sent = c.in_ok-sent.sent in
    record {
      value = noted_more f (tells p graph c.args.values.now words c.args.u c.args.applied) (edges_at graph c.args.u) i old c.note.new.sents.items inside c.loop-e.invariant.value
          (c.in_ok-note.ensures ∙ ap (λ word. cond (is_news word sent) (old ++ sent ∷ []) old) c.word.ensures
          ∙ ap (λ (sent : Sent). cond (is_news (slice_index words e) sent) (old ++ sent ∷ []) old) c.in_ok-sent.ensures.value
          ∙ ap (λ (edges : List ℕ). let e = get_or edges i 0 in cond (is_news (slice_index words e) (f e)) (old ++ f e ∷ []) old) c.edges_of-e-items.ensures.value);
      at = omega (arith, c.loop-e.invariant.at);
      own = noted_own (IsAddressed p (length graph.edges) (length graph.ids)) _ sent old c.note.new.sents.items c.loop-e.invariant.own c.in_ok-sent.ensures.own c.in_ok-note.ensures;
    }
