use Rattle.std.proofs.Common.{◌<◌, ◌∙◌, sym, subst, List, get_or, length, ap, arith}
use Rattle.std.proofs.lemmas.List.{get_or_read}
use Rattle.pg_graph.specs.declared.edge.Edge.{Edge}
use Rattle.pg_graph.specs.Multigraph.{end_of, no_edge}
use Rattle.pg_law.proofs.Fitting.{end_within}
use Rattle.pg_rounds.proofs.gather.gather_end.Goals as goal

pub sum-requires-clause-a : goal.sum-requires-clause-a
sum-requires-clause-a g c = let p = g.P.VertexProgram.meaning c.args.program.now in
    let graph = c.args.graph.now in
    let at = c.end-u.ensures ∙ ap (λ (edges : List Edge). end_of c.args.side (get_or edges c.args.e no_edge)) c.edges.ensures.value in
    let within : c.end-u.result < length graph.ids = rw at (end_within p graph c.laws_of.ensures c.edges.ensures.graph c.args.side c.args.e c.requires.e) in
    let read = get_or_read c.args.accs.now c.end-u.result c.index-accs-u.result (omega (arith, c.requires.accs.count)) c.index-accs-u.is p.empty in
    let P : g.row.P-Acc.Denot → Type 0 = λ acc. p.IsAcc acc in
    subst P (sym (c.replace-old.ensures.value ∙ sym c.index-accs-u.is ∙ read)) (c.requires.accs.each c.end-u.result within)
