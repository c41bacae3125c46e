use Rattle.std.proofs.Common.{◌+◌, length, sym, ◌∙◌, ap, arith}
use Rattle.pg_graph.specs.declared.edge.VertexInfo.{VertexInfo}
use Rattle.pg_law.specs.Round.{edges_over}
use Rattle.pg_serial.proofs.Degrees.{over_none, over_into, over_out, over_all, few_over}
use Rattle.pg_serial.proofs.noted.degree_over.Goals as goal

pub returns-in-NoEdges-clause-value : goal.returns-in-NoEdges-clause-value
returns-in-NoEdges-clause-value c = sym (ap (λ d. length (edges_over d c.args.graph.now c.args.v)) c.in-NoEdges.is ∙ over_none c.args.graph.now c.vertices.ensures.graph c.args.v)

pub returns-in-InEdges-clause-value : goal.returns-in-InEdges-clause-value
returns-in-InEdges-clause-value c = ap (λ (x : VertexInfo). x.in_degree) c.info-info.ensures.value
    ∙ sym (ap (λ d. length (edges_over d c.args.graph.now c.args.v)) c.in-InEdges.is ∙ over_into c.args.graph.now c.vertices.ensures.graph c.args.v)

pub returns-in-OutEdges-clause-value : goal.returns-in-OutEdges-clause-value
returns-in-OutEdges-clause-value c = ap (λ (x : VertexInfo). x.out_degree) c.info-info.ensures.value
    ∙ sym (ap (λ d. length (edges_over d c.args.graph.now c.args.v)) c.in-OutEdges.is ∙ over_out c.args.graph.now c.vertices.ensures.graph c.args.v)

pub returns-in-AllEdges-clause-value : goal.returns-in-AllEdges-clause-value
returns-in-AllEdges-clause-value c = ap (λ (x : VertexInfo). x.in_degree + x.out_degree) c.info-info.ensures.value
    ∙ sym (ap (λ d. length (edges_over d c.args.graph.now c.args.v)) c.in-AllEdges.is ∙ over_all c.args.graph.now c.vertices.ensures.graph c.args.v)

pub returns-in-AllEdges-clause-few : goal.returns-in-AllEdges-clause-few
returns-in-AllEdges-clause-few c = omega (arith, few_over c.args.dir c.args.graph.now c.args.v c.vertices.ensures.graph, returns-in-AllEdges-clause-value c)
