use Rattle.std.proofs.Common.{◌+◌, length, sym, ◌∙◌, ap}
use Rattle.pg_graph.specs.declared.edge.VertexInfo.{VertexInfo}
use Rattle.pg_law.specs.Round.{edges_over}
use Rattle.pg_sync.proofs.Degrees.{over_none, over_into, over_out, over_all}
use Rattle.pg_sync.proofs.degree.degree_over.Goals as goal

pub returns-in-NoEdges : goal.returns-in-NoEdges
returns-in-NoEdges c = sym (ap (λ d. length (edges_over d c.args.graph.now c.args.v)) c.in-NoEdges.is ∙ over_none c.args.graph.now c.vertices.ensures.graph c.args.v)

pub returns-in-InEdges : goal.returns-in-InEdges
returns-in-InEdges c = ap (λ (x : VertexInfo). x.in_degree) c.info-info.ensures.value
    ∙ sym (ap (λ d. length (edges_over d c.args.graph.now c.args.v)) c.in-InEdges.is ∙ over_into c.args.graph.now c.vertices.ensures.graph c.args.v)

pub returns-in-OutEdges : goal.returns-in-OutEdges
returns-in-OutEdges c = ap (λ (x : VertexInfo). x.out_degree) c.info-info.ensures.value
    ∙ sym (ap (λ d. length (edges_over d c.args.graph.now c.args.v)) c.in-OutEdges.is ∙ over_out c.args.graph.now c.vertices.ensures.graph c.args.v)

pub returns-in-AllEdges : goal.returns-in-AllEdges
returns-in-AllEdges c = ap (λ (x : VertexInfo). x.in_degree + x.out_degree) c.info-info.ensures.value
    ∙ sym (ap (λ d. length (edges_over d c.args.graph.now c.args.v)) c.in-AllEdges.is ∙ over_all c.args.graph.now c.vertices.ensures.graph c.args.v)
