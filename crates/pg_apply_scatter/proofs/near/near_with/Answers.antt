use Rattle.std.proofs.Common.{◌≡◌, refl, ◌∙◌, ap}
use Rattle.pg_graph.specs.Multigraph.{opposite, end_of, end_at}
use Rattle.pg_mirrors.specs.Mirrors.{datum_at}
use Rattle.pg_gather.specs.Partials.{replica_of}
use Rattle.pg_apply_scatter.proofs.Reading.{end_datum}
use Rattle.pg_apply_scatter.proofs.near.near_with.Goals as goal

pub returns-clause-value : goal.returns-clause-value
returns-clause-value g c =
    let p = g.P.VertexProgram.meaning c.args._program.now in
    let graph = c.args.graph.now in
    let m = c.args.mirrors.now in
    let read = end_datum p graph m c.args.e c.args.local c.requires.replicas c.requires.local in
    let centre : c.datum.result ≡ replica_of m (end_at graph c.args.side c.args.e) = c.datum.ensures ∙ ap (datum_at m.values) c.end.ensures ∙ read c.args.side in
    let other : c.datum-2.result ≡ replica_of m (end_at graph (opposite c.args.side) c.args.e) = c.datum-2.ensures ∙ ap (datum_at m.values) (c.end-2.ensures ∙ ap (λ side. end_of side c.args.local) c.opposite.ensures) ∙ read (opposite c.args.side) in
    rw (c.edge_info.ensures.value, centre, other) refl
