use Rattle.std.proofs.Common.{◌∙◌, ap, refl}
use Rattle.pg_graph.specs.Multigraph.{opposite, end_of, edge_info}
use Rattle.pg_mirrors.specs.Mirrors.{datum_at}
use Rattle.pg_gather.proofs.Reading.{near_is, end_datum}
use Rattle.pg_gather.proofs.near.near_at.Goals as goal

pub returns-clause-value : goal.returns-clause-value
returns-clause-value g c =
    let p = g.P.VertexProgram.meaning c.args._program.now in
    let graph = c.args.graph.now in
    let store = c.args.store.now in
    let mirrors = c.args.mirrors.now in
    let read = end_datum p graph store mirrors c.requires.readable c.args.place c.requires.place in
    near_is graph store mirrors c.args.side c.args.place _ _ _ _ (
      c.edge_info.ensures.value ∙ ap (edge_info graph) c.edge.ensures,
      c.word.ensures,
      c.requires.centre ∙ ap (λ local. datum_at mirrors.values (end_of c.args.side local)) c.requires.local ∙ read c.args.side,
      c.datum.ensures ∙ ap (datum_at mirrors.values) (c.end.ensures ∙ rw (c.opposite.ensures, c.requires.local) refl) ∙ read (opposite c.args.side),
    )
