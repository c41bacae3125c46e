use Rattle.std.proofs.Common.{◌≡◌, ◌∙◌, ap, sym, subst}
use Rattle.pg_graph.specs.declared.edge.Side.{Side}
use Rattle.pg_graph.specs.Multigraph.{opposite, end_of, edge_info}
use Rattle.pg_edge_store.specs.Store.{local_at}
use Rattle.pg_gather.proofs.Reading.{near_is}
use Rattle.pg_gather.proofs.Deskwork.{read_end, read_own}
use Rattle.pg_gather.proofs.sweep.near_at_desks.Goals as goal

pub returns-clause-value : goal.returns-clause-value
returns-clause-value g c =
    let p = g.P.VertexProgram.meaning c.args._program.now in
    let graph = c.args.graph.now in
    let store = c.args.store.now in
    let mirrors = c.args._mirrors.now in
    let end : c.end.result ≡ end_of c.args.side (local_at store c.args.place) = c.end.ensures ∙ ap (end_of c.args.side) c.requires.local in
    let other : c.end-2.result ≡ end_of (opposite c.args.side) (local_at store c.args.place) = c.end-2.ensures ∙ ap (λ (side : Side). end_of side c.args.local) c.opposite.ensures ∙ ap (end_of (opposite c.args.side)) c.requires.local in
    near_is graph store mirrors c.args.side c.args.place _ _ _ _ (
      c.edge_info.ensures.value ∙ ap (edge_info graph) c.edge.ensures,
      c.word.ensures,
      read_end p graph store mirrors c.args.desks.now c.requires.readable c.requires.desks c.args.place c.requires.place c.args.side c.end.result end c.index-desks-end.result,
      read_end p graph store mirrors c.args.desks.now c.requires.readable c.requires.desks c.args.place c.requires.place (opposite c.args.side) c.end-2.result other c.index-desks-end-2.result,
    )

pub returns-clause-near : goal.returns-clause-near
returns-clause-near g c =
    let p = g.P.VertexProgram.meaning c.args._program.now in
    let graph = c.args.graph.now in
    let store = c.args.store.now in
    let mirrors = c.args._mirrors.now in
    let end : c.end.result ≡ end_of c.args.side (local_at store c.args.place) = c.end.ensures ∙ ap (end_of c.args.side) c.requires.local in
    let other : c.end-2.result ≡ end_of (opposite c.args.side) (local_at store c.args.place) = c.end-2.ensures ∙ ap (λ (side : Side). end_of side c.args.local) c.opposite.ensures ∙ ap (end_of (opposite c.args.side)) c.requires.local in
    record {
      edge = c.edge_info.ensures.known;
      word = subst p.IsWord (sym c.word.ensures) (c.requires.readable.words c.args.place c.requires.place);
      centre = read_own p graph store mirrors c.args.desks.now c.requires.readable c.requires.desks c.args.place c.requires.place c.args.side c.end.result end c.index-desks-end.result;
      other = read_own p graph store mirrors c.args.desks.now c.requires.readable c.requires.desks c.args.place c.requires.place (opposite c.args.side) c.end-2.result other c.index-desks-end-2.result;
    }
