use Rattle.std.proofs.Common.{ℕ, Bool, cond, get_or, ap, ◌∙◌, arith}
use Rattle.std.specs.Prelude.{is_some}
use Rattle.pg_graph.specs.declared.edge.Side.{Side}
use Rattle.pg_graph.specs.declared.edge.Side.TheVariants.{Source, Target}
use Rattle.pg_graph.specs.Multigraph.{end_of, takes}
use Rattle.pg_edge_store.specs.Store.{local_at}
use Rattle.pg_gather.specs.Desks.{end_sum, is_wanted}
use Rattle.pg_gather.proofs.Reading.{end_within, end_vertex}
use Rattle.pg_gather.proofs.Deskwork.{some_made, some_added}
use Rattle.pg_gather.proofs.Sweeping.{both_ends}
use Rattle.pg_gather.proofs.sweep.add_edge.Goals as goal

pub returns-clause-sums : goal.returns-clause-sums
returns-clause-sums g c = let p = g.P.VertexProgram.meaning c.args.program.now in
    let graph = c.args.graph.now in
    let store = c.args.store.now in
    let mirrors = c.args.mirrors.now in
    let place = c.args.place in
    λ r hr. c.in_ok-add_end-2.ensures.sums r hr
    ∙ ap (end_sum p graph store mirrors Target place r) (c.in_ok-add_end.ensures.sums r hr ∙ ap (end_sum p graph store mirrors Source place r) (c.requires.sums r hr))
    ∙ both_ends p graph store mirrors c.vertices.ensures.graph c.requires.readable r place hr c.requires.place (is_wanted c.args._wanted.now (get_or mirrors.vertices r 0))

pub returns-clause-counted : goal.returns-clause-counted
returns-clause-counted g c = let p = g.P.VertexProgram.meaning c.args.program.now in
    let graph = c.args.graph.now in
    let store = c.args.store.now in
    let mirrors = c.args.mirrors.now in
    let place = c.args.place in
    let readable = c.requires.readable in
    let at = λ (side : Side). end_of side (local_at store place) in
    let inside = λ (side : Side). end_within p graph store mirrors readable place c.requires.place side in
    let there = λ (side : Side). ap is_some (c.requires.sums (at side) (inside side)) ∙ some_made (is_wanted c.args._wanted.now (get_or mirrors.vertices (at side) 0)) _
    ∙ ap (is_wanted c.args._wanted.now) (end_vertex p graph store mirrors readable place c.requires.place side) in
    let later = ap is_some (c.in_ok-add_end.ensures.sums (at Target) (inside Target)) ∙ some_added _ _ _ _ ∙ there Target in
    omega (
      arith,
      c.in_ok-add_end.ensures.counted,
      c.in_ok-add_end-2.ensures.counted,
      ap (λ (b : Bool). cond {A = ℕ} b (cond (takes p.gather_edges Source) 1 0) 0) (there Source),
      ap (λ (b : Bool). cond {A = ℕ} b (cond (takes p.gather_edges Target) 1 0) 0) later,
    )
