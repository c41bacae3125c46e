use Rattle.std.proofs.Common.{◌≡◌, get_or, set, sym, subst, ◌∙◌, ap, arith}
use Rattle.pg_graph.specs.declared.edge.Side.TheVariants.{Source, Target}
use Rattle.pg_edge_store.specs.Store.{Store}
use Rattle.pg_gather.specs.Partials.{IsReadable}
use Rattle.pg_law.proofs.Fitting.{word_own}
use Rattle.pg_apply_scatter.specs.Sending.{scatter_near, source_here, between_here, target_here}
use Rattle.pg_apply_scatter.proofs.Visiting.{readable_after, visited, final_is, near_own_here}
use Rattle.pg_apply_scatter.proofs.Seating.{read_within, read_near, read_carry, read_carried}
use Rattle.pg_apply_scatter.proofs.dense.visit_desks.Goals as goal

pub offset_bounds-desks-local : goal.offset_bounds-desks-local
offset_bounds-desks-local g c = let p = g.P.VertexProgram.meaning c.args.program.now in
    let below = read_within p c.args.graph.now c.vertices.ensures.graph c.args.store.now c.args._mirrors.now c.args._carries.now c.args.desks.now c.requires.readable c.requires.desks c.args.place c.requires.place c.edge-e.result c.local-local.result c.edge-e.ensures c.local-local.ensures Source in
    omega (arith, below)

pub bounds-desks-local : goal.bounds-desks-local
bounds-desks-local g c = let p = g.P.VertexProgram.meaning c.args.program.now in
    read_within p c.args.graph.now c.vertices.ensures.graph c.args.store.now c.args._mirrors.now c.args._carries.now c.args.desks.now c.requires.readable c.requires.desks c.args.place c.requires.place c.edge-e.result c.local-local.result c.edge-e.ensures c.local-local.ensures Source

pub offset_bounds-desks-local-2 : goal.offset_bounds-desks-local-2
offset_bounds-desks-local-2 g c = let p = g.P.VertexProgram.meaning c.args.program.now in
    let below = read_within p c.args.graph.now c.vertices.ensures.graph c.args.store.now c.args._mirrors.now c.args._carries.now c.args.desks.now c.requires.readable c.requires.desks c.args.place c.requires.place c.edge-e.result c.local-local.result c.edge-e.ensures c.local-local.ensures Target in
    omega (arith, below)

pub bounds-desks-local-2 : goal.bounds-desks-local-2
bounds-desks-local-2 g c = let p = g.P.VertexProgram.meaning c.args.program.now in
    read_within p c.args.graph.now c.vertices.ensures.graph c.args.store.now c.args._mirrors.now c.args._carries.now c.args.desks.now c.requires.readable c.requires.desks c.args.place c.requires.place c.edge-e.result c.local-local.result c.edge-e.ensures c.local-local.ensures Target

pub scatter_at-requires-clause-near : goal.scatter_at-requires-clause-near
scatter_at-requires-clause-near g c κs within = let p = g.P.VertexProgram.meaning c.args.program.now in
    rw (read_near p c.args.graph.now c.vertices.ensures.graph c.args.store.now c.args._mirrors.now c.args._carries.now c.args.desks.now c.requires.readable c.requires.desks c.args.place c.requires.place c.edge-e.result c.local-local.result c.edge-e.ensures c.local-local.ensures Source c.word-word.result c.edge_info-edge.result c.index-desks-local.result c.index-desks-local-2.result c.edge_info-edge.ensures.value c.index-desks-local.is c.index-desks-local-2.is) (near_own_here p c.args.graph.now c.laws_of.ensures c.vertices.ensures.graph c.args._mirrors.now c.args._carries.now (record { ascending = c.requires.readable.ascending; values = c.requires.readable.values }) c.requires.carries Source c.edge-e.result c.word-word.result (rw c.edge-e.ensures (c.requires.readable.edges c.args.place 0 c.requires.place)) (rw c.word-word.ensures (c.requires.readable.words c.args.place c.requires.place)))

pub scatter_at-requires-clause-carry : goal.scatter_at-requires-clause-carry
scatter_at-requires-clause-carry g c κs within = let p = g.P.VertexProgram.meaning c.args.program.now in
    read_carried p c.args.graph.now c.vertices.ensures.graph c.args.store.now c.args._mirrors.now c.args._carries.now c.args.desks.now c.requires.readable c.requires.desks c.args.place c.requires.place c.edge-e.result c.local-local.result c.edge-e.ensures c.local-local.ensures c.requires.carries Source c.index-desks-local.result c.index-desks-local.is

pub scatter_at-requires-2-clause-near : goal.scatter_at-requires-2-clause-near
scatter_at-requires-2-clause-near g c κs within = let p = g.P.VertexProgram.meaning c.args.program.now in
    let word : p.IsWord c.word-word.result = rw c.word-word.ensures (c.requires.readable.words c.args.place c.requires.place) in
    let between : p.IsWord c.word_of-between.result = rw c.word_of-between.ensures (word_own p c.args.graph.now c.laws_of.ensures c.vertices.ensures.graph c.word-word.result c.in_ok-source.source word c.in_ok-source.ensures.own) in
    rw (read_near p c.args.graph.now c.vertices.ensures.graph c.args.store.now c.args._mirrors.now c.args._carries.now c.args.desks.now c.requires.readable c.requires.desks c.args.place c.requires.place c.edge-e.result c.local-local.result c.edge-e.ensures c.local-local.ensures Target c.word_of-between.result c.edge_info-edge.result c.index-desks-local-2.result c.index-desks-local.result c.edge_info-edge.ensures.value c.index-desks-local-2.is c.index-desks-local.is) (near_own_here p c.args.graph.now c.laws_of.ensures c.vertices.ensures.graph c.args._mirrors.now c.args._carries.now (record { ascending = c.requires.readable.ascending; values = c.requires.readable.values }) c.requires.carries Target c.edge-e.result c.word_of-between.result (rw c.edge-e.ensures (c.requires.readable.edges c.args.place 0 c.requires.place)) between)

pub scatter_at-requires-2-clause-carry : goal.scatter_at-requires-2-clause-carry
scatter_at-requires-2-clause-carry g c κs within = let p = g.P.VertexProgram.meaning c.args.program.now in
    read_carried p c.args.graph.now c.vertices.ensures.graph c.args.store.now c.args._mirrors.now c.args._carries.now c.args.desks.now c.requires.readable c.requires.desks c.args.place c.requires.place c.edge-e.result c.local-local.result c.edge-e.ensures c.local-local.ensures c.requires.carries Target c.index-desks-local-2.result c.index-desks-local-2.is

-- what the two visits gave
visits : (g : _) (c : goal.After-write_word g) → let p = g.P.VertexProgram.meaning c.args.program.now in
    (c.in_ok-source.source ≡ source_here p c.args.graph.now c.args._mirrors.now c.args._carries.now c.edge-e.result c.word-word.result)
    × (c.word_of-between.result ≡ between_here p c.args.graph.now c.args._mirrors.now c.args._carries.now c.edge-e.result c.word-word.result)
    × (c.in_ok-target.target ≡ target_here p c.args.graph.now c.args._mirrors.now c.args._carries.now c.edge-e.result c.word-word.result)
visits g c = let p = g.P.VertexProgram.meaning c.args.program.now in
    visited p c.args.graph.now c.args._mirrors.now c.args._carries.now c.edge-e.result c.word-word.result c.index-desks-local.result.carry c.index-desks-local-2.result.carry c.in_ok-source.source c.in_ok-target.target c.word_of-between.result
    (read_carry p c.args.graph.now c.vertices.ensures.graph c.args.store.now c.args._mirrors.now c.args._carries.now c.args.desks.now c.requires.readable c.requires.desks c.args.place c.requires.place c.edge-e.result c.local-local.result c.edge-e.ensures c.local-local.ensures Source c.index-desks-local.result c.index-desks-local.is) (read_carry p c.args.graph.now c.vertices.ensures.graph c.args.store.now c.args._mirrors.now c.args._carries.now c.args.desks.now c.requires.readable c.requires.desks c.args.place c.requires.place c.edge-e.result c.local-local.result c.edge-e.ensures c.local-local.ensures Target c.index-desks-local-2.result c.index-desks-local-2.is)
    (c.in_ok-source.ensures.value ∙ ap (λ near. scatter_near p near c.index-desks-local.result.carry) (read_near p c.args.graph.now c.vertices.ensures.graph c.args.store.now c.args._mirrors.now c.args._carries.now c.args.desks.now c.requires.readable c.requires.desks c.args.place c.requires.place c.edge-e.result c.local-local.result c.edge-e.ensures c.local-local.ensures Source c.word-word.result c.edge_info-edge.result c.index-desks-local.result c.index-desks-local-2.result c.edge_info-edge.ensures.value c.index-desks-local.is c.index-desks-local-2.is)) c.word_of-between.ensures
    (c.in_ok-target.ensures.value ∙ ap (λ near. scatter_near p near c.index-desks-local-2.result.carry) (read_near p c.args.graph.now c.vertices.ensures.graph c.args.store.now c.args._mirrors.now c.args._carries.now c.args.desks.now c.requires.readable c.requires.desks c.args.place c.requires.place c.edge-e.result c.local-local.result c.edge-e.ensures c.local-local.ensures Target c.word_of-between.result c.edge_info-edge.result c.index-desks-local-2.result c.index-desks-local.result c.edge_info-edge.ensures.value c.index-desks-local-2.is c.index-desks-local.is))

pub returns-clause-words : goal.returns-clause-words
returns-clause-words g c = let both = visits g c in
    let final = final_is (g.P.VertexProgram.meaning c.args.program.now) c.args.graph.now c.args._mirrors.now c.args._carries.now c.args.store.now c.args.place c.edge-e.result c.word-word.result c.word_of-between.result c.word_of.result c.in_ok-target.target
    c.edge-e.ensures c.word-word.ensures both.1 both.2 c.word_of.ensures in
    c.write_word.ensures ∙ ap (λ w. record c.args.store.now { words = set c.args.store.now.words c.args.place w }) final

pub returns-clause-visits : goal.returns-clause-visits
returns-clause-visits g c = let p = g.P.VertexProgram.meaning c.args.program.now in let graph = c.args.graph.now in let m = c.args._mirrors.now in let carries = c.args._carries.now in
    let e = get_or c.args.store.now.numbers c.args.place 0 in
    let both = visits g c in
    record {
      edge = c.local-local.ensures;
      source = both.0 ∙ ap (λ k. source_here p graph m carries k c.word-word.result) c.edge-e.ensures ∙ ap (source_here p graph m carries e) c.word-word.ensures;
      target = both.2 ∙ ap (λ k. target_here p graph m carries k c.word-word.result) c.edge-e.ensures ∙ ap (target_here p graph m carries e) c.word-word.ensures;
    }

pub returns-clause-readable : goal.returns-clause-readable
returns-clause-readable g c = let p = g.P.VertexProgram.meaning c.args.program.now in
    let word : p.IsWord c.word-word.result = rw c.word-word.ensures (c.requires.readable.words c.args.place c.requires.place) in
    let between : p.IsWord c.word_of-between.result = rw c.word_of-between.ensures (word_own p c.args.graph.now c.laws_of.ensures c.vertices.ensures.graph c.word-word.result c.in_ok-source.source word c.in_ok-source.ensures.own) in
    let final : p.IsWord c.word_of.result = rw c.word_of.ensures (word_own p c.args.graph.now c.laws_of.ensures c.vertices.ensures.graph c.word_of-between.result c.in_ok-target.target between c.in_ok-target.ensures.own) in
    let Readable : Store → Type 0 = λ s. IsReadable p c.args.graph.now s c.args._mirrors.now in
    subst Readable (sym c.write_word.ensures) (readable_after p c.args.graph.now c.args.store.now c.args._mirrors.now c.args.place c.word_of.result c.requires.readable final)
