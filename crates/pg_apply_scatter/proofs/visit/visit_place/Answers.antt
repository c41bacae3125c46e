use Rattle.std.proofs.Common.{◌≡◌, ◌<◌, ◌++◌, List, length, get_or, set, None, refl, sym, subst, ◌∙◌, ap}
use Rattle.std.specs.Prelude.{All}
use Rattle.pg_graph.specs.declared.edge.Side.TheVariants.{Source, Target}
use Rattle.pg_graph.specs.Multigraph.{end_at}
use Rattle.pg_graph.proofs.Stored.{end_read}
use Rattle.pg_edge_store.specs.Store.{Store}
use Rattle.pg_gather.specs.Partials.{IsReadable}
use Rattle.pg_law.proofs.Fitting.{end_within, word_own}
use Rattle.pg_apply_scatter.specs.Sending.{source_here, between_here, target_here, sent_to, sent_at, IsSentIn}
use Rattle.pg_apply_scatter.specs.declared.sent.Sent.{Sent}
use Rattle.pg_apply_scatter.proofs.Reading.{replicas_here}
use Rattle.pg_apply_scatter.proofs.Visiting.{readable_after, visited, final_is, sent_is, sent_over_own}
use Rattle.pg_apply_scatter.proofs.visit.visit_place.Goals as goal

-- the edge at the place is one of the graph
inside : (g : _) (c : goal.After-index-carries-edge-2 g) → c.edge-e.result < length c.args.graph.now.edges
inside g c = rw c.edge-e.ensures (c.requires.readable.edges c.args.place 0 c.requires.place).edge

pub scatter_from-requires-clause-carry : goal.scatter_from-requires-clause-carry
scatter_from-requires-clause-carry g c κs within = let graph = c.args.graph.now in let p = g.P.VertexProgram.meaning c.args.program.now in
    let below : c.edge-e.result < length graph.edges = rw c.edge-e.ensures (c.requires.readable.edges c.args.place 0 c.requires.place).edge in
    let read = end_read graph c.args.carries.now c.edges.result.now Source c.edge-e.result c.index-carries-edge.result None c.edges.ensures.graph c.edges.ensures.value below c.requires.carries.count c.index-carries-edge.is in
    rw read (c.requires.carries.each (end_at graph Source c.edge-e.result) (end_within p graph c.laws_of.ensures c.edges.ensures.graph Source c.edge-e.result below))

pub scatter_from-requires-2-clause-carry : goal.scatter_from-requires-2-clause-carry
scatter_from-requires-2-clause-carry g c κs within = let graph = c.args.graph.now in let p = g.P.VertexProgram.meaning c.args.program.now in
    let read = end_read graph c.args.carries.now c.edges.result.now Target c.edge-e.result c.index-carries-edge-2.result None c.edges.ensures.graph c.edges.ensures.value (inside g c) c.requires.carries.count c.index-carries-edge-2.is in
    rw read (c.requires.carries.each (end_at graph Target c.edge-e.result) (end_within p graph c.laws_of.ensures c.edges.ensures.graph Target c.edge-e.result (inside g c)))

-- the edge between replicas is that of the edge of the graph
pub scatter_from-requires-clause-local : goal.scatter_from-requires-clause-local
scatter_from-requires-clause-local g c κs within = rw (c.edge-e.ensures, c.local-local.ensures)
    (replicas_here (g.P.VertexProgram.meaning c.args.program.now) c.args.graph.now c.args.store.now c.args.mirrors.now c.args.place c.requires.readable c.requires.place)

pub scatter_from-requires-2-clause-local : goal.scatter_from-requires-2-clause-local
scatter_from-requires-2-clause-local g c κs within = rw (c.edge-e.ensures, c.local-local.ensures)
    (replicas_here (g.P.VertexProgram.meaning c.args.program.now) c.args.graph.now c.args.store.now c.args.mirrors.now c.args.place c.requires.readable c.requires.place)

-- what the two visits gave
visits : (g : _) (c : goal.After-set_word g) → let p = g.P.VertexProgram.meaning c.args.program.now in
    (c.in_ok-source.source ≡ source_here p c.args.graph.now c.args.mirrors.now c.args.carries.now c.edge-e.result c.word-word.result)
    × (c.word_of-between.result ≡ between_here p c.args.graph.now c.args.mirrors.now c.args.carries.now c.edge-e.result c.word-word.result)
    × (c.in_ok-target.target ≡ target_here p c.args.graph.now c.args.mirrors.now c.args.carries.now c.edge-e.result c.word-word.result)
visits g c = let graph = c.args.graph.now in
    let below : c.edge-e.result < length graph.edges = rw c.edge-e.ensures (c.requires.readable.edges c.args.place 0 c.requires.place).edge in
    let src = end_read graph c.args.carries.now c.edges.result.now Source c.edge-e.result c.index-carries-edge.result None c.edges.ensures.graph c.edges.ensures.value below c.requires.carries.count c.index-carries-edge.is in
    let dst = end_read graph c.args.carries.now c.edges.result.now Target c.edge-e.result c.index-carries-edge-2.result None c.edges.ensures.graph c.edges.ensures.value below c.requires.carries.count c.index-carries-edge-2.is in
    visited (g.P.VertexProgram.meaning c.args.program.now) graph c.args.mirrors.now c.args.carries.now c.edge-e.result c.word-word.result c.index-carries-edge.result c.index-carries-edge-2.result c.in_ok-source.source c.in_ok-target.target c.word_of-between.result
    src dst c.in_ok-source.ensures.value c.word_of-between.ensures c.in_ok-target.ensures.value

pub returns-clause-words : goal.returns-clause-words
returns-clause-words g c = let both = visits g c in
    let final = final_is (g.P.VertexProgram.meaning c.args.program.now) c.args.graph.now c.args.mirrors.now c.args.carries.now c.args.store.now c.args.place c.edge-e.result c.word-word.result c.word_of-between.result c.word_of.result c.in_ok-target.target
    c.edge-e.ensures c.word-word.ensures both.1 both.2 c.word_of.ensures in
    c.set_word.ensures ∙ ap (λ w. record c.args.store.now { words = set c.args.store.now.words c.args.place w }) final

-- what they send
sends : (g : _) (c : goal.After-set_word g) → let p = g.P.VertexProgram.meaning c.args.program.now in let edge = get_or c.edges.result.now c.edge-e.result (record { src = 0; dst = 0; weight = 0 }) in
    sent_to edge.dst c.in_ok-source.source ++ sent_to edge.src c.in_ok-target.target ≡ sent_at p c.args.graph.now c.args.mirrors.now c.args.carries.now c.args.store.now c.args.place
sends g c = let both = visits g c in
    sent_is (g.P.VertexProgram.meaning c.args.program.now) c.args.graph.now c.args.mirrors.now c.args.carries.now c.args.store.now c.args.place c.edge-e.result c.word-word.result _ _ c.in_ok-source.source c.in_ok-target.target
    c.edge-e.ensures c.word-word.ensures (rw c.edges.ensures.value refl) (rw c.edges.ensures.value refl) both.0 both.2

pub returns-clause-sent : goal.returns-clause-sent
returns-clause-sent g c = sends g c

pub returns-clause-own : goal.returns-clause-own
returns-clause-own g c = let p = g.P.VertexProgram.meaning c.args.program.now in let store = c.args.store.now in
    let Own : List (Sent g.row.P-Acc.Denot) → Type 0 = All (IsSentIn p (length c.args.graph.now.ids)) in
    subst Own (sym (sends g c)) (sent_over_own p c.args.graph.now c.laws_of.ensures c.edges.ensures.graph c.args.mirrors.now c.args.carries.now
    (record { ascending = c.requires.readable.ascending; values = c.requires.readable.values }) c.requires.carries (get_or store.numbers c.args.place 0) (get_or store.words c.args.place 0)
    (c.requires.readable.edges c.args.place 0 c.requires.place) (c.requires.readable.words c.args.place c.requires.place))

pub returns-clause-readable : goal.returns-clause-readable
returns-clause-readable g c = let p = g.P.VertexProgram.meaning c.args.program.now in let law = c.laws_of.ensures in let graph = c.edges.ensures.graph in
    let word : p.IsWord c.word-word.result = rw c.word-word.ensures (c.requires.readable.words c.args.place c.requires.place) in
    let between : p.IsWord c.word_of-between.result = rw c.word_of-between.ensures (word_own p c.args.graph.now law graph c.word-word.result c.in_ok-source.source word c.in_ok-source.ensures.own) in
    let final : p.IsWord c.word_of.result = rw c.word_of.ensures (word_own p c.args.graph.now law graph c.word_of-between.result c.in_ok-target.target between c.in_ok-target.ensures.own) in
    let Readable : Store → Type 0 = λ s. IsReadable p c.args.graph.now s c.args.mirrors.now in
    subst Readable (sym c.set_word.ensures) (readable_after p c.args.graph.now c.args.store.now c.args.mirrors.now c.args.place c.word_of.result c.requires.readable final)
