use Rattle.std.proofs.Common.{◌≡◌, ◌++◌, Bool, ℕ, None, is_some, length, subst, sym, ◌∙◌, ap, arith}
use Rattle.std.specs.Bool.{OnTrue}
use Rattle.std.proofs.lemmas.List.{get_or_read}
use Rattle.pg_edge_store.specs.Store.{places_around}
use Rattle.pg_apply_scatter.specs.Places.{ArePlaces}
use Rattle.pg_apply_scatter.proofs.Skipping.{places_passed, places_more}
use Rattle.pg_apply_scatter.proofs.scatter.places_of.Goals as goal

pub loop-v-preserved-then-is_none : goal.loop-v-preserved-then-is_none
loop-v-preserved-then-is_none g c = let p = g.P.VertexProgram.meaning c.args.program.now in
    let read = get_or_read c.args.carries.now c.loop-v.v c.index-carries-v.result (omega (arith, c.loop-v-test.true, c.vertices-v-end.ensures.value, c.requires.carries)) c.index-carries-v.is None in
    places_passed c.args.graph.now c.args.store.now.numbers p.scatter_edges c.args.carries.now c.loop-v.v c.loop-v.places.items (ap is_some (sym read) ∙ c.if-is_none.ensures) c.loop-v.invariant

pub loop-v-preserved : goal.loop-v-preserved
loop-v-preserved g c = let p = g.P.VertexProgram.meaning c.args.program.now in
    let graph = c.args.graph.now in
    let numbers = c.args.store.now.numbers in
    let before = c.loop-v.places.items in
    let Said : Bool → Type 0 = λ all. OnTrue all (c.append_around.new.places.items ≡ before ++ places_around graph numbers c.loop-v.v c.scatter_edges-dir.result) in
    let items : c.append_around.new.places.items ≡ before ++ places_around graph numbers c.loop-v.v p.scatter_edges = subst Said c.if-not-branch.false (c.in_ok-append_around.ensures graph c.requires.over)
    ∙ ap (λ dir. before ++ places_around graph numbers c.loop-v.v dir) c.scatter_edges-dir.ensures in
    rw items (places_more graph numbers p.scatter_edges c.args.carries.now c.loop-v.v before c.loop-v.invariant)

pub returns : goal.returns
returns g c = let p = g.P.VertexProgram.meaning c.args.program.now in
    let all : c.loop-v.v ≡ length c.args.graph.now.ids = omega (arith, c.loop-v-test.false, c.loop-v.auto.v-end, c.vertices-v-end.ensures.value) in
    let Are : ℕ → Type 0 = λ n. ArePlaces c.args.graph.now c.args.store.now.numbers p.scatter_edges c.args.carries.now n c.loop-v.places.items in
    subst Are all c.loop-v.invariant
