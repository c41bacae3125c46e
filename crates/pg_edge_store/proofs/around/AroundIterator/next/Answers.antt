use Rattle.std.proofs.Common.{ap, sym, ◌∙◌}
use Rattle.pg_graph.specs.Multigraph.{takes}
use Rattle.pg_edge_store.specs.Store.{places_taken}
use Rattle.pg_edge_store.proofs.Replicas.{taken_no, within_behind}
use Rattle.pg_edge_store.proofs.around.AroundIterator.next.Goals as goal

pub invariant_of-self : goal.invariant_of-self
invariant_of-self c = within_behind c.loop-place.self-inside.edges.now c.loop-place.self-inside.places.now c.in-Some.place.now c.in-Some.others.now c.in-Some.ensures.cases.0 c.loop-place.invariant.1

pub loop-place-preserved : goal.loop-place-preserved
loop-place-preserved c =
    let now = c.loop-place.self-inside in
    let is = sym (c.takes.ensures ∙ ap (takes now.dir) c.side.ensures) ∙ c.if-takes.false in (
      sym (taken_no now.edges.now now.replica now.dir c.in-Some.place.now c.in-Some.others.now is)
          ∙ ap (places_taken now.edges.now now.replica now.dir) (sym c.in-Some.ensures.cases.0) ∙ c.loop-place.invariant.0,
      within_behind now.edges.now now.places.now c.in-Some.place.now c.in-Some.others.now c.in-Some.ensures.cases.0 c.loop-place.invariant.1,
    )
