use Rattle.std.proofs.Common.{◌≡◌, ℕ, ◌<◌, ◌+◌, true, length, get_or, sym, ◌∙◌, ap, arith, rules}
use Rattle.std.proofs.lemmas.List.{take_all}
use Rattle.pg_graph.specs.Multigraph.{side_of, takes}
use Rattle.pg_mirrors.specs.Mirrors.{datum_at}
use Rattle.pg_edge_store.specs.Store.{local_at, places_taken, places_around}
use Rattle.pg_edge_store.proofs.Replicas.{side_agrees, taken_is}
use Rattle.pg_gather.specs.Partials.{sum_at, gathered_at, near_at}
use Rattle.pg_gather.proofs.Rows.{row_ends, passing_fold, passing_count}
use Rattle.pg_gather.proofs.partial.partial_sum.Goals as goal

pub local-local-requires : goal.local-local-requires
local-local-requires g c = c.row-row.ensures.within c.loop-place.place-index 0 c.loop-place-test.true

pub near_at-near-requires-clause-place : goal.near_at-near-requires-clause-place
near_at-near-requires-clause-place g c κs within = c.row-row.ensures.within c.loop-place.place-index 0 c.loop-place-test.true

pub near_at-near-requires-clause-centre : goal.near_at-near-requires-clause-centre
near_at-near-requires-clause-centre g c κs within =
    let ends = row_ends c.args.graph.now c.args.store.now c.args.replica c.requires.readable.over c.requires.replica c.loop-place.place-index 0 (rw c.row-row.ensures.value at c.loop-place-test.true) in
    c.datum-centre.ensures ∙ ap (datum_at c.args.mirrors.now.values) (sym (rw (c.side-side.ensures, c.local-local.ensures, c.row-row.ensures.value) ends))

pub loop-place-preserved : goal.loop-place-preserved
loop-place-preserved g c =
    let p = g.P.VertexProgram.meaning c.args.program.now in
    let law = c.laws_of.ensures in
    let store = c.args.store.now in
    let over = c.requires.readable.over in
    let gathered = gathered_at p c.args.graph.now store c.args.mirrors.now (get_or store.vertices c.args.replica 0) in
    let taking = λ (i : ℕ). takes c.gather_edges-dir.result (side_of c.args.replica (local_at store i)) in
    let row = c.row-row.result.now in
    let k = c.loop-place.place-index in
    let place = get_or row k 0 in
    let inside : place < length store.numbers = c.row-row.ensures.within k 0 c.loop-place-test.true in
    let local : c.side-side.result ≡ side_of c.args.replica (local_at store place) = c.side-side.ensures ∙ ap (side_of c.args.replica) c.local-local.ensures in
    let takes_it : c.takes.result ≡ true = search rules in
    let taken : taking place ≡ true = ap (takes c.gather_edges-dir.result) (sym local) ∙ sym c.takes.ensures ∙ takes_it in
    let near = c.near_at-near.ensures.value ∙ ap (λ side. near_at c.args.graph.now store c.args.mirrors.now side place) (local ∙ side_agrees c.args.graph.now store over c.args.replica c.requires.replica place inside) in
    let part = c.in_ok-part.ensures.gathered in
    record {
      sum = c.in_ok-acc-2.ensures ∙ ap (p.sum c.loop-place.acc) (part ∙ ap p.gather near) ∙ ap (λ acc. p.sum acc (gathered place)) c.loop-place.invariant.sum
          ∙ sym (passing_fold taking row k c.loop-place-test.true taken (λ acc i. p.sum acc (gathered i)) p.empty);
      own = rw (c.in_ok-acc-2.ensures, part) (law.closed.sum _ _ c.loop-place.invariant.own (law.closed.gather _ c.near_at-near.ensures.near));
      counted = omega (arith, c.loop-place.invariant.counted, c.in_ok-part.ensures.counted, passing_count taking row k c.loop-place-test.true taken);
    }

pub returns-clause-sum : goal.returns-clause-sum
returns-clause-sum g c =
    let p = g.P.VertexProgram.meaning c.args.program.now in
    let store = c.args.store.now in
    let all = take_all c.loop-place.place-index c.row-row.result.now c.loop-place-test.false in
    let walked = ap (places_taken store.edges c.args.replica c.gather_edges-dir.result) (all ∙ c.row-row.ensures.value)
    ∙ taken_is c.args.graph.now store c.requires.readable.over c.args.replica c.requires.replica c.gather_edges-dir.result
    ∙ ap (places_around c.args.graph.now store.numbers (get_or store.vertices c.args.replica 0)) c.gather_edges-dir.ensures in
    c.loop-place.invariant.sum ∙ ap (sum_at p c.args.graph.now store c.args.mirrors.now (get_or store.vertices c.args.replica 0)) walked

pub returns-clause-counted : goal.returns-clause-counted
returns-clause-counted g c =
    let p = g.P.VertexProgram.meaning c.args.program.now in
    let store = c.args.store.now in
    let all = take_all c.loop-place.place-index c.row-row.result.now c.loop-place-test.false in
    let walked = ap (places_taken store.edges c.args.replica c.gather_edges-dir.result) (all ∙ c.row-row.ensures.value)
    ∙ taken_is c.args.graph.now store c.requires.readable.over c.args.replica c.requires.replica c.gather_edges-dir.result
    ∙ ap (places_around c.args.graph.now store.numbers (get_or store.vertices c.args.replica 0)) c.gather_edges-dir.ensures in
    c.loop-place.invariant.counted ∙ ap (λ places. c.args.steps.now + length places) walked
