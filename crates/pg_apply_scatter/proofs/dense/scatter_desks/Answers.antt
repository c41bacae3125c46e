use Rattle.std.proofs.Common.{◌≡◌, ◌==◌, ℕ, None, List, length, subst, sym, ◌∙◌, ap, arith}
use Rattle.std.specs.Prelude.{All}
use Rattle.std.specs.List.{position_or_len}
use Rattle.std.proofs.lemmas.Result.{IfOk-weaker}
use Rattle.pg_graph.specs.declared.edge.Side.TheVariants.{Source, Target}
use Rattle.pg_edge_store.specs.Store.{Store}
use Rattle.pg_law.specs.Laws.{IsOptional}
use Rattle.pg_apply_scatter.specs.declared.desk.Desk.{Desk}
use Rattle.pg_apply_scatter.specs.Sending.{IsSentIn, sent_from}
use Rattle.pg_apply_scatter.specs.Desks.{AreDesks, signal_at, signal_of}
use Rattle.pg_apply_scatter.specs.Delivering.{signals_of}
use Rattle.pg_apply_scatter.proofs.Visiting.{visited_none, visited_more, visited_all, sent_all, sent_own}
use Rattle.pg_apply_scatter.proofs.Combining.{one_delivers, one_own}
use Rattle.pg_apply_scatter.proofs.Seating.{seat_within, visits_same, desks_more, desks_reach, each_own}
use Rattle.pg_apply_scatter.proofs.dense.scatter_desks.Goals as goal

pub loop-place-init : goal.loop-place-init
loop-place-init g c = let p = g.P.VertexProgram.meaning c.args.program.now in
    let Are : List (Desk g.row.P-Carry.Denot) → Type 0 = AreDesks c.args.mirrors.now c.args.carries.now (length c.args.graph.now.ids) in
    let same = c.as_mut_slice-desks.ensures.value in
    let none : (i : ℕ) → signal_at c.as_mut_slice-desks.result.now i ≡ None = λ i. ap (λ desks. signal_at desks i) same ∙ c.in_ok-room.ensures.none i in
    record {
      readable = c.requires.readable;
      visited = visited_none p c.args.graph.now c.args.mirrors.now c.args.carries.now c.args.store.now (λ all. (v : ℕ) → signal_of c.args.mirrors.now c.as_mut_slice-desks.result.now v ≡ signals_of p v None all)
          (λ v. none (position_or_len (λ u. u == v) c.args.mirrors.now.vertices));
      desks = subst Are (sym same) c.in_ok-room.ensures.desks;
      own = λ i h. let Own = IsOptional p.IsMessage in subst Own (sym (none i)) tt;
    }

pub combine_visits-requires-clause-source : goal.combine_visits-requires-clause-source
combine_visits-requires-clause-source g c κs within = rw c.in_ok-visits.ensures.visits.edge (seat_within (g.P.VertexProgram.meaning c.args.program.now) c.args.graph.now c.vertices.ensures.graph c.loop-place.store c.args.mirrors.now c.args.carries.now c.loop-place.desks c.loop-place.invariant.readable c.loop-place.invariant.desks c.loop-place.place (omega (arith, c.loop-place-test.true, c.len-place-end.ensures.value, ap (λ (s : Store). length s.numbers) c.loop-place.invariant.visited.kept)) Source)

pub combine_visits-requires-clause-target : goal.combine_visits-requires-clause-target
combine_visits-requires-clause-target g c κs within = rw c.in_ok-visits.ensures.visits.edge (seat_within (g.P.VertexProgram.meaning c.args.program.now) c.args.graph.now c.vertices.ensures.graph c.loop-place.store c.args.mirrors.now c.args.carries.now c.loop-place.desks c.loop-place.invariant.readable c.loop-place.invariant.desks c.loop-place.place (omega (arith, c.loop-place-test.true, c.len-place-end.ensures.value, ap (λ (s : Store). length s.numbers) c.loop-place.invariant.visited.kept)) Target)

pub loop-place-preserved : goal.loop-place-preserved
loop-place-preserved g c = let p = g.P.VertexProgram.meaning c.args.program.now in
    let m = c.args.mirrors.now in
    let up = c.requires.readable.ascending in
    let before = c.loop-place.desks in
    let after = c.combine_visits.new.desks in
    record {
      readable = c.in_ok-visits.ensures.readable;
      visited = visited_more p c.args.graph.now m c.args.carries.now c.args.store.now c.loop-place.place c.loop-place.store c.visit_desks.new.store
          (λ all. (v : ℕ) → signal_of m before v ≡ signals_of p v None all) (λ all. (v : ℕ) → signal_of m after v ≡ signals_of p v None all)
          c.len-place-end.ensures.words (omega (arith, c.loop-place-test.true, c.len-place-end.ensures.value)) c.loop-place.invariant.visited c.in_ok-visits.ensures.words
          (λ all is. desks_more p m up before after all _ is (λ v. c.combine_visits.ensures.combined (position_or_len (λ u. u == v) m.vertices)
          ∙ visits_same p m up c.args.graph.now c.args.carries.now c.loop-place.store c.loop-place.place v (signal_of m before v) c.in_ok-visits.visits c.loop-place.invariant.readable (omega (arith, c.loop-place-test.true, c.len-place-end.ensures.value, ap (λ (s : Store). length s.numbers) c.loop-place.invariant.visited.kept)) c.in_ok-visits.ensures.visits));
      desks = c.combine_visits.ensures.desks m c.args.carries.now (length c.args.graph.now.ids) c.loop-place.invariant.desks;
      own = c.combine_visits.ensures.own;
    }

pub list_desks-requires-clause-desks : goal.list_desks-requires-clause-desks
list_desks-requires-clause-desks g c = λ i h below. desks_reach c.args.mirrors.now c.args.carries.now (length c.args.graph.now.ids) i c.loop-place.desks h below c.loop-place.invariant.desks

pub returns-clause-words : goal.returns-clause-words
returns-clause-words g c = IfOk-weaker c.list_desks.result _ _ (λ sent is. visited_all (g.P.VertexProgram.meaning c.args.program.now) c.args.graph.now c.args.mirrors.now c.args.carries.now c.args.store.now c.loop-place.place c.loop-place.store
    (λ all. (v : ℕ) → signal_of c.args.mirrors.now c.loop-place.desks v ≡ signals_of (g.P.VertexProgram.meaning c.args.program.now) v None all) c.len-place-end.ensures.words
    (omega (arith, c.loop-place-test.false, c.loop-place.auto.place-end, c.len-place-end.ensures.value)) c.loop-place.invariant.visited) c.list_desks.ensures

pub returns-clause-sent : goal.returns-clause-sent
returns-clause-sent g c = let p = g.P.VertexProgram.meaning c.args.program.now in let sent = sent_from p c.args.graph.now c.args.mirrors.now c.args.carries.now c.args.store.now in
    let own : All (IsSentIn p (length c.args.graph.now.ids)) sent = sent_own p c.args.graph.now c.laws_of.ensures c.vertices.ensures.graph c.args.mirrors.now c.args.carries.now
    (record { ascending = c.requires.readable.ascending; values = c.requires.readable.values }) c.requires.carries c.args.store.now c.requires.readable in
    let all = sent_all p c.args.graph.now c.args.mirrors.now c.args.carries.now c.args.store.now c.loop-place.place c.loop-place.store (λ all. (v : ℕ) → signal_of c.args.mirrors.now c.loop-place.desks v ≡ signals_of p v None all)
    (omega (arith, c.loop-place-test.false, c.loop-place.auto.place-end, c.len-place-end.ensures.value)) c.loop-place.invariant.visited in
    IfOk-weaker c.list_desks.result _ _ (λ list is. rw is (one_delivers p c.laws_of.ensures (length c.args.graph.now.ids) (signal_of c.args.mirrors.now c.loop-place.desks) sent own all)) c.list_desks.ensures

pub returns-clause-own : goal.returns-clause-own
returns-clause-own g c = let p = g.P.VertexProgram.meaning c.args.program.now in
    IfOk-weaker c.list_desks.result _ _ (λ list is. rw is (one_own p (signal_of c.args.mirrors.now c.loop-place.desks) (length c.args.graph.now.ids) (each_own p c.args.mirrors.now c.loop-place.desks c.loop-place.invariant.own))) c.list_desks.ensures
