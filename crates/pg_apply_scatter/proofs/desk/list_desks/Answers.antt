use Rattle.std.proofs.Common.{◌≡◌, ℕ, length, subst, arith}
use Rattle.pg_apply_scatter.specs.Sending.{one_each}
use Rattle.pg_apply_scatter.specs.Desks.{signal_of}
use Rattle.pg_apply_scatter.proofs.Combining.{one_passed, one_pushed}
use Rattle.pg_apply_scatter.proofs.Seating.{signal_there, signal_nowhere}
use Rattle.pg_apply_scatter.proofs.desk.list_desks.Goals as goal

pub loop-v-init : goal.loop-v-init
loop-v-init g c = c.in_ok-sent.ensures.items

pub loop-v-preserved-in_default : goal.loop-v-preserved-in_default
loop-v-preserved-in_default g c = one_passed (signal_of c.args.mirrors.now c.args.desks.now) c.loop-v.v c.loop-v.sent.items (signal_nowhere c.args.mirrors.now c.args.desks.now c.loop-v.v c.in_default.ensures.found.1 c.requires.few) c.loop-v.invariant

pub loop-v-preserved-in_default-signal : goal.loop-v-preserved-in_default-signal
loop-v-preserved-in_default-signal g c = let m = c.args.mirrors.now in
    let inside = c.requires.desks c.in-Some.replica c.in-Some.ensures.within (omega (arith, c.in-Some.ensures.vertex, c.loop-v-test.true, c.vertices-v-end.ensures.value)) in
    one_passed (signal_of m c.args.desks.now) c.loop-v.v c.loop-v.sent.items
    (signal_there m c.args.desks.now c.loop-v.v c.in-Some.replica _ _ c.requires.ascending c.in-Some.ensures.within c.in-Some.ensures.vertex inside c.in_default-signal.is) c.loop-v.invariant

pub loop-v-preserved : goal.loop-v-preserved
loop-v-preserved g c = let m = c.args.mirrors.now in
    let inside = c.requires.desks c.in-Some.replica c.in-Some.ensures.within (omega (arith, c.in-Some.ensures.vertex, c.loop-v-test.true, c.vertices-v-end.ensures.value)) in
    one_pushed (signal_of m c.args.desks.now) c.loop-v.v c.in-Some-signal.message c.loop-v.sent.items c.push.new.self.items
    (signal_there m c.args.desks.now c.loop-v.v c.in-Some.replica _ _ c.requires.ascending c.in-Some.ensures.within c.in-Some.ensures.vertex inside c.in-Some-signal.is) c.loop-v.invariant c.in_ok-push.ensures.items

pub returns : goal.returns
returns g c = let Listed : ℕ → Type 0 = λ n. c.loop-v.sent.items ≡ one_each (signal_of c.args.mirrors.now c.args.desks.now) n in
    let all : c.loop-v.v ≡ length c.args.graph.now.ids = omega (arith, c.loop-v-test.false, c.loop-v.auto.v-end, c.vertices-v-end.ensures.value) in
    subst Listed all c.loop-v.invariant
