use Rattle.std.proofs.Common.{◌≡◌, ℕ, None, length, refl, subst, arith}
use Rattle.std.proofs.lemmas.List.{get_or_read}
use Rattle.pg_apply_scatter.specs.Desks.{AreDesks}
use Rattle.pg_apply_scatter.proofs.Seating.{desks_none, desks_passed, desks_pushed, none_pushed}
use Rattle.pg_apply_scatter.proofs.desk.desks_of.Goals as goal

pub loop-v-init : goal.loop-v-init
loop-v-init g c = rw c.in_ok-desks.ensures.items (record { desks = desks_none c.args.mirrors.now c.args.carries.now; none = λ i. refl })

pub loop-v-preserved-in_default : goal.loop-v-preserved-in_default
loop-v-preserved-in_default g c = record {
  desks = desks_passed c.args.mirrors.now c.args.carries.now c.loop-v.v c.loop-v.desks.items c.in_default.ensures.found.1 c.loop-v.invariant.desks;
  none = c.loop-v.invariant.none;
}

pub loop-v-preserved : goal.loop-v-preserved
loop-v-preserved g c = record {
  desks = desks_pushed c.args.mirrors.now c.args.carries.now c.loop-v.v c.in-Some.replica c.loop-v.desks.items c.push.new.self.items _ c.requires.ascending c.in-Some.ensures.within c.in-Some.ensures.vertex c.datum.ensures
      (get_or_read c.args.carries.now c.loop-v.v c.index-carries-v.result (omega (arith, c.loop-v-test.true, c.vertices-v-end.ensures.value, c.requires.carries)) c.index-carries-v.is None)
      c.in_ok-push.ensures.items c.loop-v.invariant.desks;
  none = none_pushed c.loop-v.desks.items c.push.new.self.items _ c.in_ok-push.ensures.items refl c.loop-v.invariant.none;
}

pub returns-clause-desks : goal.returns-clause-desks
returns-clause-desks g c = let Are : ℕ → Type 0 = λ n. AreDesks c.args.mirrors.now c.args.carries.now n c.loop-v.desks.items in
    let all : c.loop-v.v ≡ length c.args.graph.now.ids = omega (arith, c.loop-v-test.false, c.loop-v.auto.v-end, c.vertices-v-end.ensures.value) in
    subst Are all c.loop-v.invariant.desks

pub returns-clause-none : goal.returns-clause-none
returns-clause-none g c = c.loop-v.invariant.none
