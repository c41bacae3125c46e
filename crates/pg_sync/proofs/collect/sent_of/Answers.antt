use Rattle.std.proofs.Common.{◌<◌, length, refl, Ok, ◌∙◌, ap, arith, map}
use Rattle.pg_sync.specs.declared.worker.Scattering.{Scattering}
use Rattle.pg_sync.proofs.Collecting.{kept_still, parts_more, rest_still}
use Rattle.pg_sync.proofs.collect.sent_of.Goals as goal

pub returns-in_err-sent-clause-stores : goal.returns-in_err-sent-clause-stores
returns-in_err-sent-clause-stores g c = kept_still (λ (worker : Scattering g.row.A.Denot). worker.store) c.args.workers.now c.loop-w.workers c.loop-w.w c.index-workers-w.result _ c.loop-w.invariant.stores refl

pub returns-in_err-push-clause-stores : goal.returns-in_err-push-clause-stores
returns-in_err-push-clause-stores g c = kept_still (λ (worker : Scattering g.row.A.Denot). worker.store) c.args.workers.now c.loop-w.workers c.loop-w.w c.index-workers-w.result _ c.loop-w.invariant.stores refl

pub loop-w-preserved : goal.loop-w-preserved
loop-w-preserved g c =
    let x = c.index-workers-w.result in
    let inside : c.loop-w.w < length c.args.workers.now = omega (arith, c.loop-w-test.true, c.loop-w.auto.workers) in
    let whole = c.loop-w.invariant.rest c.loop-w.w x (omega arith) in
    record {
      sent = ap (map (λ sent. Ok sent)) c.in_ok-push.ensures.items ∙ parts_more (λ (worker : Scattering g.row.A.Denot). worker.sent) (λ sent. Ok sent) c.args.workers.now c.loop-w.workers c.loop-w.w x c.loop-w.lists.items c.in_ok-sent.sent inside c.loop-w.invariant.sent c.in_ok-sent.ensures.value whole;
      stores = kept_still (λ (worker : Scattering g.row.A.Denot). worker.store) c.args.workers.now c.loop-w.workers c.loop-w.w x _ c.loop-w.invariant.stores refl;
      rest = rest_still c.args.workers.now c.loop-w.workers c.loop-w.w _ c.loop-w.invariant.rest;
    }
