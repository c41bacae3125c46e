use Rattle.std.proofs.Common.{◌<◌, ◌+◌, List, ℕ, drop, subst, refl, arith}
use Rattle.std.specs.List.{flat_map, range_with_len}
use Rattle.std.proofs.lemmas.List.{at_drop_all}
use Rattle.std.proofs.lemmas.List.FromFn.{length-range_with_len}
use Rattle.std.proofs.lemmas.Result.{err_from_is_err_and}
use Rattle.pg_base.specs.Writing.{Sent}
use Rattle.pg_base.proofs.Sending.{sent_nothing, sent_whole}
use Rattle.pg_report.proofs.Vertices.{lines_more}
use Rattle.pg_main.specs.CutTexts.{workers_text, worker_line}
use Rattle.pg_report.proofs.Sending.{sent_part, sent_front}
use Rattle.pg_main.proofs.cut_text.write_workers.Goals as goal

pub loop-worker-init : goal.loop-worker-init
loop-worker-init g c = record { sent = sent_nothing _ _; later = omega arith }

pub loop-worker-preserved : goal.loop-worker-preserved
loop-worker-preserved g c =
    let cut = c.args.cut.now in
    let w = c.loop-worker.worker in
    let inside : w < cut.workers = omega (arith, c.workers-worker-end.ensures.value) in
    let rest = flat_map (worker_line cut) (drop (w + 1) (range_with_len 0 cut.workers)) in
    let P : List ℕ → Type 0 = λ left. Sent (g.K.Sink.written c.args.out.now) (g.K.Sink.written c.loop-worker.out) (workers_text cut) left in
    record {
      sent = sent_part (worker_line cut w) rest (subst P (lines_more (worker_line cut) cut.workers w inside) c.loop-worker.invariant.sent) c.in_ok-write_worker.ensures.whole;
      later = omega (arith, c.loop-worker.invariant.later, c.write_worker.ensures.later);
    }

pub returns-in_err-write_worker : goal.returns-in_err-write_worker
returns-in_err-write_worker g c =
    let p = err_from_is_err_and c.from_residual.result c.from_residual.ensures.1 in
    let cut = c.args.cut.now in
    let w = c.loop-worker.worker in
    let inside : w < cut.workers = omega (arith, c.workers-worker-end.ensures.value) in
    let rest = flat_map (worker_line cut) (drop (w + 1) (range_with_len 0 cut.workers)) in
    let P : List ℕ → Type 0 = λ left. Sent (g.K.Sink.written c.args.out.now) (g.K.Sink.written c.loop-worker.out) (workers_text cut) left in
    rw p.1 (record {
      whole = tt;
      front = sent_front (worker_line cut w) rest (subst P (lines_more (worker_line cut) cut.workers w inside) c.loop-worker.invariant.sent) c.in_err-write_worker.ensures.front;
      cause = λ _. omega (arith, c.loop-worker.invariant.later, c.in_err-write_worker.ensures.cause refl);
      later = omega (arith, c.loop-worker.invariant.later, c.write_worker.ensures.later);
    })

pub returns : goal.returns
returns g c =
    let cut = c.args.cut.now in
    let none = at_drop_all (flat_map (worker_line cut)) (range_with_len 0 cut.workers) c.loop-worker.worker (omega (arith, length-range_with_len 0 cut.workers)) in
    record {
      whole = sent_whole c.loop-worker.invariant.sent none;
      front = tt;
      cause = λ e. absurd (cc);
      later = c.loop-worker.invariant.later;
    }
