use Rattle.std.proofs.Common.{ℕ, sym, ap, ◌∙◌, arith}
use Rattle.std.specs.Prelude.{Vec}
use Rattle.std.specs.declared.alloc.Global.{Global}
use Rattle.pg_meals.specs.declared.seat.Replica.{Replica}
use Rattle.pg_cut.specs.WorkerSet.{has}
use Rattle.pg_meals.specs.Opening.{copy_of}
use Rattle.pg_meals.proofs.Copies.{passed, failed, all_copies}
use Rattle.pg_meals.proofs.opening.row_of.Goals.{then-has_worker+in_ok-push, else-has_worker}
use Rattle.pg_meals.proofs.opening.row_of.Goals as goal

pub loop-worker-preserved : goal.loop-worker-preserved
loop-worker-preserved c =
    let n : ℕ = c.loop-worker.worker in
    elim c.if-has_worker.branch [
      | then-has_worker+in_ok-push w ↦ ap (λ (r : Vec Replica Global). r.items) w.row-is ∙ (w.in_ok-push.ensures.items ∙ passed (copy_of c.args.datum) (has c.args.span) n c.loop-worker.row.items c.loop-worker.invariant (sym c.has_worker.ensures ∙ w.if-has_worker.true))
      | else-has_worker w ↦ ap (λ (r : Vec Replica Global). r.items) w.row-is ∙ failed (copy_of c.args.datum) (has c.args.span) n c.loop-worker.row.items c.loop-worker.invariant (sym c.has_worker.ensures ∙ w.if-has_worker.false)
    ]

pub returns : goal.returns
returns c = all_copies c.args.span c.loop-worker.worker c.args.datum c.loop-worker.row.items c.loop-worker.invariant (omega (arith, c.loop-worker-test.false))
