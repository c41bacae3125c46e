use Rattle.std.proofs.Common.{ℕ, ◌%◌, get_or, ap, ◌∙◌}
use Rattle.pg_graph.proofs.Numbers.{grown}
use Rattle.pg_cut.specs.WorkerSet.{workers_in}
use Rattle.pg_cut.specs.Cut.{master_of}
use Rattle.pg_cut.proofs.span.masters_of.Goals as goal

pub loop-v-preserved : goal.loop-v-preserved
loop-v-preserved c = let spans = c.args.spans.now in
    let v = c.loop-v.v in
    c.in_ok-push.ensures.items ∙ grown (λ (u : ℕ). master_of (workers_in (get_or spans u 0)) u) v c.loop-v.masters.items c.worker_at.result c.loop-v.invariant
    (c.worker_at.ensures ∙ ap (λ n. get_or (workers_in (get_or spans v 0)) (v % n) 0) c.size.ensures.value)
