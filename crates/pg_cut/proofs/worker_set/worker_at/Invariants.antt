use Rattle.std.proofs.Common.{◌≡◌, drop}
use Rattle.pg_cut.specs.WorkerSet.{workers_in}
use Rattle.pg_cut.proofs.worker_set.worker_at.Given as goal

-- the workers that are left
abbrev pub invariant-loop-passed : goal.invariant-loop-passed
invariant-loop-passed l = workers_in l.rest ≡ drop l._passed (workers_in l.set)
