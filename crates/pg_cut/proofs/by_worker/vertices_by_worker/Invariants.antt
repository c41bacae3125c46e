use Rattle.std.proofs.Common.{length}
use Rattle.std.specs.Prelude.{filter, slice_index}
use Rattle.std.specs.List.{range_with_len}
use Rattle.pg_cut.specs.WorkerSet.{has}
use Rattle.pg_cut.specs.ByWorker.{lists_in}
use Rattle.pg_cut.proofs.Appending.{AreLists}
use Rattle.pg_cut.proofs.by_worker.vertices_by_worker.Given as goal

-- the vertices so far stand in the lists of their workers
abbrev pub invariant-loop-v : goal.invariant-loop-v
invariant-loop-v l = AreLists (λ w. filter (λ v. has (slice_index l.spans v) w) (range_with_len 0 l.v)) (length l.held) (lists_in l.lists.items)
