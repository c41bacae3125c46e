use Rattle.std.proofs.Common.{◌==◌, length}
use Rattle.std.specs.Prelude.{filter, slice_index}
use Rattle.std.specs.List.{range_with_len}
use Rattle.pg_cut.specs.ByWorker.{lists_in}
use Rattle.pg_cut.proofs.Appending.{AreLists}
use Rattle.pg_cut.proofs.by_worker.edges_by_worker.Given as goal

-- the edges so far stand in the lists of their workers
abbrev pub invariant-loop-e : goal.invariant-loop-e
invariant-loop-e l = AreLists (λ w. filter (λ e. slice_index l.place e == w) (range_with_len 0 l.e)) (length l.loads) (lists_in l.lists.items)
