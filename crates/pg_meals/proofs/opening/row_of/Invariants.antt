use Rattle.std.specs.Prelude.{◌≡◌, map, filter}
use Rattle.std.specs.List.{range_with_len}
use Rattle.pg_cut.specs.WorkerSet.{has}
use Rattle.pg_meals.specs.Opening.{copy_of}
use Rattle.pg_meals.proofs.opening.row_of.Given as goal

-- the copies for the workers so far
abbrev pub invariant-loop-worker : goal.invariant-loop-worker
invariant-loop-worker l = l.row.items ≡ map (copy_of l.datum) (filter (has l.span) (range_with_len 0 l.worker))
