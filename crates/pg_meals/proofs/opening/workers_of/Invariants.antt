use Rattle.std.specs.Prelude.{◌≡◌, map, slice_index}
use Rattle.std.specs.List.{range_with_len}
use Rattle.pg_meals.proofs.opening.workers_of.Given as goal

-- the workers so far
abbrev pub invariant-loop-e : goal.invariant-loop-e
invariant-loop-e l = l.workers.items ≡ map (slice_index l.cut.place) (range_with_len 0 l.e)
