use Rattle.std.specs.Prelude.{◌≡◌, map}
use Rattle.std.specs.List.{range_with_len}
use Rattle.pg_cut.specs.ByWorker.{lists_in}
use Rattle.pg_meals.specs.Opening.{row_on}
use Rattle.pg_meals.proofs.opening.rows_of.Given as goal

-- the rows so far
abbrev pub invariant-loop-v : goal.invariant-loop-v
invariant-loop-v l = lists_in l.rows.items ≡ map (row_on l.cut l.values) (range_with_len 0 l.v)
