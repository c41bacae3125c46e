use Rattle.std.proofs.Common.{◌-◌, ◌≤◌, length}
use Rattle.pg_cut.specs.Directory.{keys_below}
use Rattle.pg_cut.proofs.directory.first_from.Given as goal

-- all keys so far are below the number
abbrev pub invariant-loop-place : goal.invariant-loop-place
invariant-loop-place l = l.place ≤ keys_below l.keys l.x

abbrev pub decreases-loop-place : goal.decreases-loop-place
decreases-loop-place l = length l.keys - l.place
