use Rattle.std.proofs.Common.{◌-◌}
use Rattle.pg_greedy.proofs.together.+place_apart.Given as goal

-- the edges that are left in the batch
abbrev pub decreases-place_apart : goal.decreases-place_apart
decreases-place_apart l = l.end - l.e
