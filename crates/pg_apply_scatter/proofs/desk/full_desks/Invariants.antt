use Rattle.std.proofs.Common.{◌≤◌}
use Rattle.pg_apply_scatter.proofs.desk.full_desks.Given as goal

abbrev pub invariant-loop-desk : goal.invariant-loop-desk
invariant-loop-desk g l = l.full ≤ l.desk-index
