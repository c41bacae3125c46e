use Rattle.std.proofs.Common.{◌≡◌, None, map}
use Rattle.std.specs.List.{range_with_len}
use Rattle.pg_mirrors.specs.Mirrors.{datum_at}
use Rattle.pg_gather.specs.Desks.{desk}
use Rattle.pg_gather.proofs.desk.blank_desks.Given as goal

-- the replicas so far have a desk
abbrev pub invariant-loop-replica : goal.invariant-loop-replica
invariant-loop-replica g l = l.desks.items ≡ map (λ r. desk (datum_at l.mirrors.values r) None) (range_with_len 0 l.replica)
