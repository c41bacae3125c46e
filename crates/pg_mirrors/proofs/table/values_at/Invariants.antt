use Rattle.std.proofs.Common.{◌≡◌, map, take}
use Rattle.pg_mirrors.specs.Mirrors.{datum_at}
use Rattle.pg_mirrors.proofs.table.values_at.Given as goal

abbrev pub invariant-loop-v : goal.invariant-loop-v
invariant-loop-v l = l.own.items ≡ map (datum_at l.values) (take l.v-index l.vertices)
