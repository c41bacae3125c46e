use Rattle.std.proofs.Common.{◌≡◌, map, take}
use Rattle.pg_gather.proofs.merge.empty_sums.Given as goal

abbrev pub invariant-loop-u : goal.invariant-loop-u
invariant-loop-u g l = l.sums.items ≡ map (λ u. (u, (g.P.VertexProgram.meaning l.program).empty)) (take l.u-index l.wanted)
