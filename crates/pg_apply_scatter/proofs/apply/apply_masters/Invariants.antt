use Rattle.std.proofs.Common.{◌≡◌, take}
use Rattle.pg_apply_scatter.specs.Applying.{applied_masters}
use Rattle.pg_apply_scatter.proofs.apply.apply_masters.Given as goal

-- the listed vertices so far have applied
abbrev pub invariant-loop-i : goal.invariant-loop-i
invariant-loop-i g l = l.applied.items ≡ applied_masters (g.P.VertexProgram.meaning l.program) l.graph l.values l.messages (take l.i l.sums)
