use Rattle.std.proofs.Common.{◌≡◌, map, take}
use Rattle.pg_apply_scatter.specs.Applying.{applied_masters}
use Rattle.pg_apply_scatter.specs.Delivering.{cell_in}
use Rattle.pg_sync.specs.Cells.{acc_or}
use Rattle.pg_sync.proofs.cells.apply_cells.Given as goal

-- the listed vertices so far have applied
abbrev pub invariant-loop-i : goal.invariant-loop-i
invariant-loop-i g l = let p = g.P.VertexProgram.meaning l.program in
    l.applied.items ≡ applied_masters p l.graph l.values l.messages (map (λ v. (v, acc_or p.empty (cell_in l.cells v).acc)) (take l.i l.listed))
