use Rattle.std.proofs.Common.{◌≡◌, ◌≢◌, ℕ, ◌<◌, not, get_or, take}
use Rattle.std.specs.Prelude.{filter}
use Rattle.pg_delta.specs.Cell.{settled}
use Rattle.pg_apply_scatter.specs.Delivering.{cell_in, AreCellsOf}
use Rattle.pg_sync.specs.Cells.{keeps}
use Rattle.pg_sync.proofs.cells.settle_all.Given as goal

-- the cells of the vertices so far are settled
abbrev pub invariant-loop-i : goal.invariant-loop-i
invariant-loop-i g l = let p = g.P.VertexProgram.meaning l.program in
    record {
      wanted : l.wanted.items ≡ filter (λ v. not (keeps p l.initial.cells v)) (take l.i l.listed);
      here : (k : ℕ) → k < l.i → cell_in l.cells (get_or l.listed k 0) ≡ settled p.sum (cell_in l.initial.cells (get_or l.listed k 0));
      others : (v : ℕ) → ((k : ℕ) → k < l.i → get_or l.listed k 0 ≢ v) → cell_in l.cells v ≡ cell_in l.initial.cells v;
      own : AreCellsOf p l.cells;
    }
