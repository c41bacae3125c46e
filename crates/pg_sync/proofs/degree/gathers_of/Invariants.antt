use Rattle.std.proofs.Common.{◌≡◌, ◌≤◌, ◌*◌, ◌^◌, length, take}
use Rattle.std.specs.Prelude.{sum_by}
use Rattle.pg_law.specs.Round.{edges_over}
use Rattle.pg_sync.proofs.degree.gathers_of.Given as goal

-- the gathers of the vertices so far
abbrev pub invariant-loop-i : goal.invariant-loop-i
invariant-loop-i g l = record {
  gathers : l.gathers ≡ sum_by (λ u. length (edges_over (g.P.VertexProgram.meaning l.program).gather_edges l.graph u)) (take l.i l.wanted);
  few : l.gathers ≤ l.i * 2 ^ 24;
}
