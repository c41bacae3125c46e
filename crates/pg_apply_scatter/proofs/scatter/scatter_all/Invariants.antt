use Rattle.std.proofs.Common.{◌≡◌}
use Rattle.pg_gather.specs.Partials.{IsReadable}
use Rattle.pg_apply_scatter.proofs.Visiting.{AreVisited}
use Rattle.pg_apply_scatter.proofs.scatter.scatter_all.Given as goal

-- the places so far are visited, and the list has what was sent
abbrev pub invariant-loop-place : goal.invariant-loop-place
invariant-loop-place g l = let p = g.P.VertexProgram.meaning l.program in
    record {
      readable : IsReadable p l.graph l.store l.mirrors;
      visited : AreVisited p l.graph l.mirrors l.carries l.initial.store l.place l.store (λ all. l.sent.items ≡ all);
    }
