use Rattle.std.proofs.Common.{◌≡◌, ℕ, None, length}
use Rattle.pg_gather.specs.Partials.{IsReadable}
use Rattle.pg_apply_scatter.specs.Desks.{AreDesks, AreSignalsOf, signal_of}
use Rattle.pg_apply_scatter.specs.Delivering.{signals_of}
use Rattle.pg_apply_scatter.proofs.Visiting.{AreVisited}
use Rattle.pg_apply_scatter.proofs.dense.scatter_desks.Given as goal

-- the places so far are visited, and the desk of each vertex has the signals that were sent to it
abbrev pub invariant-loop-place : goal.invariant-loop-place
invariant-loop-place g l = let p = g.P.VertexProgram.meaning l.program in
    record {
      readable : IsReadable p l.graph l.store l.mirrors;
      visited : AreVisited p l.graph l.mirrors l.carries l.initial.store l.place l.store (λ all. (v : ℕ) → signal_of l.mirrors l.desks v ≡ signals_of p v None all);
      desks : AreDesks l.mirrors l.carries (length l.graph.ids) l.desks;
      own : AreSignalsOf p l.desks;
    }
