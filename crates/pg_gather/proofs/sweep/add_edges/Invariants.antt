use Rattle.std.proofs.Common.{◌≡◌, ◌+◌, length}
use Rattle.std.specs.Prelude.{sum_by}
use Rattle.pg_gather.specs.Desks.{AreDesks, HaveSums}
use Rattle.pg_gather.proofs.Sweeping.{places_below}
use Rattle.pg_gather.proofs.sweep.add_edges.Given as goal

-- the edges so far are gone over
abbrev pub invariant-loop-place : goal.invariant-loop-place
invariant-loop-place g l = let p = g.P.VertexProgram.meaning l.program in
    record {
      desks : AreDesks p l.mirrors l.desks;
      sums : HaveSums p l.graph l.store l.mirrors l.wanted l.place l.desks;
      counted : l.steps ≡ l.initial.steps + sum_by (λ u. length (places_below p l.graph l.store l.place u)) l.wanted;
    }
