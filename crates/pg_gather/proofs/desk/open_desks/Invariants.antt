use Rattle.std.proofs.Common.{take}
use Rattle.pg_gather.specs.Desks.{AreDesks, HaveSums}
use Rattle.pg_gather.proofs.desk.open_desks.Given as goal

-- the wanted vertices so far have empty sums
abbrev pub invariant-loop-u : goal.invariant-loop-u
invariant-loop-u g l = let p = g.P.VertexProgram.meaning l.program in
    record {
      desks : AreDesks p l.mirrors l.desks;
      sums : HaveSums p l._graph l._store l.mirrors (take l.u-index l.wanted) 0 l.desks;
    }
