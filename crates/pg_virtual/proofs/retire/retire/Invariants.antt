use Rattle.pg_virtual.specs.Stretches.{IsPlayed}
use Rattle.pg_virtual.proofs.Retired.{IsWriting, IsBacking}
use Rattle.pg_virtual.proofs.retire.retire.Given as goal

-- the replicas on the workers so far are written
abbrev pub invariant-loop-worker : goal.invariant-loop-worker
invariant-loop-worker g l = record {
  played : IsPlayed l.fn.table l.table;
  writing : IsWriting g.P.VertexProgram.meaning l.fn.table l.fn.actor l.vertex l.worker l.table.board;
}

-- the forks so far were given back
abbrev pub invariant-loop-edge : goal.invariant-loop-edge
invariant-loop-edge g l = record {
  played : IsPlayed l.fn.table l.table;
  backing : IsBacking g.P.VertexProgram.meaning l.fn.table l.fn.actor l.vertex l.edge-index l.table.board;
}
