use Rattle.std.proofs.Common.{◌≡◌, ◌+◌, take}
use Rattle.pg_delta.specs.Deltas.{gather_over}
use Rattle.pg_delta.proofs.filling.gather_all.Given as goal

-- the gather over the edges so far
abbrev pub invariant-loop-one : goal.invariant-loop-one
invariant-loop-one g l = let p = g.P.VertexProgram.meaning l.program in
    record {
      acc : l.acc ≡ gather_over p (take l.one-index l.near);
      own : p.IsAcc l.acc;
      counted : l.steps ≡ l.initial.steps + l.one-index;
    }
