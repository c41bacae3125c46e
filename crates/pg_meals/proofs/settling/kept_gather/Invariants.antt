use Rattle.std.proofs.Common.{◌≡◌, take}
use Rattle.std.specs.Prelude.{IfSome}
use Rattle.pg_meals.specs.Plans.{added, added_along}
use Rattle.pg_meals.proofs.settling.kept_gather.Given as goal

-- what waits on the forks so far is added
abbrev pub invariant-loop-e : goal.invariant-loop-e
invariant-loop-e g l = let p = g.P.VertexProgram.meaning l.program in
    record {
      value : l.acc ≡ added_along p.sum l.graph l.forks l.vertex (added p.sum l.cell.acc l.cell.pending) (take l.e-index l.around);
      own : IfSome l.acc p.IsAcc;
    }
