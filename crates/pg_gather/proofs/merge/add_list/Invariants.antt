use Rattle.std.proofs.Common.{◌≡◌, map, take}
use Rattle.pg_gather.specs.Merging.{AreParts, with_list}
use Rattle.pg_gather.proofs.merge.add_list.Given as goal

-- the parts so far are added
abbrev pub invariant-loop-i : goal.invariant-loop-i
invariant-loop-i g l = let p = g.P.VertexProgram.meaning l.program in
    record {
      sums : l.sums ≡ with_list p l.initial.sums (take l.i l.parts);
      vertices : map (λ sum. sum.0) l.sums ≡ l.wanted;
      own : AreParts p l.sums;
    }
