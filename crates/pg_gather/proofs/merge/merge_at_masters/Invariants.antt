use Rattle.std.proofs.Common.{◌≡◌, take}
use Rattle.pg_cut.specs.ByWorker.{lists_in}
use Rattle.pg_gather.specs.Merging.{AreParts, merged}
use Rattle.pg_gather.proofs.merge.merge_at_masters.Given as goal

-- the lists so far are merged
abbrev pub invariant-loop-i : goal.invariant-loop-i
invariant-loop-i g l = let p = g.P.VertexProgram.meaning l.program in
    record {
      sums : l.sums.items ≡ merged p l.wanted (take l.i (lists_in l.parts.items));
      own : AreParts p l.sums.items;
    }
