use Rattle.std.proofs.Common.{◌≡◌, ◌+◌, take}
use Rattle.pg_gather.specs.Partials.{partial_sums, gathers_here}
use Rattle.pg_gather.proofs.partial.partial_sums.Given as goal

-- the wanted vertices so far have their parts
abbrev pub invariant-loop-u : goal.invariant-loop-u
invariant-loop-u g l = let p = g.P.VertexProgram.meaning l.program in
    record {
      sums : l.sums.items ≡ partial_sums p l.graph l.store l.mirrors (take l.u-index l.wanted);
      counted : l.steps ≡ l.initial.steps + gathers_here p l.graph l.store l.mirrors (take l.u-index l.wanted);
    }
