use Rattle.std.proofs.Common.{◌≡◌, ◌+◌, length, get_or, take}
use Rattle.pg_edge_store.specs.Store.{places_taken}
use Rattle.pg_gather.specs.Partials.{sum_at}
use Rattle.pg_gather.proofs.partial.partial_sum.Given as goal

-- the places so far that the direction takes in are summed
abbrev pub invariant-loop-place : goal.invariant-loop-place
invariant-loop-place g l = let p = g.P.VertexProgram.meaning l.program in
    let taken = places_taken l.store.edges l.replica l.dir (take l.place-index l.row) in
    record {
      sum : l.acc ≡ sum_at p l.graph l.store l.mirrors (get_or l.store.vertices l.replica 0) taken;
      own : p.IsAcc l.acc;
      counted : l.steps ≡ l.initial.steps + length taken;
    }
