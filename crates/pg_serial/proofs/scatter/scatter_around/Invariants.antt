use Rattle.std.proofs.Common.{◌≡◌, length, take}
use Rattle.std.specs.List.{All}
use Rattle.pg_graph.specs.Multigraph.{edges_at}
use Rattle.pg_serial.specs.Sending.{sents_over, IsAddressed}
use Rattle.pg_serial.proofs.scatter.scatter_around.Given as goal

-- what the edges so far send
abbrev pub invariant-loop-e : goal.invariant-loop-e
invariant-loop-e g l = let p = g.P.VertexProgram.meaning l.program in
    record {
      value : l.sents.items ≡ sents_over p l.graph l.values l.words l.u l.applied (take l.e-index (edges_at l.graph l.u));
      own : All (IsAddressed p (length l.graph.edges) (length l.graph.ids)) l.sents.items;
      at : l.at ≡ l.e-index;
    }
