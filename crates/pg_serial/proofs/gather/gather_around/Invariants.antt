use Rattle.std.proofs.Common.{◌≡◌, ◌+◌, ◌≤◌, length, take}
use Rattle.std.specs.Prelude.{filter}
use Rattle.pg_graph.specs.Multigraph.{takes, side_at}
use Rattle.pg_law.specs.Round.{sum_over}
use Rattle.pg_serial.proofs.gather.gather_around.Given as goal

abbrev pub invariant-loop-e : goal.invariant-loop-e
invariant-loop-e g l = let p = g.P.VertexProgram.meaning l.program in
    let seen = filter (λ e. takes p.gather_edges (side_at l.graph l.u e)) (take l.e-index l.around) in
    record {
      gathered : l.acc ≡ sum_over p l.graph l.values l.words l.u seen;
      own : p.IsAcc l.acc;
      count : l.count ≡ length seen;
      few : l.count ≤ l.e-index;
      at : l.at ≡ l.e-index;
      counted : l.steps ≡ l.initial.steps + length seen;
    }
