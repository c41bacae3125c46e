use Rattle.std.proofs.Common.{◌≤◌, drop}
use Rattle.std.specs.List.{flat_map}
use Rattle.pg_base.specs.Writing.{Sent}
use Rattle.pg_graph.specs.Multigraph.{vertices}
use Rattle.pg_report.specs.Report.{signals_text, signal_at}
use Rattle.pg_report.proofs.write.write_signals.Given as goal

-- what is left to send
abbrev pub invariant-loop-v : goal.invariant-loop-v
invariant-loop-v g l = record {
  sent : Sent (g.K.Sink.written l.fn.sink) (g.K.Sink.written l.sink) (signals_text l.graph l.state) (flat_map (signal_at l.graph l.state) (drop l.v (vertices l.graph)));
  later : g.K.Sink.faults l.fn.sink ≤ g.K.Sink.faults l.sink;
}
