use Rattle.std.proofs.Common.{◌≤◌, drop}
use Rattle.std.specs.List.{flat_map, range_with_len}
use Rattle.pg_base.specs.Writing.{Sent}
use Rattle.pg_main.specs.CutTexts.{workers_text, worker_line}
use Rattle.pg_main.proofs.cut_text.write_workers.Given as goal

-- what is left to send
abbrev pub invariant-loop-worker : goal.invariant-loop-worker
invariant-loop-worker g l = record {
  sent : Sent (g.K.Sink.written l.fn.out) (g.K.Sink.written l.out) (workers_text l.cut) (flat_map (worker_line l.cut) (drop l.worker (range_with_len 0 l.cut.workers)));
  later : g.K.Sink.faults l.fn.out ≤ g.K.Sink.faults l.out;
}
