use Rattle.std.proofs.Common.{length}
use Rattle.std.specs.Prelude.{All}
use Rattle.pg_cut.specs.ByWorker.{lists_in}
use Rattle.pg_paths.specs.Components.{components}
use Rattle.pg_apply_scatter.specs.Sending.{IsSentIn}
use Rattle.pg_cut_tests.proofs.scatter.sent_by_all.Given as goal

abbrev pub invariant-loop-worker : goal.invariant-loop-worker
invariant-loop-worker g l = All (All (IsSentIn components (length l.graph.ids))) (lists_in l.sent.items)
