use Rattle.std.proofs.Common.{◌≡◌, map}
use Rattle.std.specs.Prelude.{All}
use Rattle.std.specs.List.{range_with_len}
use Rattle.pg_cut.specs.WorkerSet.{workers_in, IsWithin}
use Rattle.pg_cut.specs.Cut.{span_of}
use Rattle.pg_cut.proofs.span.spans_of.Given as goal

-- the spans so far
abbrev pub invariant-loop-v : goal.invariant-loop-v
invariant-loop-v l = record {
  value : map workers_in l.spans.items ≡ map (span_of l.graph l.workers l.place) (range_with_len 0 l.v);
  within : All (IsWithin l.workers) l.spans.items;
}
