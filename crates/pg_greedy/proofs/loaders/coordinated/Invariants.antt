use Rattle.std.proofs.Common.{◌≡◌, ◌-◌, ◌<◌, ◌≤◌, length}
use Rattle.std.specs.List.{range_with_len}
use Rattle.pg_greedy.specs.Loaders.{coordinated, coordinated_places, batch_start, table_after}
use Rattle.pg_greedy.specs.Drafts.{IsDraft, StandsAs}
use Rattle.pg_greedy.proofs.loaders.coordinated.Given as goal

-- the edges of the earlier batches stand, and the table has seen them all
abbrev pub invariant-loop-start : goal.invariant-loop-start
invariant-loop-start l = record {
  low : l.start ≤ length l.graph.edges;
  aligned : l.start < length l.graph.edges → batch_start l.loaders l.start ≡ l.start;
  workers : l.table.workers ≡ l.workers;
  table : l.table ≡ table_after l.graph l.workers l.table.first (coordinated_places l.graph l.workers l.loaders) (range_with_len 0 l.start);
  draft : IsDraft (length l.graph.edges) l.workers l.draft.place.items l.draft.cases.items;
  stand : (x : _) → x < l.start → StandsAs (coordinated l.graph l.workers l.loaders) l.draft.place.items l.draft.cases.items x;
}

abbrev pub decreases-loop-start : goal.decreases-loop-start
decreases-loop-start l = l.edges - l.start
