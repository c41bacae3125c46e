use Rattle.std.proofs.Common.{◌≡◌, ◌%◌, ◌<◌, length}
use Rattle.std.specs.List.{range_with_len}
use Rattle.pg_greedy.specs.Loaders.{coordinated, coordinated_places, table_after}
use Rattle.pg_greedy.specs.Drafts.{IsDraft, StandsAs}
use Rattle.pg_greedy.proofs.together.place_batch.Given as goal

-- the table is the merged one, and the edges of the loaders that had their turn stand
abbrev pub invariant-loop-loader : goal.invariant-loop-loader
invariant-loop-loader l = record {
  workers : l.table.workers ≡ l.workers;
  table : l.table ≡ table_after l.graph l.workers l.table.first (coordinated_places l.graph l.workers l.loaders) (range_with_len 0 l.start);
  draft : IsDraft (length l.graph.edges) l.workers l.draft.place.items l.draft.cases.items;
  before : (x : _) → x < l.start → StandsAs (coordinated l.graph l.workers l.loaders) l.draft.place.items l.draft.cases.items x;
  stand : (x : _) → x < l.end → x % l.loaders < l.loader → StandsAs (coordinated l.graph l.workers l.loaders) l.draft.place.items l.draft.cases.items x;
}
