use Rattle.std.proofs.Common.{◌≡◌, ◌%◌, ◌<◌, length}
use Rattle.pg_greedy.specs.Loaders.{oblivious}
use Rattle.pg_greedy.specs.Drafts.{IsDraft, StandsAs}
use Rattle.pg_greedy.proofs.loaders.oblivious.Given as goal

-- the edges of the loaders that had their turn stand
abbrev pub invariant-loop-loader : goal.invariant-loop-loader
invariant-loop-loader l = record {
  graph : l.table.graph ≡ l.graph;
  workers : l.table.workers ≡ l.workers;
  draft : IsDraft (length l.graph.edges) l.workers l.draft.place.items l.draft.cases.items;
  stand : (x : _) → x < length l.graph.edges → x % l.loaders < l.loader
      → StandsAs (oblivious l.graph l.workers l.loaders) l.draft.place.items l.draft.cases.items x;
}
