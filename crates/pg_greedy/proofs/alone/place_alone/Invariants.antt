use Rattle.std.proofs.Common.{◌≡◌, ◌-◌, ◌%◌, ◌<◌, length}
use Rattle.pg_greedy.specs.Loaders.{oblivious, oblivious_places, table_at}
use Rattle.pg_greedy.specs.Drafts.{IsDraft, StandsAs}
use Rattle.pg_greedy.proofs.alone.place_alone.Given as goal

-- the edges of the loader that came before this one stand
abbrev pub invariant-loop-e : goal.invariant-loop-e
invariant-loop-e l = record {
  turn : l.e % l.loaders ≡ l.loader;
  table : l.table ≡ table_at l.graph l.workers l.loaders 0 (oblivious_places l.graph l.workers l.loaders) l.e;
  draft : IsDraft (length l.graph.edges) l.workers l.draft.place.items l.draft.cases.items;
  before : (x : _) → x < length l.graph.edges → x % l.loaders < l.loader
      → StandsAs (oblivious l.graph l.workers l.loaders) l.draft.place.items l.draft.cases.items x;
  own : (x : _) → x < l.e → x % l.loaders ≡ l.loader → StandsAs (oblivious l.graph l.workers l.loaders) l.draft.place.items l.draft.cases.items x;
}

abbrev pub decreases-loop-e : goal.decreases-loop-e
decreases-loop-e l = l.edges - l.e
