-- The shares of the workers of a cut, and what their parts come to.
use Rattle.std.specs.Prelude.{◌≡◌, ◌≢◌, ℕ, ◌<◌, List, length, slice_index, map, All, AllPairs}
use Rattle.std.specs.List.{range_with_len}
use Rattle.pg_graph.specs.Multigraph.{Multigraph, IsMultigraph}
use Rattle.pg_law.specs.Program.{Program}
use Rattle.pg_law.specs.Configuration.{Configuration, IsFit}
use Rattle.pg_law.specs.Round.{fresh}
use Rattle.pg_cut.specs.Cut.{Division, IsCutOf}
use Rattle.pg_edge_store.specs.Store.{Store, IsStoreOf}
use Rattle.pg_mirrors.specs.Mirrors.{Mirrors, mirrors_of}
use Rattle.pg_gather.specs.Partials.{IsReadable, partial_sums}
use Rattle.pg_gather.specs.Merging.{merged}

-- a worker's edges with their words, and its replicas with their data, as a state has them
pub record IsShareOf (g : Multigraph) (cut : Division) (worker : ℕ) (s : Configuration)
    (store : Store) (mirrors : Mirrors) : Type 0 where
  pub edges : IsStoreOf g cut worker store
  pub words : store.words ≡ map (slice_index s.edges) store.numbers
  pub replicas : mirrors ≡ mirrors_of cut worker s.values

-- a share of a cut can be read
abbrev pub SharesAreReadable : {Acc Carry : Type 0} → Program Acc Carry → Type 0
SharesAreReadable p = (g : Multigraph) (cut : Division) (worker : ℕ) (s : Configuration)
    (store : Store) (mirrors : Mirrors)
    → IsMultigraph g → IsCutOf g cut → worker < cut.workers → IsFit p g s
    → IsShareOf g cut worker s store mirrors
    → IsReadable p g store mirrors

-- the parts of all workers, merged, are the fresh gathers
abbrev pub PartsAreFresh : {Acc Carry : Type 0} → Program Acc Carry → Type 0
PartsAreFresh p = (g : Multigraph) (cut : Division) (s : Configuration)
    (stores : ℕ → Store) (mirrors : ℕ → Mirrors) (wanted : List ℕ)
    → IsMultigraph g → IsCutOf g cut → IsFit p g s
    → ((w : ℕ) → w < cut.workers → IsShareOf g cut w s (stores w) (mirrors w))
    → All (λ u. u < length g.ids) wanted → AllPairs (λ a b. a ≢ b) wanted
    → merged p wanted
    (map (λ w. partial_sums p g (stores w) (mirrors w) wanted) (range_with_len 0 cut.workers))
    ≡ map (λ u. (u, fresh p g s u)) wanted
