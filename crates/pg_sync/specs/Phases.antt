-- What the two phases leave of each worker.
use Rattle.std.specs.Prelude.{◌≡◌, ℕ, ◌+◌, ◌<◌, Bool, List, length, slice_index_or, Option, Some, Vec, All, IfOk, OnOk, IfSome, IsSome}
use Rattle.std.specs.declared.alloc.Global.{Global}
use Rattle.pg_graph.specs.Multigraph.{Multigraph}
use Rattle.pg_law.specs.Program.{Program}
use Rattle.pg_edge_store.specs.Store.{Store}
use Rattle.pg_mirrors.specs.Mirrors.{Mirrors}
use Rattle.pg_gather.specs.Partials.{IsReadable, partial_sums, gathers_here}
use Rattle.pg_apply_scatter.specs.Pushing.{table_at}
use Rattle.pg_apply_scatter.specs.Sending.{sent_from, IsSentIn}
use Rattle.pg_apply_scatter.specs.Delivering.{StandsFor}
use Rattle.pg_apply_scatter.specs.Halves.{store_after}
use Rattle.pg_sync.specs.declared.worker.Scattering.{Scattering}

-- what a worker has while it gathers: its counter, and what it summed last
abbrev pub Seat : Type 0 → Type 0
Seat Acc = Option ℕ × Option (Vec (ℕ × Acc) Global)

module _ {Acc Carry : Type 0} (p : Program Acc Carry) (g : Multigraph) (s : Store)
    (m : Mirrors) where
  -- the sums of the wanted vertices over the worker's own edges, each gather counted
  pub record HasGathered (wanted : List ℕ) (old new : Seat Acc) : Type 0 where
    pub present : IsSome new.0
    pub sums : IfSome new.1 (λ sums. sums.items ≡ partial_sums p g s m wanted)
    pub counted : IsSome new.1 → (n : ℕ) → old.0 ≡ Some n
        → new.0 ≡ Some (n + gathers_here p g s m wanted)

module _ {Acc Carry : Type 0} (p : Program Acc Carry) (g : Multigraph) (m : Mirrors) where
  -- what the worker sends over its own edges, or signals alone that deliver the same, and its words
  -- after
  pub record HasScattered (carries : List (Option Carry)) (with_deltas : Bool)
      (old new : Scattering Acc) : Type 0 where
    pub store : OnOk new.sent (new.store ≡ store_after p g m carries old.store)
    pub sent : IfOk new.sent (λ sent.
        StandsFor p with_deltas sent.items (sent_from p g m carries old.store))
    pub own : IfOk new.sent (λ sent. All (IsSentIn p (length g.ids)) sent.items)

-- each worker can read its own edges through its own replicas
pub record AreReadable {Acc Carry : Type 0} (p : Program Acc Carry) (g : Multigraph)
    (workers : List (Scattering Acc)) (mirrors : List Mirrors) : Type 0 where
  pub each : (w : ℕ) (d : Scattering Acc) → w < length workers
      → IsReadable p g (slice_index_or workers w d).store (table_at mirrors w)
