-- The gathers of each worker, over the rounds of a run.
use Rattle.std.specs.Prelude.{◌≡◌, ℕ, zero, suc, ◌+◌, ◌<◌, Bool, cond, Option, Some, None, List, length, slice_index, slice_index_or, map, sum_by}
use Rattle.std.specs.List.{range_with_len}
use Rattle.pg_graph.specs.Multigraph.{Multigraph}
use Rattle.pg_law.specs.Program.{Program}
use Rattle.pg_law.specs.Monoid.{part}
use Rattle.pg_law.specs.Configuration.{Configuration, signalled, is_quiet}
use Rattle.pg_law.specs.Round.{edges_over, round}
use Rattle.pg_law.specs.Rounds.{rounds}
use Rattle.pg_cut.specs.Cut.{Division, IsCutOf}
use Rattle.pg_sync.specs.Phases.{Seat}
use Rattle.pg_sync.specs.Kept.{cached_gathers, cached_gathers_on}

-- over how many edges of a worker the signalled vertices gather in a round
abbrev pub gathers_in_on : {Acc Carry : Type 0} → Program Acc Carry → Multigraph → Division
    → Configuration → ℕ → ℕ
gathers_in_on p g cut s w =
    sum_by (λ u. length (part (slice_index cut.place) w (edges_over p.gather_edges g u)))
    (signalled g s)

-- and in rounds until nothing is signalled, or so many
unfoldable pub gathers_on : {Acc Carry : Type 0} → Program Acc Carry → Multigraph → Division
    → Configuration → ℕ → ℕ → ℕ
gathers_on p g cut s zero w = 0
gathers_on p g cut s (suc limit) w = cond (is_quiet g s) 0
    (gathers_in_on p g cut s w + gathers_on p g cut (round p g s) limit w)

-- the counters of the workers
abbrev pub counters_of : {Acc : Type 0} → List (Seat Acc) → List (Option ℕ)
counters_of seats = map (λ seat. seat.0) seats

-- each worker's counter rose by so many
abbrev pub AreRaised : (ℕ → ℕ) → ℕ → List (Option ℕ) → List (Option ℕ) → Type 0
AreRaised gathers count before after = (w : ℕ) → w < count → (n : ℕ)
    → slice_index_or before w None ≡ Some n
    → slice_index_or after w None ≡ Some (n + gathers w)

-- the same with kept gathers, where there are caches
abbrev pub gathers_by : {Acc Carry : Type 0} → Program Acc Carry → Multigraph → Division → Bool
    → Configuration → ℕ → ℕ → ℕ
gathers_by p g cut cache s limit w =
    cond cache (cached_gathers_on p g cut s limit w) (gathers_on p g cut s limit w)

-- all gathers of the rounds
abbrev pub gathers_of : {Acc Carry : Type 0} → Program Acc Carry → Multigraph → Bool
    → Configuration → ℕ → ℕ
gathers_of p g cache s limit = cond cache (cached_gathers p g s limit) (rounds p g s limit).gathers

-- each worker's counter took its gathers
pub record AreCounted {Acc Carry : Type 0} (p : Program Acc Carry) (g : Multigraph)
    (cut : Division) (cache : Bool) (s : Configuration) (limit : ℕ)
    (before after : List (Option ℕ)) : Type 0 where
  pub each : AreRaised (gathers_by p g cut cache s limit) cut.workers before after

-- the workers' gathers are all gathers
abbrev pub GathersAreShared : {Acc Carry : Type 0} → Program Acc Carry → Type 0
GathersAreShared p = (g : Multigraph) (cut : Division) (s : Configuration) (limit : ℕ)
    → IsCutOf g cut
    → sum_by (gathers_on p g cut s limit) (range_with_len 0 cut.workers)
    ≡ (rounds p g s limit).gathers
