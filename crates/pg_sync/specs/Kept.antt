-- Which gathers are kept over rounds, after PowerGraph's delta caching, and what the others cost.
use Rattle.std.specs.Prelude.{◌≡◌, ℕ, zero, suc, ◌+◌, ◌≤◌, Bool, true, false, not, cond, ◌||◌, ◌&&◌, Option, Some, None, List, length, filter, sum_by, slice_index}
use Rattle.std.specs.List.{range_with_len}
use Rattle.pg_graph.specs.declared.edge.Side.{Side}
use Rattle.pg_graph.specs.declared.edge.Side.TheVariants.{Source, Target}
use Rattle.pg_graph.specs.Multigraph.{Multigraph, vertices, edges_at, side_at}
use Rattle.pg_law.specs.declared.values.Delta.{Delta}
use Rattle.pg_law.specs.declared.values.Delta.TheVariants.{Nothing, Add, Clear}
use Rattle.pg_law.specs.declared.values.Near.{Near}
use Rattle.pg_law.specs.declared.values.Scattered.{Scattered}
use Rattle.pg_law.specs.Program.{Program}
use Rattle.pg_law.specs.Monoid.{part}
use Rattle.pg_law.specs.Configuration.{Configuration, signalled, is_signalled, is_quiet}
use Rattle.pg_law.specs.Round.{edges_over, outcomes, values_after, from_source, from_target, round}
use Rattle.pg_rounds.specs.Executed.{executed}
use Rattle.pg_cut.specs.Cut.{Division, IsCutOf}
use Rattle.pg_delta.specs.Deltas.{joined_over}

-- the delta of a visit, where there is one
abbrev pub delta_in : {Acc : Type 0} → Option (Scattered Acc) → Delta Acc
delta_in None = Nothing
delta_in (Some scattered) = scattered.delta

-- what an end is told, of the deltas from the source and from the target
abbrev pub told : {Acc : Type 0} → Side → Delta Acc → Delta Acc → Delta Acc
told Source from_source from_target = from_target
told Target from_source from_target = from_source

abbrev pub is_clear : {Acc : Type 0} → Delta Acc → Bool
is_clear Nothing = false
is_clear (Add d) = false
is_clear Clear = true

-- the signalled vertices whose gather isn't kept
abbrev pub unkept : Multigraph → (ℕ → Bool) → Configuration → List ℕ
unkept g kept s = filter (λ u. not (kept u)) (signalled g s)

-- the gathers that are kept once those have gathered
abbrev pub kept_now : (ℕ → Bool) → Configuration → ℕ → Bool
kept_now kept s u = kept u || is_signalled s u

module _ {Acc Carry : Type 0} (p : Program Acc Carry) (g : Multigraph) where
  -- what a round sends to a vertex over an edge, and over all its edges
  abbrev pub delta_over : Configuration → ℕ → ℕ → Delta Acc
  delta_over s v e = let became = outcomes p g s (λ u. true) in
      let values = values_after p g s.values became in
      told (side_at g v e) (delta_in (from_source p g values s.edges became e))
      (delta_in (from_target p g values s.edges became e))

  abbrev pub delta_of : Configuration → ℕ → Delta Acc
  delta_of s v = joined_over p (delta_over s v) (edges_at g v)

  -- the gathers that are kept after a round: a Clear takes one away
  abbrev pub kept_after : (ℕ → Bool) → Configuration → ℕ → Bool
  kept_after kept s u = kept_now kept s u && not (is_clear (delta_of s u))

  -- what rounds cost, where only a vertex without a kept gather costs something
  unfoldable pub cost_of_rounds : (ℕ → ℕ) → (ℕ → Bool) → Configuration → ℕ → ℕ
  cost_of_rounds cost kept s zero = 0
  cost_of_rounds cost kept s (suc limit) = cond (is_quiet g s) 0
      (sum_by cost (unkept g kept s)
      + cost_of_rounds cost (kept_after kept s) (round p g s) limit)

  -- over how many edges a vertex gathers, and over how many of a worker
  abbrev pub gather_degree : ℕ → ℕ
  gather_degree u = length (edges_over p.gather_edges g u)

  abbrev pub gather_degree_on : Division → ℕ → ℕ → ℕ
  gather_degree_on cut w u =
      length (part (slice_index cut.place) w (edges_over p.gather_edges g u))

  -- the gathers of rounds that begin with no kept gather, and those of a worker
  abbrev pub cached_gathers : Configuration → ℕ → ℕ
  cached_gathers s limit = cost_of_rounds gather_degree (λ u. false) s limit

  abbrev pub cached_gathers_on : Division → Configuration → ℕ → ℕ → ℕ
  cached_gathers_on cut s limit w =
      cost_of_rounds (gather_degree_on cut w) (λ u. false) s limit

module _ {Acc Carry : Type 0} (p : Program Acc Carry) where
  -- no scatter answers Clear
  abbrev pub NeverClears : Type 0
  NeverClears = (near : Near) (carry : Carry) → is_clear (p.scatter near carry).delta ≡ false

  -- each vertex that executes gathers once, at its first execution
  pub record AreDistinct (g : Multigraph) (s : Configuration) (limit : ℕ) : Type 0 where
    pub once : cached_gathers p g s limit ≡ sum_by (gather_degree p g) (executed p g s limit)
    pub at_most : cached_gathers p g s limit ≤ sum_by (gather_degree p g) (vertices g)

  abbrev pub GathersAreDistinct : Type 0
  GathersAreDistinct = NeverClears → (g : Multigraph) (s : Configuration) (limit : ℕ)
      → AreDistinct g s limit

  -- what the workers gather is together all that is gathered
  abbrev pub CachedGathersAreShared : Type 0
  CachedGathersAreShared = (g : Multigraph) (cut : Division) (s : Configuration) (limit : ℕ)
      → IsCutOf g cut
      → sum_by (cached_gathers_on p g cut s limit) (range_with_len 0 cut.workers)
      ≡ cached_gathers p g s limit
