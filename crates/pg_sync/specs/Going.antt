-- Rounds that are being made, and rounds that were made.
use Rattle.std.specs.Prelude.{◌≡◌, ℕ, ◌+◌, ◌-◌, Bool, cond, Option, List, length}
use Rattle.pg_graph.specs.Multigraph.{Multigraph}
use Rattle.pg_law.specs.declared.values.Datum.{Datum}
use Rattle.pg_law.specs.declared.values.End.{End}
use Rattle.pg_law.specs.Program.{Program}
use Rattle.pg_law.specs.Configuration.{Configuration}
use Rattle.pg_law.specs.Rounds.{rounds, end_of}
use Rattle.pg_cut.specs.Cut.{Division}
use Rattle.pg_mirrors.specs.Mirrors.{Mirrors}
use Rattle.pg_delta.specs.declared.cell.CacheCell.{CacheCell}
use Rattle.pg_sync.specs.declared.engine.SyncEnd.{SyncEnd}
use Rattle.pg_sync.specs.declared.worker.Scattering.{Scattering}
use Rattle.pg_sync.specs.Kept.{cost_of_rounds, gather_degree, gather_degree_on}
use Rattle.pg_sync.specs.Cells.{keeps}
use Rattle.pg_sync.specs.Held.{IsHeld, IsKept}
use Rattle.pg_sync.specs.Counting.{gathers_on, gathers_by, gathers_of, AreRaised}

module _ {Acc Carry : Type 0} (p : Program Acc Carry) (g : Multigraph) (cache : Bool)
    (kept : ℕ → Bool) (s : Configuration) (limit : ℕ) where
  -- the gathers that are still to come, where these are kept, and those of a worker
  abbrev pub gathers_left : ℕ
  gathers_left = cond cache (cost_of_rounds p g (gather_degree p g) kept s limit)
      (rounds p g s limit).gathers

  abbrev pub gathers_left_on : Division → ℕ → ℕ
  gathers_left_on cut w = cond cache (cost_of_rounds p g (gather_degree_on p g cut w) kept s limit)
      (gathers_on p g cut s limit w)

module _ {Acc Carry : Type 0} (p : Program Acc Carry) (g : Multigraph) (cut : Division)
    (cache : Bool) (s : Configuration) (limit : ℕ) (made executions gathers : ℕ)
    (workers : List (Scattering Acc)) (mirrors : List Mirrors) (data_kept : List Datum)
    (waiting : List (Option ℕ)) where
  -- after so many of the rounds from s a state is held, from which the rest of them go on
  pub record IsGoing (cells : List (CacheCell Acc)) (before now : List (Option ℕ)) : Type 0 where
    pub state : Configuration
    pub kept : IsKept p g cut state workers mirrors data_kept waiting cells
    pub count : length cells ≡ cond cache (length g.ids) 0
    pub same_state : (rounds p g s limit).state ≡ (rounds p g state (limit - made)).state
    pub same_rounds : (rounds p g s limit).rounds
        ≡ made + (rounds p g state (limit - made)).rounds
    pub same_executions : (rounds p g s limit).executions
        ≡ executions + (rounds p g state (limit - made)).executions
    pub same_gathers : gathers_of p g cache s limit
        ≡ gathers + gathers_left p g cache (keeps p cells) state (limit - made)
    -- the counters took what is taken, and the rest of the rounds adds the rest
    pub taken : ℕ → ℕ
    pub raised : AreRaised taken cut.workers before now
    pub same_taken : (w : ℕ) → gathers_by p g cut cache s limit w
        ≡ taken w + gathers_left_on p g cache (keeps p cells) state (limit - made) cut w

  -- the rounds from s were made: their state is held, and their numbers are these
  pub record IsDone (end : End) : Type 0 where
    pub held : IsHeld p g cut (rounds p g s limit).state workers mirrors data_kept waiting
    pub rounds_are : made ≡ (rounds p g s limit).rounds
    pub executions_are : executions ≡ (rounds p g s limit).executions
    pub gathers_are : gathers ≡ gathers_of p g cache s limit
    pub ends : end ≡ end_of g (rounds p g s limit).state

-- what the rounds from s leave and take
pub record IsEndOf {Acc Carry : Type 0} (p : Program Acc Carry) (g : Multigraph) (cache : Bool)
    (s : Configuration) (limit : ℕ) (end : SyncEnd) : Type 0 where
  pub state_is : end.state ≡ (rounds p g s limit).state
  pub rounds_are : end.rounds ≡ (rounds p g s limit).rounds
  pub executions_are : end.executions ≡ (rounds p g s limit).executions
  pub gathers_are : end.gathers ≡ gathers_of p g cache s limit
  pub ends : end.end ≡ end_of g (rounds p g s limit).state
