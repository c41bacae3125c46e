-- Workers and masters that hold a state of which some vertices have applied.
use Rattle.std.specs.Prelude.{◌≡◌, ℕ, List}
use Rattle.pg_graph.specs.Multigraph.{Multigraph}
use Rattle.pg_law.specs.declared.values.Applied.{Applied}
use Rattle.pg_law.specs.Program.{Program}
use Rattle.pg_law.specs.Configuration.{Configuration}
use Rattle.pg_cut.specs.Cut.{Division}
use Rattle.pg_mirrors.specs.Mirrors.{Mirrors}
use Rattle.pg_apply_scatter.specs.Halves.{applied_round}
use Rattle.pg_sync.specs.declared.worker.Scattering.{Scattering}
use Rattle.pg_sync.specs.declared.masters.Masters.{Masters}
use Rattle.pg_sync.specs.Held.{IsHeld}

-- they hold some state, and these are what a round of it applies
pub record IsApplying {Acc Carry : Type 0} (p : Program Acc Carry) (g : Multigraph) (cut : Division)
    (workers : List (Scattering Acc)) (mirrors : List Mirrors) (masters : Masters Carry)
    (applied : List (ℕ × Applied Carry)) : Type 0 where
  pub state : Configuration
  pub held : IsHeld p g cut state workers mirrors masters.values.items masters.messages.items
  pub applies : applied ≡ applied_round p g state
