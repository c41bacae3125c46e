-- The set of the signalled vertices beside the state, and the vertex that it gives next.
use Rattle.std.specs.Prelude.{◌≡◌, ℕ, ◌<◌, ◌⊎◌, Option, Some, None, List, length, true}
use Rattle.pg_graph.specs.Multigraph.{Multigraph}
use Rattle.pg_law.specs.Configuration.{Configuration, is_signalled}
use Rattle.pg_serial.specs.Bits.{has}
use Rattle.pg_serial.specs.Serial.{least_signalled}

-- the set has the signalled vertices, and no others
abbrev pub HasSignalled : List ℕ → Configuration → Type 0
HasSignalled queue s = (v : ℕ) → has queue v ≡ is_signalled s v

-- the vertex that executes next, where so many executions are left
pub record IsNext (g : Multigraph) (s : Configuration) (left u : ℕ) : Type 0 where
  pub some : 0 < left
  pub within : u < length g.ids
  pub signalled : is_signalled s u ≡ true
  pub least : least_signalled g s ≡ Some u

abbrev pub IsNextOf : Multigraph → Configuration → ℕ → Option ℕ → Type 0
IsNextOf g s left None = (left ≡ 0) ⊎ (least_signalled g s ≡ None)
IsNextOf g s left (Some u) = IsNext g s left u
