-- What the edges see of the vertices that execute: their carries.
use Rattle.std.specs.Prelude.{◌≡◌, ℕ, ◌<◌, cond, Option, Some, None, List, length, slice_index_or}
use Rattle.pg_graph.specs.Multigraph.{Multigraph, takes}
use Rattle.pg_graph.specs.declared.edge.Side.{Side}
use Rattle.pg_law.specs.declared.values.Datum.{Datum}
use Rattle.pg_law.specs.declared.values.Applied.{Applied}
use Rattle.pg_law.specs.declared.values.Scattered.{Scattered}
use Rattle.pg_law.specs.Program.{Program}
use Rattle.pg_law.specs.Round.{near_of}

-- the carry of a vertex, where it executes
abbrev pub carry_at : {Carry : Type 0} → List (Option Carry) → ℕ → Option Carry
carry_at carries v = slice_index_or carries v None

abbrev pub carry_in : {Carry : Type 0} → Option (Applied Carry) → Option Carry
carry_in None = None
carry_in (Some applied) = Some applied.carry

abbrev pub IsCarried : {Acc Carry : Type 0} → Program Acc Carry → Option Carry → Type 0
IsCarried p None = Unit {0}
IsCarried p (Some carry) = p.IsCarry carry

pub record AreCarries {Acc Carry : Type 0} (p : Program Acc Carry) (g : Multigraph) (carries : List (Option Carry)) : Type 0 where
  pub count : length carries ≡ length g.ids
  pub each : (v : ℕ) → v < length g.ids → IsCarried p (carry_at carries v)

-- what an edge with this word scatters from the side of a vertex with this carry
abbrev pub scatter_with : {Acc Carry : Type 0} → Program Acc Carry → Multigraph → List Datum → Side → ℕ → ℕ → Option Carry → Option (Scattered Acc)
scatter_with p g values side e word None = None
scatter_with p g values side e word (Some carry) = cond (takes p.scatter_edges side) (Some (p.scatter (near_of g values side e word) carry)) None
