-- What the edges see of the vertices that execute: their carries.
use Rattle.std.specs.Prelude.{Option, Some, None, List, map}
use Rattle.pg_graph.specs.Multigraph.{Multigraph, vertices, info}
use Rattle.pg_law.specs.declared.values.Datum.{Datum}
use Rattle.pg_law.specs.declared.values.Applied.{Applied}
use Rattle.pg_law.specs.Program.{Program}
use Rattle.pg_law.specs.Carries.{carry_at}

-- one of what a vertex may have become with this carry: its edges can't tell them apart
abbrev pub outcome_with : {Carry : Type 0} → Datum → Option Carry → Option (Applied Carry)
outcome_with datum None = None
outcome_with datum (Some carry) = Some (record { datum = datum; again = None; carry = carry })

unfoldable pub outcomes_with : {Acc Carry : Type 0} → Program Acc Carry → Multigraph → List (Option Carry) → List (Option (Applied Carry))
outcomes_with p g carries = map (λ v. outcome_with (p.start (info g v)).datum (carry_at carries v)) (vertices g)
