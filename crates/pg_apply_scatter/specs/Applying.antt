-- What the masters apply.
use Rattle.std.specs.Prelude.{◌≡◌, ℕ, ◌<◌, Option, Some, None, List, length, map}
use Rattle.pg_graph.specs.Multigraph.{Multigraph, info}
use Rattle.pg_law.specs.declared.values.Datum.{Datum}
use Rattle.pg_law.specs.declared.values.Applied.{Applied}
use Rattle.pg_law.specs.Program.{Program}
use Rattle.pg_law.specs.Configuration.{datum_in, message_in}

-- the message of a signalled vertex
abbrev pub message_of : Option ℕ → ℕ
message_of None = 0
message_of (Some message) = message

module _ {Acc Carry : Type 0} (p : Program Acc Carry) (g : Multigraph) where
  -- a vertex of the graph that is signalled, with a sum of the program
  pub record IsMastered (messages : List (Option ℕ)) (sum : ℕ × Acc) : Type 0 where
    pub vertex : sum.0 < length g.ids
    pub signalled : (message : ℕ) × (message_in messages sum.0 ≡ Some message)
    pub own : p.IsAcc sum.1

  module _ (values : List Datum) (messages : List (Option ℕ)) where
    -- what a signalled vertex becomes by its sum
    abbrev pub applied_by : ℕ × Acc → Applied Carry
    applied_by sum = p.apply (info g sum.0) (datum_in values sum.0) sum.1 (message_of (message_in messages sum.0))

    -- each listed vertex with what it becomes, in order
    abbrev pub applied_masters : List (ℕ × Acc) → List (ℕ × Applied Carry)
    applied_masters sums = map (λ sum. (sum.0, applied_by sum)) sums
