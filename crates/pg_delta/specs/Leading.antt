-- How a gather over many edges changes.
use Rattle.std.specs.Prelude.{ℕ, List}
use Rattle.std.specs.List.{AllByRecursion}
use Rattle.pg_law.specs.declared.values.Delta.{Delta}
use Rattle.pg_law.specs.Program.{Program}
use Rattle.pg_law.specs.Laws.{IsDelta, LeadsTo}
use Rattle.pg_delta.specs.Deltas.{joined_over, summed_over}

module _ {Acc Carry : Type 0} (p : Program Acc Carry) where
  -- over one edge the gather changes so
  pub record IsChange (before : Acc) (delta : Delta Acc) (after : Acc) : Type 0 where
    pub before_own : p.IsAcc before
    pub delta_own : IsDelta p.IsAcc delta
    pub after_own : p.IsAcc after
    pub leads : LeadsTo p.sum before delta after

  -- what leads over each edge leads over all of them
  abbrev pub DeltasLead : Type 0
  DeltasLead = (before after : ℕ → Acc) (delta : ℕ → Delta Acc) (edges : List ℕ)
      → AllByRecursion (λ e. IsChange (before e) (delta e) (after e)) edges
      → LeadsTo p.sum (summed_over p before edges) (joined_over p delta edges) (summed_over p after edges)
