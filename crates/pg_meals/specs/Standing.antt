-- The serial state for which a core stands.
use Rattle.std.specs.Prelude.{ℕ, Bool, Option, None, is_some}
use Rattle.pg_law.specs.declared.values.Delta.{Delta}
use Rattle.pg_law.specs.declared.values.Delta.TheVariants.{Nothing}
use Rattle.pg_law.specs.Program.{Program}
use Rattle.pg_law.specs.Round.{join}
use Rattle.pg_delta.specs.declared.cell.CacheCell.{CacheCell}
use Rattle.pg_delta.specs.Deltas.{joined}
use Rattle.pg_meals.specs.Families.{total}
use Rattle.pg_meals.specs.Shape.{Shape, at_end}
use Rattle.pg_meals.specs.Serial.{Serial}
use Rattle.pg_meals.specs.Core.{Content, Core}

module _ {A : Type 0} (g : Shape) where
  -- the message for v on the fork e, and the delta
  abbrev pub message_at : (ℕ → Content A) → ℕ → ℕ → Option ℕ
  message_at content v e = at_end g v e (λ s. (content e).message s) None

  abbrev pub delta_at : (ℕ → Content A) → ℕ → ℕ → Delta A
  delta_at content v e = at_end g v e (λ s. (content e).delta s) Nothing

module _ {A C : Type 0} (p : Program A C) (g : Shape) where
  -- the message of a vertex is its own, combined with those for it on its forks
  abbrev pub stands : Core A → Serial
  stands c = record {
    value = λ v. (c.place v).datum;
    word = λ e. (c.content e).word;
    message = λ v. join p.combine
        (c.place v).message
        (total (join p.combine) None (message_at g c.content v) g.edges);
  }

  abbrev pub signalled : Core A → ℕ → Bool
  signalled c v = is_some ((stands c).message v)

  -- all that waits to be added to the gather of v: in its cell, and on its forks
  abbrev pub waiting : Core A → ℕ → Delta A
  waiting c v =
      joined p.sum
      (c.place v).cell.pending
      (total (joined p.sum) Nothing (delta_at g c.content v) g.edges)

  -- the cell of v as it is once that has come to it
  abbrev pub cell_in : Core A → ℕ → CacheCell A
  cell_in c v = record { acc = (c.place v).cell.acc; pending = waiting c v }
