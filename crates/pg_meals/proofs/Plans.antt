-- What is planned of a board is what is prepared of the core that it shows.
use Rattle.std.proofs.Common.{ℕ, ◌≡◌, Bool, true, false, cond, Option, Some, None, refl}
use Rattle.pg_graph.specs.declared.edge.Side.{Side}
use Rattle.pg_graph.specs.declared.edge.Side.TheVariants.{Source, Target}
use Rattle.pg_graph.specs.Multigraph.{opposite, takes}
use Rattle.pg_law.specs.declared.values.Datum.{Datum}
use Rattle.pg_law.specs.declared.values.Delta.TheVariants.{Nothing}
use Rattle.pg_law.specs.declared.values.Scattered.{Scattered}
use Rattle.pg_law.specs.Program.{Program}
use Rattle.pg_law.specs.Round.{join}
use Rattle.pg_law.specs.Values.{two}
use Rattle.pg_delta.specs.Deltas.{joined}
use Rattle.pg_meals.specs.declared.fork.Ride.{Ride}
use Rattle.pg_meals.specs.declared.fork.Carried.{Carried}
use Rattle.pg_meals.specs.Shape.{Shape}
use Rattle.pg_meals.specs.Serial.{or_zero}
use Rattle.pg_meals.specs.Core.{by_side}
use Rattle.pg_meals.specs.Preparing.{content_sent, content_kept, content_after}
use Rattle.pg_meals.specs.Entries.{at_side}
use Rattle.pg_meals.specs.Shown.{content_of, half_noted}
use Rattle.pg_meals.specs.Plans.{datum_noted, laid_for, carried_sent, carried_kept}

module _ {A : Type 0} where
  laid_message : (s t : Side) (w : ℕ) (ride : Ride A) → (at_side t (laid_for s w ride)).message ≡ by_side s None ride.message t
  laid_message Source Source w ride = refl
  laid_message Source Target w ride = refl
  laid_message Target Source w ride = refl
  laid_message Target Target w ride = refl

  laid_delta : (s t : Side) (w : ℕ) (ride : Ride A) → (at_side t (laid_for s w ride)).delta ≡ by_side s Nothing ride.delta t
  laid_delta Source Source w ride = refl
  laid_delta Source Target w ride = refl
  laid_delta Target Source w ride = refl
  laid_delta Target Target w ride = refl

  laid_word : (s : Side) (w : ℕ) (ride : Ride A) → (laid_for s w ride).word ≡ w
  laid_word Source w ride = refl
  laid_word Target w ride = refl

  -- what is laid for an end, as the core has it
  laid_content : (s : Side) (w : ℕ) (ride : Ride A) → content_of (laid_for s w ride) ≡ record { word = w; message = by_side s None ride.message; delta = by_side s Nothing ride.delta }
  laid_content s w ride = λ j. record { word = laid_word s w ride j; message = λ t. laid_message s t w ride j; delta = λ t. laid_delta s t w ride j }

-- what a fork carries after an execution, as the core has it
pub planned_content : {A C : Type 0} (p : Program A C) (g : Shape) (s : Side) (x : Carried A) (sc : Scattered A)
    → content_of (cond (takes p.scatter_edges s) (carried_sent p s x sc) (carried_kept s x)) ≡ content_after p g s (content_of x) sc
planned_content p g s x sc = go (takes p.scatter_edges s)
  where
    go : (b : Bool) → content_of (cond b (carried_sent p s x sc) (carried_kept s x)) ≡ cond b (content_sent p g s (content_of x) sc) (content_kept p g s (content_of x))
    go true = laid_content s sc.edge (record {
      message = join p.combine (at_side (opposite s) x).message sc.signal;
      delta = joined p.sum (at_side (opposite s) x).delta sc.delta;
    })
    go false = laid_content s x.word (at_side (opposite s) x)

-- a noted datum, by its halves
pub datum_by_halves : (noted : Option Datum) → datum_noted noted ≡ two (or_zero (half_noted 0 noted)) (or_zero (half_noted 1 noted))
datum_by_halves None = refl
datum_by_halves (Some d) = refl
