-- How long an end waits for a fork that it asked for.
use Rattle.std.specs.Prelude.{ℕ, ◌+◌, ◌≡◌, ◌≢◌, ◌<◌, ◌≤◌, length, List, [], ◌∷◌, true, false, Some}
use Rattle.pg_graph.specs.declared.edge.Side.{Side}
use Rattle.pg_graph.specs.Multigraph.{opposite, end_at}
use Rattle.pg_law.specs.Program.{Program}
use Rattle.pg_meals.specs.Shape.{Shape}
use Rattle.pg_meals.specs.Words.{Grip}
use Rattle.pg_meals.specs.Ranks.{entries_of}
use Rattle.pg_meals.specs.Core.{Core}
use Rattle.pg_meals.specs.Acts.{Back, Commit}
use Rattle.pg_meals.specs.Setting.{Setting, shape_in, IsSetting, Stands}
use Rattle.pg_meals.specs.Runs.{Deed, Acts, Runs}

-- what an actor holds that is at another vertex than u, took the fork e, and found no evidence
pub record IsTakenForNothing (grip : Grip) (u e : ℕ) : Type 0 where
  pub other : grip.vertex ≢ Some u
  pub uncommitted : grip.committed ≡ false
  pub taken : grip.taken e ≡ true
  pub unknown : grip.evidence ≡ false

module _ {A C : Type 0} (p : Program A C) where
  -- the deed is no entry of u, and doesn't give the fork e back unused
  abbrev pub IsCalm : ℕ → ℕ → Core A → ℕ → Deed → Type 0
  IsCalm u e c a (Acts Commit) = (c.words.grip a).vertex ≢ Some u
  IsCalm u e c a (Acts (Back f)) = f ≡ e → IsTakenForNothing (c.words.grip a) u e → ⊥
  IsCalm u e c a _ = Unit {0}

  abbrev pub AllCalm : ℕ → ℕ → (g : Shape) (fuel : ℕ) (c : Core A) (ds : List (ℕ × Deed))
      (c' : Core A) → Runs p g fuel c ds c' → Type 0
  AllCalm u e g fuel c [] c' r = Unit {0}
  AllCalm u e g fuel c (d ∷ ds) c' r =
      IsCalm u e c d.0 d.1 × AllCalm u e g fuel r.0 ds c' r.2

  -- once u, at the end s, asked for the fork, the other end commits at most once before u does
  -- unless it gives the fork back unused: then u counts from when it asks next
  abbrev pub AtMostOnePass : Type 0
  AtMostOnePass = (x : Setting) → IsSetting p x → (c : Core A) (e : ℕ) (s : Side) → Stands p x c
      → e < length x.graph.edges
      → (c.words.fork e).side ≡ opposite s → (c.words.fork e).asked ≡ true
      → (ds : List (ℕ × Deed)) (c' : Core A) (r : Runs p (shape_in x) x.fuel c ds c')
      → AllCalm (end_at x.graph s e) e (shape_in x) x.fuel c ds c' r
      → entries_of (end_at x.graph (opposite s) e) c'.words.journal
      ≤ entries_of (end_at x.graph (opposite s) e) c.words.journal + 1
