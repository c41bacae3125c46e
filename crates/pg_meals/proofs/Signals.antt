-- Evidence: what shows that a vertex is signalled.
use Rattle.std.proofs.Common.{ℕ, zero, suc, ◌<◌, ◌≡◌, ◌⊎◌, true, Option, Some, None, inl, inr, arith, refl, ap, subst, ◌∙◌}
use Rattle.pg_graph.specs.declared.edge.Side.{Side}
use Rattle.pg_meals.specs.Shape.{Shape}
use Rattle.pg_meals.proofs.Shapes.{Graphlike}
use Rattle.pg_law.specs.Program.{Program}
use Rattle.pg_law.specs.Round.{join}
use Rattle.pg_meals.specs.Families.{total}
use Rattle.pg_meals.specs.Core.{Core}
use Rattle.pg_meals.specs.Standing.{signalled, message_at}
use Rattle.std.specs.Prelude.{is_some}
use Rattle.pg_meals.proofs.Entries.{at_end_is}

-- a message stays when it is joined with another
pub join_some_left : (f : ℕ → ℕ → ℕ) (x y : Option ℕ) → is_some x ≡ true → is_some (join f x y) ≡ true
join_some_left f None y e = absurd (cc)
join_some_left f (Some x) None e = refl
join_some_left f (Some x) (Some y) e = refl

-- from either side
pub join_some_right : (f : ℕ → ℕ → ℕ) (x y : Option ℕ) → is_some y ≡ true → is_some (join f x y) ≡ true
join_some_right f None y e = e
join_some_right f (Some x) None e = refl
join_some_right f (Some x) (Some y) e = refl

last_or_less : (k n : ℕ) → k < suc n → (k < n) ⊎ (k ≡ n)
last_or_less k n i = grind arith

some_step : (f : ℕ → ℕ → ℕ) (h : ℕ → Option ℕ) (n k : ℕ) (before : Option ℕ) → (k < n → is_some before ≡ true) → (k < n) ⊎ (k ≡ n) → is_some (h k) ≡ true → is_some (join f before (h n)) ≡ true
some_step f h n k before rest (inl j) e = join_some_left f _ _ (rest j)
some_step f h n k before rest (inr j) e = join_some_right f before (h n) (subst (λ x. is_some (h x) ≡ true) j e)

total_some : (f : ℕ → ℕ → ℕ) (h : ℕ → Option ℕ) (n k : ℕ) → k < n → is_some (h k) ≡ true → is_some (total (join f) None h n) ≡ true
total_some f h zero k i e = absurd (omega arith)
total_some f h (suc n) k i e = some_step f h n k (total (join f) None h n) (λ j. total_some f h n k j e) (last_or_less k n i) e

module _ {A C : Type 0} (p : Program A C) (g : Shape) where
  -- by a message of its own
  pub own_signals : (c : Core A) (v : ℕ) → is_some (c.place v).message ≡ true → signalled p g c v ≡ true
  own_signals c v e = join_some_left p.combine (c.place v).message _ e

  -- by a message that rides to it
  pub ridden_signals : (c : Core A) (s : Side) (v e : ℕ) → Graphlike g → e < g.edges → g.end s e ≡ v → is_some ((c.content e).message s) ≡ true → signalled p g c v ≡ true
  ridden_signals c s v e plain i at t =
      join_some_right p.combine (c.place v).message _
      (total_some p.combine (message_at g c.content v) g.edges e i
      (ap is_some (at_end_is g plain s v e (λ x. (c.content e).message x) None i at) ∙ t))
