-- What an act of a board answers, from what it made.
use Rattle.std.proofs.Common.{ℕ, ◌≡◌, Bool, true, false, Option, Some, None, refl, sym, ap, subst, ◌∙◌, true≢false}
use Rattle.std.specs.Prelude.{MatchBool, MatchOption, IsFalse, IsNone, is_some}
use Rattle.pg_graph.specs.Multigraph.{Multigraph}
use Rattle.pg_meals.specs.declared.board.Board.{Board}
use Rattle.pg_meals.specs.declared.act.Act.{Act}
use Rattle.pg_meals.specs.declared.act.Outcome.{Outcome}
use Rattle.pg_meals.specs.Steps.{MakesOn, RefusesOn, told_moved}

module _ {A : Type 0} (g : Multigraph) (b b' : Board A) (a : ℕ) (act x : Act) (is : act ≡ x) where
  pub chosen : (made : Bool) (r : Option Outcome) → MatchBool made (MakesOn g b a x b' told_moved) (b' ≡ b) → MatchBool made (r ≡ Some told_moved) (r ≡ None)
      → MatchOption r (b' ≡ b) (MakesOn g b a act b')
  chosen true r s t = subst (λ (o : Option Outcome). MatchOption o (b' ≡ b) (MakesOn g b a act b')) (sym t) (subst (λ k. MakesOn g b a k b' told_moved) (sym is) s)
  chosen false r s t = subst (λ (o : Option Outcome). MatchOption o (b' ≡ b) (MakesOn g b a act b')) (sym t) s

  pub told : (out : Outcome) → MakesOn g b a x b' out → MakesOn g b a act b' out
  told out s = subst (λ k. MakesOn g b a k b' out) (sym is) s

  pub refused : (made : Bool) (r : Option Outcome) → (IsFalse made → RefusesOn g b a x) → MatchBool made (r ≡ Some told_moved) (r ≡ None) → IsNone r → RefusesOn g b a act
  refused true r m t n = absurd (true≢false (sym (ap is_some t) ∙ n))
  refused false r m t n = subst (λ k. RefusesOn g b a k) (sym is) (m refl)

  pub untold : RefusesOn g b a x → RefusesOn g b a act
  untold m = subst (λ k. RefusesOn g b a k) (sym is) m
