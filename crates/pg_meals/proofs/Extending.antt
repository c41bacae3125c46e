-- A journal with one entry more, and gathers that agree edge by edge.
use Rattle.std.proofs.Common.{ℕ, zero, suc, ◌<◌, ◌≡◌, ◌≢◌, ◌⊎◌, ◌==◌, List, [], ◌∷◌, ◌++◌, Bool, true, false, cond, inl, inr, arith, refl}
use Rattle.std.proofs.lemmas.Bool.Decides.{nat_tests}
use Rattle.pg_graph.specs.declared.edge.Side.{Side}
use Rattle.pg_graph.specs.declared.edge.Side.TheVariants.{Source, Target}
use Rattle.pg_graph.specs.Multigraph.{takes}
use Rattle.pg_meals.specs.Shape.{Shape, at_end}
use Rattle.pg_law.specs.declared.values.JournalEntry.{JournalEntry}
use Rattle.pg_meals.proofs.Shapes.{Graphlike}
use Rattle.pg_law.specs.Program.{Program}
use Rattle.pg_law.specs.declared.values.Near.{Near}
use Rattle.pg_meals.specs.Serial.{Serial, gather_over, exec, IsStep, Legal, replay}
use Rattle.pg_meals.proofs.At.{same_or_not}

module _ {A C : Type 0} (p : Program A C) (g : Shape) where
  pub legal-append : (st : Serial) (xs : List JournalEntry) (x : JournalEntry) → Legal p g st xs → IsStep p g (replay p g st xs) x → Legal p g st (xs ++ x ∷ [])
  legal-append st [] x l s = (s, tt)
  legal-append st (y ∷ ys) x l s = (l.0, legal-append (exec p g st y.vertex) ys x l.1 s)

  -- and its replay
  pub replay-append : (st : Serial) (xs : List JournalEntry) (x : JournalEntry) → replay p g st (xs ++ x ∷ []) ≡ exec p g (replay p g st xs) x.vertex
  replay-append st [] x = refl
  replay-append st (y ∷ ys) x = replay-append (exec p g st y.vertex) ys x

  -- the gather looks at the gather edges alone
  pub gather_like : (f h : Side → ℕ → Near) (v n : ℕ) → Graphlike g → ((s : Side) (e : ℕ) → e < n → g.end s e ≡ v → takes p.gather_edges s ≡ true → p.gather (f s e) ≡ p.gather (h s e)) → gather_over p g f v n ≡ gather_over p g h v n
  gather_like f h v zero plain same = refl
  gather_like f h v (suc n) plain same =
      step (gather_over p g f v n) (gather_over p g h v n) (gather_like f h v n plain (λ s e i. same s e (omega arith))) (same_or_not (g.end Source n) v) (same_or_not (g.end Target n) v) (λ s. same s n (omega arith))
    where
      one : (s : Side) (y z : A) → y ≡ z → (b : Bool) → takes p.gather_edges s ≡ b → (takes p.gather_edges s ≡ true → p.gather (f s n) ≡ p.gather (h s n)) → cond b (p.sum y (p.gather (f s n))) y ≡ cond b (p.sum z (p.gather (h s n))) z
      one s y z e true q like = let k : p.gather (f s n) ≡ p.gather (h s n) = like q in cc
      one s y z e false q like = e

      step : (y z : A) → y ≡ z → (g.end Source n ≡ v) ⊎ (g.end Source n ≢ v) → (g.end Target n ≡ v) ⊎ (g.end Target n ≢ v) → ((s : Side) → g.end s n ≡ v → takes p.gather_edges s ≡ true → p.gather (f s n) ≡ p.gather (h s n))
          → at_end g v n (λ s. cond (takes p.gather_edges s) (p.sum y (p.gather (f s n))) y) y ≡ at_end g v n (λ s. cond (takes p.gather_edges s) (p.sum z (p.gather (h s n))) z) z
      step y z e (inl q) r like =
          let t : (g.end Source n == v) ≡ true = grind (arith, nat_tests) in
          rw (t) (one Source y z e (takes p.gather_edges Source) refl (like Source q))
      step y z e (inr q) (inl r) like =
          let t : (g.end Source n == v) ≡ false = grind (arith, nat_tests) in
          let u : (g.end Target n == v) ≡ true = grind (arith, nat_tests) in
          rw (t, u) (one Target y z e (takes p.gather_edges Target) refl (like Target r))
      step y z e (inr q) (inr r) like =
          let t : (g.end Source n == v) ≡ false = grind (arith, nat_tests) in
          let u : (g.end Target n == v) ≡ false = grind (arith, nat_tests) in
          rw (t, u) e
