-- Deltas add up as accumulators do.
use Rattle.std.proofs.Common.{ℕ, zero, suc, ◌<◌, ◌≡◌, ◌≢◌, ◌⊎◌, ◌==◌, Bool, true, false, cond, Option, Some, None, inl, inr, arith, refl, sym, ap, subst, ◌∙◌}
use Rattle.std.specs.Prelude.{IfSome}
use Rattle.pg_graph.specs.declared.edge.Side.{Side}
use Rattle.pg_graph.specs.declared.edge.Side.TheVariants.{Source, Target}
use Rattle.pg_meals.specs.Shape.{Shape, at_end}
use Rattle.pg_law.specs.Program.{Program}
use Rattle.pg_law.specs.declared.values.Near.{Near}
use Rattle.pg_law.specs.declared.values.Delta.{Delta}
use Rattle.pg_law.specs.declared.values.Delta.TheVariants.{Nothing, Add, Clear}
use Rattle.pg_delta.specs.Deltas.{joined}
use Rattle.pg_delta.proofs.Joining.{joined-nothing, delta_monoid}
use Rattle.pg_meals.specs.Families.{total}
use Rattle.pg_law.specs.Laws.{KeepsGathers, IsLawful, IsNear, IsDelta, LeadsTo}
use Rattle.pg_meals.specs.Serial.{gather_over}
use Rattle.std.proofs.lemmas.Bool.Decides.{Decides-eqb}
use Rattle.pg_meals.proofs.At.{same_or_not, false_test, some_of}
use Rattle.pg_meals.proofs.Totals.{total_in}
use Rattle.pg_graph.specs.Multigraph.{takes}

-- an accumulator with a delta, where that isn't Clear
abbrev pub settled : {A : Type 0} → (A → A → A) → A → Delta A → Option A
settled f a Nothing = Some a
settled f a (Add d) = Some (f a d)
settled f a Clear = None

-- a gather that is true is what comes of it once its deltas are added
pub true_from : {A : Type 0} (f : A → A → A) (acc : Option A) (d : Delta A) (y : A) → IfSome acc (λ a. LeadsTo f a d y) → (a x : A) → acc ≡ Some a → settled f a d ≡ Some x → x ≡ y
true_from f acc Nothing y l a x held e = sym (some_of a x e) ∙ subst (λ o. IfSome o (λ b. LeadsTo f b Nothing y)) held l
true_from f acc (Add d) y l a x held e = sym (some_of (f a d) x e) ∙ subst (λ o. IfSome o (λ b. LeadsTo f b (Add d) y)) held l
true_from f acc Clear y l a x held e = absurd (cc)

-- and the other way round
pub true_into : {A : Type 0} (f : A → A → A) (acc : Option A) (d : Delta A) (y : A) → ((a x : A) → acc ≡ Some a → settled f a d ≡ Some x → x ≡ y) → IfSome acc (λ a. LeadsTo f a d y)
true_into f None d y h = tt
true_into f (Some a) Nothing y h = h a a refl refl
true_into f (Some a) (Add d) y h = h a (f a d) refl refl
true_into f (Some a) Clear y h = tt

-- what is held is one of the values of which all that is held is one
pub held_fits : {A : Type 0} (P : A → Type 0) (acc : Option A) → IfSome acc P → (a : A) → acc ≡ Some a → P a
held_fits P acc l a held = subst (λ o. IfSome o P) held l

-- and the other way round
pub all_held_fit : {A : Type 0} (P : A → Type 0) (acc : Option A) → ((a : A) → acc ≡ Some a → P a) → IfSome acc P
all_held_fit P None h = tt
all_held_fit P (Some a) h = h a refl

-- Clear outweighs what came before
pub joined-clear : {A : Type 0} (f : A → A → A) (x : Delta A) → joined f x Clear ≡ Clear
joined-clear f Nothing = refl
joined-clear f (Add a) = refl
joined-clear f Clear = refl

module _ {A : Type 0} (P : A → Type 0) (f : A → A → A) (sums : (a b : A) → P a → P b → P (f a b)) (swaps : (a b : A) → P a → P b → f a b ≡ f b a) (regroups : (a b c : A) → P a → P b → P c → f (f a b) c ≡ f a (f b c)) where
  -- two deltas one after another
  pub settled_twice : (a : A) (x y : Delta A) (z : A) → P a → IsDelta P x → IsDelta P y → settled f a (joined f x y) ≡ Some z → (w : A) × (settled f a x ≡ Some w) × (settled f w y ≡ Some z)
  settled_twice a Nothing y z i j k e = (a, refl, e)
  settled_twice a Clear y z i j k e = absurd (cc)
  settled_twice a (Add b) Nothing z i j k e = (f a b, refl, e)
  settled_twice a (Add b) Clear z i j k e = absurd (cc)
  settled_twice a (Add b) (Add c) z i j k e = (f a b, refl, ap Some (regroups a b c i j k) ∙ e)

  -- an accumulator and a part, each with its delta
  pub settled_parts : (a b : A) (x y : Delta A) (z : A) → P a → P b → IsDelta P x → IsDelta P y → settled f (f a b) (joined f x y) ≡ Some z → (w v : A) × (settled f a x ≡ Some w) × (settled f b y ≡ Some v) × (f w v ≡ z)
  settled_parts a b Nothing Nothing z i k j l e = (a, b, refl, refl, some_of _ z e)
  settled_parts a b Nothing (Add d) z i k j l e = (a, f b d, refl, refl, sym (regroups a b d i k l) ∙ some_of _ z e)
  settled_parts a b Nothing Clear z i k j l e = absurd (cc)
  settled_parts a b Clear y z i k j l e = absurd (cc)
  settled_parts a b (Add c) Nothing z i k j l e = (f a c, b, refl, refl, regroups a c b i j k ∙ (ap (f a) (swaps c b j k) ∙ (sym (regroups a b c i k j) ∙ some_of _ z e)))
  settled_parts a b (Add c) Clear z i k j l e = absurd (cc)
  settled_parts a b (Add c) (Add d) z i k j l e = (
    f a c,
    f b d,
    refl,
    refl,
    regroups a c (f b d) i j (sums b d k l)
        ∙ (ap (f a) (sym (regroups c b d j k l) ∙ (ap (λ x. f x d) (swaps c b j k) ∙ regroups b c d k j l)) ∙ (sym (regroups a b (f c d) i k (sums c d j l)) ∙ some_of _ z e)),
  )

  -- a delta that adds nothing
  pub settled_idle : (a : A) (x y : Delta A) (z : A) → ((d : A) → y ≢ Add d) → settled f a (joined f x y) ≡ Some z → settled f a x ≡ Some z
  settled_idle a x Nothing z n e = ap (settled f a) (sym (joined-nothing f x)) ∙ e
  settled_idle a x Clear z n e = absurd (none_some z (ap (settled f a) (sym (joined-clear f x)) ∙ e))
    where
      none_some : (z : A) → None ≡ Some z → ⊥
      none_some z e = cc
  settled_idle a x (Add d) z n e = absurd (n d refl)

-- a gather of such values is one
pub gather_in : {A C : Type 0} (p : Program A C) (g : Shape) → IsLawful p → (f : Side → ℕ → Near) (u n : ℕ) → ((s : Side) (e : ℕ) → IsNear p (f s e)) → p.IsAcc (gather_over p g f u n)
gather_in p g speaks f u zero fits = speaks.closed.empty
gather_in {A = A} p g speaks f u (suc n) fits = step (gather_over p g f u n) (gather_in p g speaks f u n fits) (g.end Source n == u) (g.end Target n == u)
  where
    each : (s : Side) (b : Bool) (x : A) → p.IsAcc x → p.IsAcc (cond b (p.sum x (p.gather (f s n))) x)
    each s true x i = speaks.closed.sum x _ i (speaks.closed.gather _ (fits s n))
    each s false x i = i

    step : (x : A) → p.IsAcc x → (b d : Bool) → p.IsAcc (cond b (cond (takes p.gather_edges Source) (p.sum x (p.gather (f Source n))) x) (cond d (cond (takes p.gather_edges Target) (p.sum x (p.gather (f Target n))) x) x))
    step x i true d = each Source (takes p.gather_edges Source) x i
    step x i false true = each Target (takes p.gather_edges Target) x i
    step x i false false = i

-- a gather whose parts move by deltas moves by the sum of these
module _ {A C : Type 0} (p : Program A C) (g : Shape) (speaks : IsLawful p) (keeps : KeepsGathers p) (f h : Side → ℕ → Near) (u : ℕ) (sent : ℕ → Delta A) (f_fits : (s : Side) (e : ℕ) → IsNear p (f s e)) (sent_fits : (e : ℕ) → IsDelta p.IsAcc (sent e)) where
  one : (s : Side) (n : ℕ) (from to : A) (x : Delta A) → p.IsAcc from → IsDelta p.IsAcc x → ((z : A) → settled p.sum from x ≡ Some z → to ≡ z) → (b : Bool) → takes p.gather_edges s ≡ b
      → (takes p.gather_edges s ≡ false → (d : A) → sent n ≢ Add d) → (takes p.gather_edges s ≡ true → (z : A) → settled p.sum (p.gather (f s n)) (sent n) ≡ Some z → p.gather (h s n) ≡ z)
      → (z : A) → settled p.sum (cond b (p.sum from (p.gather (f s n))) from) (joined p.sum x (sent n)) ≡ Some z → cond b (p.sum to (p.gather (h s n))) to ≡ z
  one s n from to x i j rest true k idle moved z e =
      let t = settled_parts p.IsAcc p.sum speaks.closed.sum speaks.monoidal.sum_comm speaks.monoidal.sum_assoc from (p.gather (f s n)) x (sent n) z i (speaks.closed.gather _ (f_fits s n)) j (sent_fits n) e in
      let y : to ≡ t.0 = rest t.0 t.2 in
      let w : p.gather (h s n) ≡ t.1 = moved k t.1 t.3 in
      let v : p.sum t.0 t.1 ≡ z = t.4 in
      cc
  one s n from to x i j rest false k idle moved z e = rest z (settled_idle p.IsAcc p.sum speaks.closed.sum speaks.monoidal.sum_comm speaks.monoidal.sum_assoc from x (sent n) z (idle k) e)

  step : (n : ℕ) (from to : A) (x : Delta A) → p.IsAcc from → IsDelta p.IsAcc x → ((z : A) → settled p.sum from x ≡ Some z → to ≡ z)
      → (g.end Source n ≢ u → g.end Target n ≢ u → sent n ≡ Nothing)
      → ((s : Side) → g.end s n ≡ u → takes p.gather_edges s ≡ false → (d : A) → sent n ≢ Add d)
      → ((s : Side) → g.end s n ≡ u → takes p.gather_edges s ≡ true → (z : A) → settled p.sum (p.gather (f s n)) (sent n) ≡ Some z → p.gather (h s n) ≡ z)
      → (g.end Source n ≡ u) ⊎ (g.end Source n ≢ u) → (g.end Target n ≡ u) ⊎ (g.end Target n ≢ u)
      → (z : A) → settled p.sum (at_end g u n (λ s. cond (takes p.gather_edges s) (p.sum from (p.gather (f s n))) from) from) (joined p.sum x (sent n)) ≡ Some z
      → at_end g u n (λ s. cond (takes p.gather_edges s) (p.sum to (p.gather (h s n))) to) to ≡ z
  step n from to x i j rest off idle moved (inl q) r z e =
      let t : (g.end Source n == u) ≡ true = (Decides-eqb (g.end Source n) u).1 q in
      rw (t) (one Source n from to x i j rest (takes p.gather_edges Source) refl (idle Source q) (moved Source q) z (rw (t) at e))
  step n from to x i j rest off idle moved (inr q) (inl r) z e =
      let t : (g.end Source n == u) ≡ false = false_test (g.end Source n) u q in
      let v : (g.end Target n == u) ≡ true = (Decides-eqb (g.end Target n) u).1 r in
      rw (t, v) (one Target n from to x i j rest (takes p.gather_edges Target) refl (idle Target r) (moved Target r) z (rw (t, v) at e))
  step n from to x i j rest off idle moved (inr q) (inr r) z e =
      let t : (g.end Source n == u) ≡ false = false_test (g.end Source n) u q in
      let v : (g.end Target n == u) ≡ false = false_test (g.end Target n) u r in
      rw (t, v) (rest z (settled_idle p.IsAcc p.sum speaks.closed.sum speaks.monoidal.sum_comm speaks.monoidal.sum_assoc from x (sent n) z (λ d w. add_same d (sym (off q r) ∙ w)) (rw (t, v) at e)))
    where
      add_same : (d : A) → Nothing ≡ Add d → ⊥
      add_same d e = cc

  -- so does a gather over the edges below n
  pub gather_moves : (n : ℕ)
      → ((e : ℕ) → e < n → g.end Source e ≢ u → g.end Target e ≢ u → sent e ≡ Nothing)
      → ((s : Side) (e : ℕ) → e < n → g.end s e ≡ u → takes p.gather_edges s ≡ false → (d : A) → sent e ≢ Add d)
      → ((s : Side) (e : ℕ) → e < n → g.end s e ≡ u → takes p.gather_edges s ≡ true → (z : A) → settled p.sum (p.gather (f s e)) (sent e) ≡ Some z → p.gather (h s e) ≡ z)
      → (z : A) → settled p.sum (gather_over p g f u n) (total (joined p.sum) Nothing sent n) ≡ Some z → gather_over p g h u n ≡ z
  gather_moves zero off idle moved z e = some_is_it z e
    where
      some_is_it : (z : A) → Some p.empty ≡ Some z → p.empty ≡ z
      some_is_it z e = cc
  gather_moves (suc n) off idle moved z e =
      step n (gather_over p g f u n) (gather_over p g h u n) (total (joined p.sum) Nothing sent n)
      (gather_in p g speaks f u n f_fits) (total_in (delta_monoid p speaks) sent n sent_fits)
      (gather_moves n (λ d i. off d (omega arith)) (λ s d i. idle s d (omega arith)) (λ s d i. moved s d (omega arith)))
      (off n (omega arith)) (λ s. idle s n (omega arith)) (λ s. moved s n (omega arith)) (same_or_not _ u) (same_or_not _ u) z e
