-- What is summed over the list of the edges at a vertex is what is summed over all edges.
use Rattle.std.proofs.Common.{ℕ, zero, suc, ◌<◌, ◌≤◌, ◌≡◌, ◌==◌, ◌&&◌, not, length, Bool, true, false, cond, Option, Some, None, arith, refl, sym, ap, subst, ◌∙◌, add-one}
use Rattle.std.specs.Prelude.{fold, filter, is_some, IfSome}
use Rattle.std.specs.List.{range_with_len}
use Rattle.pg_graph.specs.declared.edge.Side.{Side}
use Rattle.pg_graph.specs.Multigraph.{Multigraph, edge_at, side_at, is_at, takes}
use Rattle.pg_graph.proofs.Numbers.{fold_filter_more}
use Rattle.pg_law.specs.declared.values.Near.{Near}
use Rattle.pg_law.specs.declared.values.Delta.{Delta}
use Rattle.pg_law.specs.declared.values.Delta.TheVariants.{Nothing, Add, Clear}
use Rattle.pg_law.specs.Program.{Program}
use Rattle.pg_law.specs.Laws.{IsLawful, IsDelta, LeadsTo}
use Rattle.pg_law.specs.Round.{edges_over}
use Rattle.pg_law.specs.Monoid.{IsCommutativeMonoid}
use Rattle.pg_delta.specs.Deltas.{joined}
use Rattle.pg_delta.proofs.Joining.{joined-nothing, joined_own}
use Rattle.pg_meals.specs.Families.{total}
use Rattle.pg_meals.specs.Shape.{at_end}
use Rattle.pg_meals.specs.Serial.{gather_over}
use Rattle.pg_meals.specs.Listed.{Cut, shape_of}
use Rattle.pg_meals.specs.Sparing.{is_clear}
use Rattle.pg_meals.specs.Plans.{added}
use Rattle.pg_meals.proofs.Gathers.{fold_both_more, either_side}

-- one more number, where it passes a test
fold_one_more : {B : Type 0} (f : B → ℕ → B) (z : B) (test : ℕ → Bool) (n : ℕ)
    → fold f z (filter test (range_with_len 0 (suc n))) ≡ cond (test n) (f (fold f z (filter test (range_with_len 0 n))) n) (fold f z (filter test (range_with_len 0 n)))
fold_one_more f z test n =
    let goal : ℕ → Type 0 = λ k. fold f z (filter test (range_with_len 0 k)) ≡ cond (test n) (f (fold f z (filter test (range_with_len 0 n))) n) (fold f z (filter test (range_with_len 0 n))) in
    subst goal (add-one n) (fold_filter_more f z test n)

-- one more number, whose part is known where it passes
one_alike : {B X : Type 0} (f : B → X → B) (t : Bool) (b d : B) (x y : X) → b ≡ d → (t ≡ true → x ≡ y) → cond t (f b x) b ≡ cond t (f d y) d
one_alike f true b d x y before same = λ j. f (before j) (same refl j)
one_alike f false b d x y before same = before

-- values that are joined one after another
module _ {X : Type 0} {P : X → Type 0} {add : X → X → X} {unit : X} (m : IsCommutativeMonoid P unit add) where
  right_unit : (a : X) → P a → add a unit ≡ a
  right_unit a own = m.comm a unit own m.unit_own ∙ m.left_unit a own

  passing_own : (t : Bool) (y : X) → P y → P (cond t y unit)
  passing_own true y own = own
  passing_own false y own = m.unit_own

  passing_total_own : (test : ℕ → Bool) (y : ℕ → X) (n : ℕ) → ((e : ℕ) → e < n → P (y e)) → P (total add unit (λ e. cond (test e) (y e) unit) n)
  passing_total_own test y zero own = m.unit_own
  passing_total_own test y (suc n) own = m.closed _ _ (passing_total_own test y n (λ e i. own e (omega arith))) (passing_own (test n) (y n) (own n (omega arith)))

  pub joined_along : (test : ℕ → Bool) (x y : ℕ → X) (z : X) (n : ℕ) → P z → ((e : ℕ) → e < n → P (y e)) → ((e : ℕ) → e < n → test e ≡ true → x e ≡ y e)
      → fold (λ b e. add b (x e)) z (filter test (range_with_len 0 n)) ≡ add z (total add unit (λ e. cond (test e) (y e) unit) n)
  joined_along test x y z zero zo own same = sym (right_unit z zo)
  joined_along test x y z (suc n) zo own same =
      let rest : X = total add unit (λ e. cond (test e) (y e) unit) n in
      let old : X = fold (λ b e. add b (x e)) z (filter test (range_with_len 0 n)) in
      let before : old ≡ add z rest = joined_along test x y z n zo (λ e i. own e (omega arith)) (λ e i. same e (omega arith)) in
      let rest_own : P rest = passing_total_own test y n (λ e i. own e (omega arith)) in
      fold_one_more (λ b e. add b (x e)) z test n ∙ one_alike add (test n) old (add z rest) (x n) (y n) before (same n (omega arith)) ∙ step rest rest_own (test n)
    where
      step : (rest : X) → P rest → (t : Bool) → cond t (add (add z rest) (y n)) (add z rest) ≡ add z (add rest (cond t (y n) unit))
      step rest own_rest true = m.assoc z rest (y n) zo own_rest (own n (omega arith))
      step rest own_rest false = ap (add z) (sym (right_unit rest own_rest))

-- one end of an edge or no end, by a test
pub at_end_test : {X : Type 0} (g : Multigraph) (cut : Cut) (caches : Bool) (v e : ℕ) (f : Side → X) (none : X) → at_end (shape_of g cut caches) v e f none ≡ cond (is_at v (edge_at g e)) (f (side_at g v e)) none
at_end_test g cut caches v e f none = either_side ((edge_at g e).src == v) ((edge_at g e).dst == v) f none

module _ {A C : Type 0} (p : Program A C) (g : Multigraph) (cut : Cut) (caches : Bool) where
  -- the gather, where each edge is seen as it is in the family
  gathers_along : (near : Side → ℕ → Near) (seen : ℕ → Near) (v n : ℕ) → n ≤ length g.edges
      → ((e : ℕ) → e < length g.edges → is_at v (edge_at g e) ≡ true → seen e ≡ near (side_at g v e) e)
      → fold (λ acc e. p.sum acc (p.gather (seen e))) p.empty (filter (λ e. takes p.gather_edges (side_at g v e)) (filter (λ e. is_at v (edge_at g e)) (range_with_len 0 n)))
      ≡ gather_over p (shape_of g cut caches) near v n
  gathers_along near seen v zero i same = refl
  gathers_along near seen v (suc n) i same =
      let test : ℕ → Bool = λ e. is_at v (edge_at g e) in
      let used : ℕ → Bool = λ e. takes p.gather_edges (side_at g v e) in
      let add : A → ℕ → A = λ acc e. p.sum acc (p.gather (seen e)) in
      let old : A = gather_over p (shape_of g cut caches) near v n in
      let before : fold add p.empty (filter used (filter test (range_with_len 0 n))) ≡ old = gathers_along near seen v n (omega arith) same in
      let f : Side → A = λ t. cond (takes p.gather_edges t) (p.sum old (p.gather (near t n))) old in
      let goal : ℕ → Type 0 = λ k. fold add p.empty (filter used (filter test (range_with_len 0 k))) ≡ gather_over p (shape_of g cut caches) near v (suc n) in
      subst goal (add-one n) (fold_both_more add p.empty test used n ∙ (λ j. cond (test n) (cond (used n) (p.sum (before j) (p.gather (seen n))) (before j)) (before j)) ∙ go (test n) refl ∙ sym (at_end_test g cut caches v n f old))
    where
      go : (t : Bool) → is_at v (edge_at g n) ≡ t
          → cond t (cond (takes p.gather_edges (side_at g v n)) (p.sum (gather_over p (shape_of g cut caches) near v n) (p.gather (seen n))) (gather_over p (shape_of g cut caches) near v n)) (gather_over p (shape_of g cut caches) near v n)
          ≡ cond t (cond (takes p.gather_edges (side_at g v n)) (p.sum (gather_over p (shape_of g cut caches) near v n) (p.gather (near (side_at g v n) n))) (gather_over p (shape_of g cut caches) near v n)) (gather_over p (shape_of g cut caches) near v n)
      go true t = ap (λ z. cond (takes p.gather_edges (side_at g v n)) (p.sum (gather_over p (shape_of g cut caches) near v n) (p.gather z)) (gather_over p (shape_of g cut caches) near v n)) (same n (omega arith) t)
      go false t = refl

  pub gather_is : (near : Side → ℕ → Near) (seen : ℕ → Near) (v : ℕ) → ((e : ℕ) → e < length g.edges → is_at v (edge_at g e) ≡ true → seen e ≡ near (side_at g v e) e)
      → fold (λ acc e. p.sum acc (p.gather (seen e))) p.empty (edges_over p.gather_edges g v) ≡ gather_over p (shape_of g cut caches) near v (length g.edges)
  gather_is near seen v same = gathers_along near seen v (length g.edges) (omega arith) same

-- a gather after one change and another
module _ {A C : Type 0} (p : Program A C) (law : IsLawful p) where
  added_nothing : (o : Option A) → added p.sum o Nothing ≡ o
  added_nothing None = refl
  added_nothing (Some acc) = refl

  pub added_joined : (o : Option A) (d e : Delta A) → IfSome o p.IsAcc → IsDelta p.IsAcc d → IsDelta p.IsAcc e → added p.sum (added p.sum o d) e ≡ added p.sum o (joined p.sum d e)
  added_joined None d e oo od oe = refl
  added_joined (Some a) Nothing e oo od oe = refl
  added_joined (Some a) (Add x) Nothing oo od oe = refl
  added_joined (Some a) (Add x) (Add y) oo od oe = ap Some (law.monoidal.sum_assoc a x y oo od oe)
  added_joined (Some a) (Add x) Clear oo od oe = refl
  added_joined (Some a) Clear e oo od oe = refl

  pub waits_own : (test : ℕ → Bool) (y : ℕ → Delta A) (n : ℕ) → ((e : ℕ) → e < n → IsDelta p.IsAcc (y e)) → IsDelta p.IsAcc (total (joined p.sum) Nothing (λ e. cond (test e) (y e) Nothing) n)
  waits_own test y zero own = tt
  waits_own test y (suc n) own = joined_own p law _ _ (waits_own test y n (λ e i. own e (omega arith))) (go (test n) (own n (omega arith)))
    where
      go : (t : Bool) → IsDelta p.IsAcc (y n) → IsDelta p.IsAcc (cond t (y n) Nothing)
      go true o = o
      go false o = tt

  -- and after those of a list
  pub added_all : (test : ℕ → Bool) (x y : ℕ → Delta A) (o : Option A) (n : ℕ) → IfSome o p.IsAcc → ((e : ℕ) → e < n → IsDelta p.IsAcc (y e)) → ((e : ℕ) → e < n → test e ≡ true → x e ≡ y e)
      → fold (λ b e. added p.sum b (x e)) o (filter test (range_with_len 0 n)) ≡ added p.sum o (total (joined p.sum) Nothing (λ e. cond (test e) (y e) Nothing) n)
  added_all test x y o zero oo own same = sym (added_nothing o)
  added_all test x y o (suc n) oo own same =
      let rest : Delta A = total (joined p.sum) Nothing (λ e. cond (test e) (y e) Nothing) n in
      let old : Option A = fold (λ b e. added p.sum b (x e)) o (filter test (range_with_len 0 n)) in
      let before : old ≡ added p.sum o rest = added_all test x y o n oo (λ e i. own e (omega arith)) (λ e i. same e (omega arith)) in
      let rest_own : IsDelta p.IsAcc rest = waits_own test y n (λ e i. own e (omega arith)) in
      fold_one_more (λ b e. added p.sum b (x e)) o test n ∙ one_alike (added p.sum) (test n) old (added p.sum o rest) (x n) (y n) before (same n (omega arith)) ∙ step rest rest_own (test n)
    where
      step : (rest : Delta A) → IsDelta p.IsAcc rest → (t : Bool) → cond t (added p.sum (added p.sum o rest) (y n)) (added p.sum o rest) ≡ added p.sum o (joined p.sum rest (cond t (y n) Nothing))
      step rest own_rest true = added_joined o rest (y n) oo own_rest (own n (omega arith))
      step rest own_rest false = ap (added p.sum o) (sym (joined-nothing p.sum rest))

  pub added_own : (o : Option A) (d : Delta A) → IfSome o p.IsAcc → IsDelta p.IsAcc d → IfSome (added p.sum o d) p.IsAcc
  added_own None d oo od = tt
  added_own (Some a) Nothing oo od = oo
  added_own (Some a) (Add x) oo od = law.closed.sum a x oo od
  added_own (Some a) Clear oo od = tt

  -- whether there is a gather then
  pub added_there : (o : Option A) (d : Delta A) → is_some (added p.sum o d) ≡ (is_some o && not (is_clear p d))
  added_there None d = refl
  added_there (Some a) Nothing = refl
  added_there (Some a) (Add x) = refl
  added_there (Some a) Clear = refl

  -- what leads to a gather gives it, where it gives any
  pub added_leads : (acc : Option A) (d : Delta A) (gather x : A) → IfSome acc (λ a. LeadsTo p.sum a d gather) → added p.sum acc d ≡ Some x → x ≡ gather
  added_leads None d gather x leads is = absurd (cc)
  added_leads (Some a) Nothing gather x leads is = let here : Some a ≡ Some x = is in let there : a ≡ gather = leads in cc
  added_leads (Some a) (Add d) gather x leads is = let here : Some (p.sum a d) ≡ Some x = is in let there : p.sum a d ≡ gather = leads in cc
  added_leads (Some a) Clear gather x leads is = absurd (cc)
