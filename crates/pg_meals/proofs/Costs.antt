-- What preparing a vertex takes stays what it was while all its forks are pinned.
use Rattle.std.proofs.Common.{ℕ, ◌<◌, ◌≡◌, ◌≢◌, ◌⊎◌, ◌==◌, ◌&&◌, not, Bool, true, false, cond, Some, inl, inr, refl, sym, ap, subst, ◌∙◌}
use Rattle.std.specs.Prelude.{is_some}
use Rattle.pg_graph.specs.declared.edge.Side.TheVariants.{Source, Target}
use Rattle.pg_law.specs.declared.values.Delta.{Delta}
use Rattle.pg_law.specs.declared.values.Delta.TheVariants.{Nothing}
use Rattle.pg_law.specs.Program.{Program}
use Rattle.pg_delta.specs.Deltas.{joined}
use Rattle.pg_meals.specs.Families.{total}
use Rattle.pg_meals.specs.Shape.{Shape, at_end}
use Rattle.pg_meals.specs.Words.{PinsAll}
use Rattle.pg_meals.specs.Serial.{Serial}
use Rattle.pg_meals.specs.Core.{Core, Place, Prepared}
use Rattle.pg_meals.specs.Standing.{delta_at}
use Rattle.pg_meals.specs.Acts.{Act, Claim, Drop, Look, Pin, Ask, Back, ReadMirror, Turn, Commit, Give, WriteMirror, Outcome, Step, entered_core}
use Rattle.pg_meals.specs.StandsFor.{Invariant}
use Rattle.pg_meals.specs.Runs.{Deed, Acts, Prepares, Does}
use Rattle.pg_meals.specs.Sparing.{gather_degree, is_clear, cost, IsNoEntryOf}
use Rattle.pg_meals.proofs.At.{same_or_not, false_test, some_of}
use Rattle.pg_meals.proofs.Totals.{total_like}
use Rattle.pg_meals.proofs.Pins.{one_pinner}

module _ {A C : Type 0} (p : Program A C) (g : Shape) (fuel : ℕ) (opening : Serial) (c : Core A) (inv : Invariant p g fuel opening c) (a v : ℕ) (busy : (c.words.grip a).vertex ≡ Some v) (all : PinsAll g c.words a v) where
  abbrev parts : Place A → Delta A → ℕ
  parts place rest = cond (is_some place.cell.acc && not (is_clear p (joined p.sum place.cell.pending rest))) 0 (gather_degree p g v)

  module _ (b u : ℕ) (q : Prepared A) (other : b ≢ a) (theirs : (c.words.grip b).vertex ≡ Some u) where
    abbrev next : Core A
    next = entered_core g c b u q

    -- two actors have two vertices
    elsewhere : v ≢ u
    elsewhere r =
        let mine = inv.clean.names v a busy in
        let held = inv.clean.names u b theirs in
        let same : Some b ≡ Some a = sym held ∙ ap c.words.vertex (sym r) ∙ mine in
        other (some_of b a same)

    not_theirs : (e : ℕ) → (c.words.grip a).pins e ≡ true → (c.words.grip b).pins e ≡ false
    not_theirs e mine = go ((c.words.grip b).pins e) refl
      where
        go : (d : Bool) → (c.words.grip b).pins e ≡ d → (c.words.grip b).pins e ≡ false
        go false t = t
        go true t = absurd (other (one_pinner inv.clean a e mine b t))

    same_place : next.place v ≡ c.place v
    same_place = ap (λ d. cond d (record { datum = q.datum; message = q.again; cell = q.cell }) (c.place v)) (false_test v u elsewhere)

    same_delta : (e : ℕ) → e < g.edges → delta_at g next.content v e ≡ delta_at g c.content v e
    same_delta e i = go (same_or_not (g.end Source e) v) (same_or_not (g.end Target e) v)
      where
        here : (c.words.grip a).pins e ≡ true → delta_at g next.content v e ≡ delta_at g c.content v e
        here mine = ap (λ d. at_end g v e (λ s. (cond d (q.content e) (c.content e)).delta s) Nothing) (not_theirs e mine)

        go : (g.end Source e ≡ v) ⊎ (g.end Source e ≢ v) → (g.end Target e ≡ v) ⊎ (g.end Target e ≢ v) → delta_at g next.content v e ≡ delta_at g c.content v e
        go (inl r) m = here (all Source e i r)
        go (inr n) (inl r) = here (all Target e i r)
        go (inr n) (inr m) =
            let s : (g.end Source e == v) ≡ false = false_test (g.end Source e) v n in
            let t : (g.end Target e == v) ≡ false = false_test (g.end Target e) v m in
            rw (s, t) refl

    same_cost : cost p g next v ≡ cost p g c v
    same_cost = ap (λ place. parts place (total (joined p.sum) Nothing (delta_at g next.content v) g.edges)) same_place
        ∙ ap (parts (c.place v)) (total_like (joined p.sum) Nothing (delta_at g next.content v) (delta_at g c.content v) g.edges same_delta)

  step_stays : (b : ℕ) (act : Act) (c' : Core A) (out : Outcome) → Step g fuel c b act c' out → IsNoEntryOf p a b (Acts act) → cost p g c' v ≡ cost p g c v
  step_stays b (Claim w) c' out d n = subst (λ y. cost p g y v ≡ cost p g c v) (sym d.3) refl
  step_stays b Drop c' out d n = subst (λ y. cost p g y v ≡ cost p g c v) (sym d.5) refl
  step_stays b (Look e) c' out d n = subst (λ y. cost p g y v ≡ cost p g c v) (sym d.5) refl
  step_stays b (Pin e) c' out d n = subst (λ y. cost p g y v ≡ cost p g c v) (sym d.9) refl
  step_stays b (Ask e) c' out d n = subst (λ y. cost p g y v ≡ cost p g c v) (sym d.9) refl
  step_stays b (Back e) c' out d n = subst (λ y. cost p g y v ≡ cost p g c v) (sym d.9) refl
  step_stays b (ReadMirror e h) c' out d n = subst (λ y. cost p g y v ≡ cost p g c v) (sym d.7) refl
  step_stays b Turn c' out d n = subst (λ y. cost p g y v ≡ cost p g c v) (sym d.5) refl
  step_stays b Commit c' out d n = subst (λ y. cost p g y v ≡ cost p g c v) (sym d.7) (same_cost b d.0 d.1 n d.2)
  step_stays b Give c' out d n = subst (λ y. cost p g y v ≡ cost p g c v) (sym d.1) refl
  step_stays b (WriteMirror k h) c' out d n = subst (λ y. cost p g y v ≡ cost p g c v) (sym d.7) refl

  -- no deed but an entry of a changes what v takes
  pub cost_stays : (b : ℕ) (d : Deed) (c' : Core A) → Does p g fuel c b d c' → IsNoEntryOf p a b d → cost p g c' v ≡ cost p g c v
  cost_stays b (Acts act) c' k n = step_stays b act c' k.0 k.1 n
  cost_stays b Prepares c' k n = subst (λ y. cost p g y v ≡ cost p g c v) (sym k.3) refl
