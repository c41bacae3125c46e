-- With caches, each vertex is gathered in full at most once.
use Rattle.std.proofs.Common.{ℕ, zero, suc, ◌+◌, ◌<◌, ◌≤◌, ◌≡◌, ◌≢◌, ◌⊎◌, ◌==◌, ◌&&◌, not, List, [], ◌∷◌, Bool, true, false, cond, Option, Some, None, inl, inr, arith, refl, sym, ap, subst, ◌∙◌, true≢false}
use Rattle.pg_graph.specs.Multigraph.{opposite, takes}
use Rattle.pg_meals.specs.Shape.{Shape}
use Rattle.pg_meals.proofs.Shapes.{Graphlike}
use Rattle.pg_law.specs.Program.{Program}
use Rattle.pg_law.specs.declared.values.Near.{Near}
use Rattle.pg_law.specs.declared.values.Delta.{Delta}
use Rattle.pg_law.specs.declared.values.Delta.TheVariants.{Nothing, Add, Clear}
use Rattle.pg_delta.specs.declared.cell.CacheCell.{CacheCell}
use Rattle.pg_delta.specs.Deltas.{joined}
use Rattle.pg_meals.specs.Families.{total}
use Rattle.pg_law.specs.Laws.{IsNear, KeepsGathers, IsLawful}
use Rattle.pg_meals.specs.Serial.{Serial, fresh, scattered}
use Rattle.pg_meals.specs.Core.{Core, Prepared}
use Rattle.pg_meals.specs.Acts.{Act, Claim, Drop, Look, Pin, Ask, Back, ReadMirror, Turn, Commit, Give, WriteMirror, Outcome, Step, entered_core}
use Rattle.pg_meals.specs.Standing.{stands, waiting}
use Rattle.std.specs.Prelude.{is_some}
use Rattle.pg_meals.specs.StandsFor.{IsReady, Invariant}
use Rattle.pg_meals.specs.Runs.{Deed, Acts, Prepares, Does, Runs}
use Rattle.pg_meals.specs.Sparing.{gather_degree, is_clear, has_gather, cost, cost_of, spent_by, spent}
use Rattle.pg_meals.proofs.At.{same_or_not}
use Rattle.pg_meals.proofs.Entries.{at_end_in, sent_delta}
use Rattle.pg_meals.proofs.Commit.{after_fits, given_fits, cell_else, cell_here}
use Rattle.pg_meals.proofs.Cells.{waiting_self, waiting_else}
use Rattle.pg_meals.proofs.Runs.{does_keeps}

-- one term falls to nothing, and no other rises
total_drop : (f h : ℕ → ℕ) (v n : ℕ) → ((u : ℕ) → u ≢ v → f u ≤ h u) → f v ≡ 0 → v < n → total ◌+◌ 0 f n + h v ≤ total ◌+◌ 0 h n
total_drop f h v zero le z i = absurd (omega arith)
total_drop f h v (suc n) le z i = go (same_or_not n v)
    (λ j. total_drop f h v n le z j)
  where
    rest : (m : ℕ) → m ≤ v → total ◌+◌ 0 f m ≤ total ◌+◌ 0 h m
    rest zero j = omega arith
    rest (suc m) j = let a = rest m (omega arith) in let b = le m (λ q. omega arith) in omega arith

    go : (n ≡ v) ⊎ (n ≢ v) → (v < n → total ◌+◌ 0 f n + h v ≤ total ◌+◌ 0 h n) → total ◌+◌ 0 f n + f n + h v ≤ total ◌+◌ 0 h n + h n
    go (inl q) ih =
        let a = rest n (omega arith) in
        let b : f n ≡ 0 = ap f q ∙ z in
        let c : h n ≡ h v = ap h q in
        omega arith
    go (inr q) ih =
        let a = ih (omega arith) in
        let b = le n q in
        omega arith

total_below : (f h : ℕ → ℕ) (n : ℕ) → ((u : ℕ) → f u ≤ h u) → total ◌+◌ 0 f n ≤ total ◌+◌ 0 h n
total_below f h zero le = omega arith
total_below f h (suc n) le = let a = total_below f h n le in let b = le n in omega arith

module _ {A C : Type 0} (p : Program A C) where
  clear_post : (x y : Delta A) → is_clear p x ≡ false → is_clear p y ≡ false → is_clear p (joined p.sum x y) ≡ false
  clear_post Nothing y i j = j
  clear_post Clear y i j = absurd (true≢false i)
  clear_post (Add a) Nothing i j = refl
  clear_post (Add a) Clear i j = absurd (true≢false j)
  clear_post (Add a) (Add b) i j = refl

  clear_total : (f : ℕ → Delta A) (n : ℕ) → ((e : ℕ) → is_clear p (f e) ≡ false) → is_clear p (total (joined p.sum) Nothing f n) ≡ false
  clear_total f zero none = refl
  clear_total f (suc n) none = clear_post (total (joined p.sum) Nothing f n) (f n) (clear_total f n none) (none n)

  not_clear : (d : Delta A) → d ≢ Clear → is_clear p d ≡ false
  not_clear Nothing n = refl
  not_clear (Add a) n = refl
  not_clear Clear n = absurd (n refl)

  -- what is had stays had
  cost_falls : (g : Shape) (c d : Core A) (u : ℕ) → is_some (c.place u).cell.acc ≡ is_some (d.place u).cell.acc → (is_clear p (waiting p g c u) ≡ false → is_clear p (waiting p g d u) ≡ false) → cost p g d u ≤ cost p g c u
  cost_falls g c d u same keep = go (is_some (c.place u).cell.acc) (is_clear p (waiting p g c u)) (is_some (d.place u).cell.acc) (is_clear p (waiting p g d u)) same keep
    where
      go : (a b e f : Bool) → a ≡ e → (b ≡ false → f ≡ false) → cond (e && not f) 0 (gather_degree p g u) ≤ cond (a && not b) 0 (gather_degree p g u)
      go true false true f q k = rw (k refl) (omega arith)
      go true false false f q k = absurd (true≢false q)
      go true true true true q k = omega arith
      go true true true false q k = omega arith
      go true true false f q k = absurd (true≢false q)
      go false b true f q k = absurd (true≢false (sym q))
      go false b false f q k = omega arith

  module _ (speaks : IsLawful p) (g : Shape) (fuel : ℕ) (opening : Serial) (plain : Graphlike g) (on : g.caches ≡ true) (keeps : KeepsGathers p) (never : (near : Near) (carry : C) → IsNear p near → p.IsCarry carry → (p.scatter near carry).delta ≢ Clear) where
    module _ (c : Core A) (a v : ℕ) (q : Prepared A) (busy : (c.words.grip a).vertex ≡ Some v) (turn : (c.words.grip a).turn ≡ true) (fresh_a : (c.words.grip a).committed ≡ false)
        (prepared : (c.notes a).prepared ≡ Some q) (room : Rattle.std.proofs.Common.length c.words.journal < fuel) (inv : Invariant p g fuel opening c) where
      abbrev ready : IsReady p g c a v q
      ready = inv.true_of.ready a v q busy fresh_a prepared

      abbrev next : Core A
      next = entered_core g c a v q

      abbrev sent : ℕ → ℕ → Delta A
      sent u = sent_delta p g (stands p g c) (Rattle.pg_meals.specs.Serial.applied p g (stands p g c) v ready.message) v u

      sent_clear : (u e : ℕ) → is_clear p (sent u e) ≡ false
      sent_clear u e = at_end_in (λ d. is_clear p d ≡ false) g v e _ Nothing (λ t. go (takes p.scatter_edges t) (g.end (opposite t) e == u) (scattered p g (stands p g c) (Rattle.pg_meals.specs.Serial.applied p g (stands p g c) v ready.message) t e).delta (not_clear _ (never _ _ (after_fits p g fuel opening speaks plain (λ _. keeps) c a v q busy ready.all fresh_a room inv.clean inv.true_of ready t e) (given_fits p g fuel opening speaks plain (λ _. keeps) c a v q busy ready.all fresh_a room inv.clean inv.true_of ready).carry))) refl
        where
          go : (b m : Bool) (d : Delta A) → is_clear p d ≡ false → is_clear p (cond b (cond m d Nothing) Nothing) ≡ false
          go true true d i = i
          go true false d i = refl
          go false m d i = refl

      falls_else : (u : ℕ) → u ≢ v → cost p g next u ≤ cost p g c u
      falls_else u n = cost_falls g c next u
          (ap (λ (y : CacheCell A). is_some y.acc) (sym (cell_else p g fuel opening speaks plain (λ _. keeps) c a v q busy ready.all fresh_a room inv.clean inv.true_of ready u n)))
          (λ i. ap (is_clear p) (waiting_else p g fuel opening speaks plain (λ _. keeps) c a v q busy ready.all fresh_a room inv.clean inv.true_of ready keeps u n) ∙ clear_post _ _ i (clear_total (sent u) g.edges (sent_clear u)))

      falls_here : cost p g next v ≡ 0
      falls_here =
          let x : is_some (next.place v).cell.acc ≡ true
          = ap (λ (y : CacheCell A). is_some y.acc) (cell_here p g fuel opening speaks plain (λ _. keeps) c a v q busy ready.all fresh_a room inv.clean inv.true_of ready)
          ∙ ap (λ b. is_some (cond b (Some (fresh p g (stands p g c) v)) None)) on in
          let y : is_clear p (waiting p g next v) ≡ false = ap (is_clear p) (waiting_self p g fuel opening speaks plain (λ _. keeps) c a v q busy ready.all fresh_a room inv.clean inv.true_of ready keeps) in
          go (is_some (next.place v).cell.acc) (is_clear p (waiting p g next v)) x y
        where
          go : (b d : Bool) → b ≡ true → d ≡ false → cond (b && not d) 0 (gather_degree p g v) ≡ 0
          go true false i j = refl
          go true true i j = absurd (true≢false j)
          go false d i j = absurd (true≢false (sym i))

      falls : total ◌+◌ 0 (cost p g next) g.vertices + cost p g c v ≤ total ◌+◌ 0 (cost p g c) g.vertices
      falls = total_drop (cost p g next) (cost p g c) v g.vertices falls_else falls_here (inv.clean.inside a v busy)

    step_falls : (c : Core A) (a : ℕ) (act : Act) (c' : Core A) (out : Outcome) → Invariant p g fuel opening c → Step g fuel c a act c' out
        → total ◌+◌ 0 (cost p g c') g.vertices + spent_by p g c a (Acts act) ≤ total ◌+◌ 0 (cost p g c) g.vertices
    step_falls c a (Claim v) c' out inv d = subst (λ x. total ◌+◌ 0 (cost p g x) g.vertices + 0 ≤ total ◌+◌ 0 (cost p g c) g.vertices) (sym d.3) (omega arith)
    step_falls c a Drop c' out inv d = subst (λ x. total ◌+◌ 0 (cost p g x) g.vertices + 0 ≤ total ◌+◌ 0 (cost p g c) g.vertices) (sym d.5) (omega arith)
    step_falls c a (Look e) c' out inv d = subst (λ x. total ◌+◌ 0 (cost p g x) g.vertices + 0 ≤ total ◌+◌ 0 (cost p g c) g.vertices) (sym d.5) (omega arith)
    step_falls c a (Pin e) c' out inv d = subst (λ x. total ◌+◌ 0 (cost p g x) g.vertices + 0 ≤ total ◌+◌ 0 (cost p g c) g.vertices) (sym d.9) (omega arith)
    step_falls c a (Ask e) c' out inv d = subst (λ x. total ◌+◌ 0 (cost p g x) g.vertices + 0 ≤ total ◌+◌ 0 (cost p g c) g.vertices) (sym d.9) (omega arith)
    step_falls c a (Back e) c' out inv d = subst (λ x. total ◌+◌ 0 (cost p g x) g.vertices + 0 ≤ total ◌+◌ 0 (cost p g c) g.vertices) (sym d.9) (omega arith)
    step_falls c a (ReadMirror e n) c' out inv d = subst (λ x. total ◌+◌ 0 (cost p g x) g.vertices + 0 ≤ total ◌+◌ 0 (cost p g c) g.vertices) (sym d.7) (omega arith)
    step_falls c a Turn c' out inv d = subst (λ x. total ◌+◌ 0 (cost p g x) g.vertices + 0 ≤ total ◌+◌ 0 (cost p g c) g.vertices) (sym d.5) (omega arith)
    step_falls c a Commit c' out inv d =
        subst (λ x. total ◌+◌ 0 (cost p g x) g.vertices + cost_of p g c (c.words.grip a).vertex ≤ total ◌+◌ 0 (cost p g c) g.vertices) (sym d.7)
        (subst (λ o. total ◌+◌ 0 (cost p g (entered_core g c a d.0 d.1)) g.vertices + cost_of p g c o ≤ total ◌+◌ 0 (cost p g c) g.vertices) (sym d.2) (falls c a d.0 d.1 d.2 d.3 d.4 d.5 d.6 inv))
    step_falls c a Give c' out inv d = subst (λ x. total ◌+◌ 0 (cost p g x) g.vertices + 0 ≤ total ◌+◌ 0 (cost p g c) g.vertices) (sym d.1) (omega arith)
    step_falls c a (WriteMirror k n) c' out inv d = subst (λ x. total ◌+◌ 0 (cost p g x) g.vertices + 0 ≤ total ◌+◌ 0 (cost p g c) g.vertices) (sym d.7) (omega arith)

    deed_falls : (c : Core A) (a : ℕ) (d : Deed) (c' : Core A) → Invariant p g fuel opening c → Does p g fuel c a d c' → total ◌+◌ 0 (cost p g c') g.vertices + spent_by p g c a d ≤ total ◌+◌ 0 (cost p g c) g.vertices
    deed_falls c a (Acts act) c' inv k = step_falls c a act c' k.0 inv k.1
    deed_falls c a Prepares c' inv k = subst (λ x. total ◌+◌ 0 (cost p g x) g.vertices + 0 ≤ total ◌+◌ 0 (cost p g c) g.vertices) (sym k.3) (omega arith)

    run_falls : (ds : List (ℕ × Deed)) (c c' : Core A) (r : Runs p g fuel c ds c') → Invariant p g fuel opening c → spent p g fuel c ds c' r ≤ total ◌+◌ 0 (cost p g c) g.vertices
    run_falls [] c c' r inv = omega arith
    run_falls (d ∷ ds) c c' r inv =
        let one = deed_falls c d.0 d.1 r.0 inv r.1 in
        let rest = run_falls ds r.0 c' r.2 (does_keeps p speaks g fuel opening plain (λ _. keeps) c d.0 d.1 r.0 inv r.1) in
        omega arith

  cost_at_most : (g : Shape) (c : Core A) (u : ℕ) → cost p g c u ≤ gather_degree p g u
  cost_at_most g c u = go (has_gather p g c u)
    where
      go : (b : Bool) → cond b 0 (gather_degree p g u) ≤ gather_degree p g u
      go true = omega arith
      go false = omega arith

-- the law, over shapes and families
pub core_gathers_spared : {A C : Type 0} (p : Program A C) → IsLawful p → (g : Shape) (fuel : ℕ) (opening : Serial) → Graphlike g → g.caches ≡ true → KeepsGathers p
    → ((near : Near) (carry : C) → IsNear p near → p.IsCarry carry → (p.scatter near carry).delta ≢ Clear)
    → (c : Core A) → Invariant p g fuel opening c → (ds : List (ℕ × Deed)) (c' : Core A) (r : Runs p g fuel c ds c') → spent p g fuel c ds c' r ≤ total ◌+◌ 0 (gather_degree p g) g.vertices
core_gathers_spared p speaks g fuel opening plain on keeps never c inv ds c' r =
    let a = run_falls p speaks g fuel opening plain on keeps never ds c c' r inv in
    let b = total_below (cost p g c) (gather_degree p g) g.vertices (cost_at_most p g c) in
    omega arith
