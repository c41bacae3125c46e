-- The signalled vertex of least rank gets all its forks.
use Rattle.std.proofs.Common.{ℕ, ◌<◌, ◌≡◌, ◌≢◌, ◌⊎◌, List, [], ◌∷◌, Bool, true, false, cond, not, ◌&&◌, Option, Some, None, inl, inr, arith, refl, sym, ap, subst, ◌∙◌, true≢false}
use Rattle.std.proofs.lemmas.Bool.Decides.{nat_tests}
use Rattle.pg_forks.specs.declared.fork_word.ForkWord.{ForkWord}
use Rattle.pg_graph.specs.declared.edge.Side.{Side}
use Rattle.pg_graph.specs.declared.edge.Side.TheVariants.{Source, Target}
use Rattle.pg_graph.specs.Multigraph.{opposite}
use Rattle.pg_forks.specs.Transitions.{same_side}
use Rattle.pg_meals.specs.Families.{set_at}
use Rattle.pg_meals.specs.Shape.{Shape}
use Rattle.pg_meals.specs.Words.{Words, holder, waiter, PinsAll}
use Rattle.pg_meals.specs.Ranks.{Before}
use Rattle.pg_meals.proofs.Shapes.{Graphlike}
use Rattle.pg_meals.specs.Hygiene.{Hygiene}
use Rattle.pg_law.specs.Program.{Program}
use Rattle.pg_meals.specs.Serial.{Serial}
use Rattle.pg_meals.specs.Core.{Core}
use Rattle.pg_meals.specs.Acts.{Act, Claim, Pin, Outcome, Moved, Got, got_of, Step, pinned_core}
use Rattle.pg_meals.specs.Standing.{signalled}
use Rattle.pg_meals.specs.StandsFor.{Invariant}
use Rattle.pg_meals.specs.Runs.{Acts, Runs}
use Rattle.pg_meals.proofs.Distinct.{IsNot, Distinct, EdgesOf, IsIn}
use Rattle.pg_meals.specs.Stuck.{pinning}
use Rattle.pg_meals.proofs.Rows.{same_is, differs_is}
use Rattle.pg_meals.proofs.Turns.{ends_differ}

-- the fork of e can be had by u, which a has in hand
record CanGet {A : Type 0} (g : Shape) (c : Core A) (a u e : ℕ) : Type 0 where
  pub inside : e < g.edges
  pub me : Side
  pub at : g.end me e ≡ u
  pub free : (c.words.fork e).pinned ≡ false
  pub mine : (c.words.grip a).pins e ≡ false
  pub here : (c.words.fork e).side ≡ me → (c.words.fork e).dirty ≡ true → (c.words.fork e).asked ≡ false
  pub there : (c.words.fork e).side ≡ opposite me → (c.words.fork e).dirty ≡ true

EachGet : {A : Type 0} → Shape → Core A → ℕ → ℕ → List ℕ → Type 0
EachGet g c a u [] = Unit {0}
EachGet g c a u (e ∷ es) = CanGet g c a u e × EachGet g c a u es

get_by : (w : ForkWord) (me : Side) (b : Bool) → same_side w.side me ≡ b → w.pinned ≡ false → (w.side ≡ me → w.dirty ≡ true → w.asked ≡ false) → (b ≡ false → w.dirty ≡ true)
    → (got : Got) × (got_of w me ≡ Some got)
get_by w me true s f h t = (record { word = record w { pinned = true }; taken = false }, rw (s, f) (go w.dirty w.asked _ (h (same_is w.side me s))))
  where
    go : (d k : Bool) (t : Option ForkWord) → (d ≡ true → k ≡ false) → Rattle.pg_meals.specs.Acts.or_take (cond (not (d && k)) (Some (record w { pinned = true })) None) t ≡ Some (record { word = record w { pinned = true }; taken = false })
    go true true t n = absurd (true≢false (n refl))
    go true false t n = refl
    go false k t n = refl
get_by w me false s f h t = (record { word = record { side = me; dirty = false; asked = false; pinned = true }; taken = true }, rw (s, f, t refl) refl)

module _ {A C : Type 0} (p : Program A C) (g : Shape) (fuel : ℕ) where
  stays : (c : Core A) (a u e x : ℕ) (me : Side) (got : Got) → x ≢ e → CanGet g c a u x → CanGet g (pinned_core g c a e me got.word got.taken) a u x
  stays c a u e x me got n k =
      let f : (pinned_core g c a e me got.word got.taken).words.fork x ≡ c.words.fork x = grind (arith, nat_tests) in
      record {
        inside = k.inside;
        me = k.me;
        at = k.at;
        free = ap (λ (w : ForkWord). w.pinned) f ∙ k.free;
        mine = (let m = k.mine in grind (arith, nat_tests));
        here = λ s d. ap (λ (w : ForkWord). w.asked) f ∙ k.here (ap (λ (w : ForkWord). w.side) (sym f) ∙ s) (ap (λ (w : ForkWord). w.dirty) (sym f) ∙ d);
        there = λ s. ap (λ (w : ForkWord). w.dirty) f ∙ k.there (ap (λ (w : ForkWord). w.side) (sym f) ∙ s);
      }

  each_stays : (c : Core A) (a u e : ℕ) (me : Side) (got : Got) (es : List ℕ) → IsNot e es → EachGet g c a u es → EachGet g (pinned_core g c a e me got.word got.taken) a u es
  unfolding EachGet
  each_stays c a u e me got [] n k = tt
  each_stays c a u e me got (x ∷ xs) n k = (stays c a u e x me got n.0 k.0, each_stays c a u e me got xs n.1 k.1)

  -- what is pinned after the first edge of a list
  first : (c : Core A) (a e : ℕ) (me : Side) (got : Got) (es : List ℕ) (x : ℕ) → IsIn x (e ∷ es) ⊎ ((c.words.grip a).pins x ≡ true)
      → IsIn x es ⊎ (((pinned_core g c a e me got.word got.taken).words.grip a).pins x ≡ true)
  first c a e me got es x (inl (inl r)) = inr (grind (arith, nat_tests))
  first c a e me got es x (inl (inr m)) = inl m
  first c a e me got es x (inr t) = inr (grind (arith, nat_tests))

  get_all : (es : List ℕ) (c : Core A) (a u : ℕ) → (c.words.grip a).vertex ≡ Some u → (c.words.grip a).committed ≡ false → Distinct es → EachGet g c a u es
      → (c' : Core A) × Runs p g fuel c (pinning a es) c' × ((x : ℕ) → IsIn x es ⊎ ((c.words.grip a).pins x ≡ true) → (c'.words.grip a).pins x ≡ true)
  unfolding EachGet
  get_all [] c a u busy open_ d k = (c, refl, λ x m. old x m)
    where
      old : (x : ℕ) → ⊥ ⊎ ((c.words.grip a).pins x ≡ true) → (c.words.grip a).pins x ≡ true
      old x (inl n) = absurd n
      old x (inr t) = t
  get_all (e ∷ es) c a u busy open_ d k =
      let o = k.0 in
      let got = get_by (c.words.fork e) o.me (same_side (c.words.fork e).side o.me) refl o.free o.here (λ s. o.there (differs_is _ _ s)) in
      let next : Core A = pinned_core g c a e o.me got.0.word got.0.taken in
      let rest = get_all es next a u (grind (arith, nat_tests)) (grind (arith, nat_tests)) d.1 (each_stays c a u e o.me got.0 es d.0 k.1) in
      (rest.0, (next, (Moved, (u, o.me, got.0, o.inside, busy, o.at, o.mine, open_, got.1, refl, refl)), rest.1), λ x m. rest.2 x (first c a e o.me got.0 es x m))

  not_below : (journal : List Rattle.pg_law.specs.declared.values.JournalEntry.JournalEntry) (u w : ℕ) → Before journal w u → (w ≡ u) ⊎ Before journal u w → w ≢ u → ⊥
  not_below journal u w b e n = omega arith

  module _ (opening : Serial) (plain : Graphlike g) (c : Core A) (a u : ℕ) (inv : Invariant p g fuel opening c)
      (none : (b : ℕ) → (c.words.grip b).vertex ≡ None) (shown : signalled p g c u ≡ true) (least : (w : ℕ) → signalled p g c w ≡ true → (w ≡ u) ⊎ Before c.words.journal u w) where
    abbrev h : Hygiene g fuel (signalled p g c) c.words
    h = inv.clean

    no_pins : (b e : ℕ) → (c.words.grip b).pins e ≡ true → ⊥
    no_pins b e t =
        let x = h.pin_holder b e t in
        let y = none b in
        cc

    unpinned : (e : ℕ) → (c.words.fork e).pinned ≡ false
    unpinned e = go (c.words.fork e).pinned refl
      where
        go : (b : Bool) → (c.words.fork e).pinned ≡ b → (c.words.fork e).pinned ≡ false
        go false t = t
        go true t = absurd (no_pins (h.pinner e t).0 e (h.pinner e t).1)

    -- a fork at the other end is dirty, since that end would else be signalled and of less rank
    is_dirty : (e : ℕ) (me : Side) → e < g.edges → g.end me e ≡ u → (c.words.fork e).side ≡ opposite me → (c.words.fork e).dirty ≡ true
    is_dirty e me i at s = go (c.words.fork e).dirty refl
      where
        back : (t : Side) → opposite (opposite t) ≡ t
        back Source = refl
        back Target = refl

        go : (b : Bool) → (c.words.fork e).dirty ≡ b → (c.words.fork e).dirty ≡ true
        go true t = t
        go false t =
            let wait : waiter g c.words e ≡ u = ap (λ f. g.end (opposite f) e) s ∙ (ap (λ f. g.end f e) (back me) ∙ at) in
            let low = h.clean_lower e i t (λ b k. absurd (no_pins b e k)) in
            let keen = h.clean_signalled e i t (unpinned e) in
            absurd (not_below c.words.journal u (holder g c.words e) (subst (λ w. Before c.words.journal (holder g c.words e) w) wait low) (least (holder g c.words e) keen)
            (λ r. ends_differ g plain (c.words.fork e).side e i (r ∙ sym wait)))

    abbrev begun : Core A
    begun = record c { words = Rattle.pg_meals.specs.Words.claimed c.words a u (Rattle.std.specs.Prelude.is_some (c.place u).message); notes = set_at c.notes a Rattle.pg_meals.specs.Core.empty_notes }

    can_get : (e : ℕ) (me : Side) → e < g.edges → g.end me e ≡ u → CanGet g begun a u e
    can_get e me i at = record {
      inside = i;
      me = me;
      at = at;
      free = unpinned e;
      mine = grind (arith, nat_tests);
      here = λ s d. h.not_both e (unpinned e) d;
      there = λ s. is_dirty e me i at s;
    }

    each_get : (es : List ℕ) → EdgesOf g u es → EachGet g begun a u es
    unfolding EachGet
    each_get [] k = tt
    each_get (e ∷ es) k = (go k.1, each_get es k.2)
      where
        go : (g.end Source e ≡ u) ⊎ (g.end Target e ≡ u) → CanGet g begun a u e
        go (inl t) = can_get e Source k.0 t
        go (inr t) = can_get e Target k.0 t

    free_vertex : (v : ℕ) → c.words.vertex v ≡ None
    free_vertex v = go (c.words.vertex v) refl
      where
        go : (o : Option ℕ) → c.words.vertex v ≡ o → c.words.vertex v ≡ None
        go None t = t
        go (Some b) t = absurd (let x = h.named v b t in let y = none b in cc)

    -- so u, once claimed, gets all its forks
    pub gets_all : (es : List ℕ) → u < g.vertices → EdgesOf g u es → Distinct es → ((s : Side) (e : ℕ) → e < g.edges → g.end s e ≡ u → IsIn e es)
        → (c' : Core A) × Runs p g fuel c ((a, Acts (Claim u)) ∷ pinning a es) c' × PinsAll g c'.words a u
    gets_all es i k d whole =
        let r = get_all es begun a u (grind (arith, nat_tests)) (grind (arith, nat_tests)) d (each_get es k) in
        (r.0, (begun, (Moved, (i, none a, free_vertex u, refl, refl)), r.1), λ s e j at. r.2 e (inl (whole s e j at)))
