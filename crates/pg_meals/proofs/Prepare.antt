-- Preparing keeps the invariant.
use Rattle.std.proofs.Common.{ℕ, ◌<◌, ◌≡◌, ◌≢◌, ◌⊎◌, ◌==◌, Bool, true, false, cond, Option, Some, None, inl, inr, arith, refl, sym, ap, subst, ◌∙◌}
use Rattle.std.proofs.lemmas.Bool.Decides.{nat_tests}
use Rattle.pg_graph.specs.declared.edge.Side.{Side}
use Rattle.pg_graph.specs.declared.edge.Side.TheVariants.{Source, Target}
use Rattle.pg_graph.specs.Multigraph.{opposite, takes}
use Rattle.pg_meals.specs.Shape.{Shape, at_end}
use Rattle.pg_meals.specs.Words.{waiter}
use Rattle.pg_meals.proofs.Shapes.{Graphlike}
use Rattle.pg_meals.specs.Hygiene.{Hygiene}
use Rattle.pg_law.specs.Program.{Program}
use Rattle.pg_law.specs.declared.values.Applied.{Applied}
use Rattle.pg_law.specs.declared.values.Scattered.{Scattered}
use Rattle.pg_meals.specs.Serial.{Serial, or_zero, near_in, gather_over, fresh, applied, scattered}
use Rattle.pg_meals.specs.Core.{Core, Content, empty_content, Prepared}
use Rattle.pg_meals.specs.Standing.{stands, signalled}
use Rattle.pg_meals.specs.Preparing.{kept_cell, content_after, content_sent, content_kept, noted_datum, near_noted, applied_noted, prepared_by, prepared_core, MayPrepare}
use Rattle.std.specs.Prelude.{is_some, ltb}
use Rattle.pg_meals.specs.StandsFor.{IsReady, StandsFor, Invariant}
use Rattle.pg_meals.proofs.At.{same_or_not}
use Rattle.pg_meals.proofs.Entries.{at_end_is}
use Rattle.pg_meals.proofs.Extending.{gather_like}
use Rattle.pg_meals.proofs.Standing.{ready_moves}

some_value : (o : Option ℕ) (y : ℕ) → is_some o ≡ true → ((x : ℕ) → o ≡ Some x → x ≡ y) → or_zero o ≡ y
some_value None y e h = absurd (cc)
some_value (Some x) y e h = h x refl

module _ {A C : Type 0} (p : Program A C) (g : Shape) where
  content_like : (t : Side) (y : Content A) (sc sd : Scattered A) → (takes p.scatter_edges t ≡ true → sc ≡ sd) → content_after p g t y sc ≡ content_after p g t y sd
  content_like t y sc sd like = go (takes p.scatter_edges t) refl
    where
      go : (b : Bool) → takes p.scatter_edges t ≡ b → cond b (content_sent p g t y sc) (content_kept p g t y) ≡ cond b (content_sent p g t y sd) (content_kept p g t y)
      go true r = ap (content_sent p g t y) (like r)
      go false r = refl

  module _ (fuel : ℕ) (opening : Serial) (plain : Graphlike g) (c : Core A) (a v m : ℕ)
      (may : MayPrepare p g c a v m) (h : Hygiene g fuel (signalled p g c) c.words) (s : StandsFor p g opening c) where
    abbrev next : Core A
    next = prepared_core p g c a v m

    -- the fork of an edge of v stands at v
    side_same : (t : Side) (e : ℕ) → e < g.edges → g.end t e ≡ v → t ≡ (c.words.fork e).side
    side_same t e i at = go t (c.words.fork e).side at (held (may.all t e i at))
      where
        held : (c.words.grip a).pins e ≡ true → g.end (c.words.fork e).side e ≡ v
        held k =
            let x = h.pin_holder a e k in
            let y = may.busy in
            cc

        go : (t f : Side) → g.end t e ≡ v → g.end f e ≡ v → t ≡ f
        go Source Source x y = refl
        go Target Target x y = refl
        go Source Target x y = absurd (plain.loopless e i (x ∙ sym y))
        go Target Source x y = absurd (plain.loopless e i (y ∙ sym x))

    pub datum_noted : (t : Side) (e : ℕ) → e < g.edges → g.end t e ≡ v → (takes p.gather_edges t ≡ true) ⊎ (takes p.scatter_edges t ≡ true) → noted_datum p g c a e ≡ (stands p g c).value (g.end (opposite t) e)
    datum_noted t e i at used =
        let k = may.noted t e i at used in
        let w : waiter g c.words e ≡ g.end (opposite t) e = ap (λ f. g.end (opposite f) e) (sym (side_same t e i at)) in
        let x : or_zero ((c.notes a).noted e 0) ≡ (c.place (waiter g c.words e)).datum.first = some_value _ _ k.0 (s.noted_is a e 0) in
        let y : or_zero ((c.notes a).noted e 1) ≡ (c.place (waiter g c.words e)).datum.second = some_value _ _ k.1 (s.noted_is a e 1) in
        let z : noted_datum p g c a e ≡ (c.place (waiter g c.words e)).datum = λ j. record { first = x j; second = y j } in
        z ∙ ap (λ u. (c.place u).datum) w

    near_gathered : (t : Side) (e : ℕ) → e < g.edges → g.end t e ≡ v → takes p.gather_edges t ≡ true → near_noted p g c a (c.place v).datum t e ≡ near_in g (stands p g c) t e
    near_gathered t e i at k =
        let x : noted_datum p g c a e ≡ (stands p g c).value (g.end (opposite t) e) = datum_noted t e i at (inl k) in
        let y : (c.place v).datum ≡ (c.place (g.end t e)).datum = ap (λ u. (c.place u).datum) (sym at) in
        λ j. record { side = t; edge = g.edge_info e; word = (c.content e).word; centre = y j; other = x j }

    pub gathered_is : gather_over p g (near_noted p g c a (c.place v).datum) v g.edges ≡ fresh p g (stands p g c) v
    gathered_is = gather_like p g (near_noted p g c a (c.place v).datum) (near_in g (stands p g c)) v g.edges plain (λ t e i at k. ap p.gather (near_gathered t e i at k))

    applied_is : applied_noted p g c a v m ≡ applied p g (stands p g c) v m
    applied_is = ap (λ acc. p.apply (g.info v) (c.place v).datum acc m) gathered_is

    scattered_is : (x : Applied C) (t : Side) (e : ℕ) → e < g.edges → g.end t e ≡ v → takes p.scatter_edges t ≡ true → p.scatter (near_noted p g c a x.datum t e) x.carry ≡ scattered p g (stands p g c) x t e
    scattered_is x t e i at k =
        let y : noted_datum p g c a e ≡ (stands p g c).value (g.end (opposite t) e) = datum_noted t e i at (inr k) in
        λ j. p.scatter (record { side = t; edge = g.edge_info e; word = (c.content e).word; centre = x.datum; other = y j }) x.carry

    ready_now : IsReady p g next a v (prepared_by p g c a v m)
    ready_now = record {
      all = may.all;
      message = m;
      signal = may.message;
      datum = ap (λ (x : Applied C). x.datum) applied_is;
      again = ap (λ (x : Applied C). x.again) applied_is;
      cell = ap (kept_cell p g g.caches) gathered_is;
      content = λ t e i at.
          let inside : ltb e g.edges ≡ true = grind (arith, nat_tests) in
          let f : Side → Content A = λ f. content_after p g f (c.content e) (p.scatter (near_noted p g c a (applied_noted p g c a v m).datum f e) (applied_noted p g c a v m).carry) in
          ap (λ d. cond d (at_end g v e f empty_content) empty_content) inside
          ∙ at_end_is g plain t v e f empty_content i at
          ∙ (ap (λ (x : Applied C). content_after p g t (c.content e) (p.scatter (near_noted p g c a x.datum t e) x.carry)) applied_is
          ∙ content_like t (c.content e) _ _ (scattered_is (applied p g (stands p g c) v m) t e i at));
    }

    all_ready : (b u : ℕ) (r : Prepared A) → (b ≡ a) ⊎ (b ≢ a) → (c.words.grip b).vertex ≡ Some u → (c.words.grip b).committed ≡ false → (next.notes b).prepared ≡ Some r → IsReady p g next b u r
    all_ready b u r (inl t) f k n =
        let test : (b == a) ≡ true = grind (arith, nat_tests) in
        let x : Some (prepared_by p g c a v m) ≡ Some r = sym (ap (λ d. (cond d (record (c.notes a) { prepared = Some (prepared_by p g c a v m) }) (c.notes b)).prepared) test) ∙ n in
        let y : prepared_by p g c a v m ≡ r = cc in
        let w : (c.words.grip a).vertex ≡ Some u = ap (λ d. (c.words.grip d).vertex) (sym t) ∙ f in
        let busy = may.busy in
        let z : v ≡ u = cc in
        subst (λ d. IsReady p g next d u r) (sym t) (subst (λ d. IsReady p g next a d r) z (subst (λ d. IsReady p g next a v d) y ready_now))
    all_ready b u r (inr t) f k n =
        ready_moves p g c c.words c.replica next.notes b u r (λ e x. x) (s.ready b u r f k (grind (arith, nat_tests)))

    -- preparing keeps the invariant
    pub prepare_keeps : Invariant p g fuel opening next
    prepare_keeps = record {
      clean = h;
      true_of = record {
        legal = s.legal;
        replayed = s.replayed;
        replica_is = λ u k n i t each. s.replica_is u k n i t (λ b f r. grind (arith, nat_tests, each b));
        replica_before = λ b u k n f r i t none. grind (arith, nat_tests, s.replica_before);
        unwritten_pins = λ b u k n f r i t none. s.unwritten_pins b u k n f r i t (grind (arith, nat_tests));
        noted_pinned = λ b e n x t. grind (arith, nat_tests, s.noted_pinned);
        noted_is = λ b e n x t. grind (arith, nat_tests, s.noted_is);
        ready = λ b u r f k n. all_ready b u r (same_or_not b a) f k n;
        cell_true = s.cell_true;
        cell_kept = s.cell_kept;
        own_message = s.own_message;
        datum_fits = s.datum_fits;
        content_fits = s.content_fits;
        cell_fits = s.cell_fits;
      };
    }
