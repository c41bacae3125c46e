-- What other actors noted, prepared and have yet to write stays true after an entry.
use Rattle.std.proofs.Common.{ℕ, ◌<◌, ◌≡◌, ◌≢◌, ◌⊎◌, ◌==◌, length, Bool, true, false, cond, Some, None, inl, inr, arith, refl, sym, ap, ◌∙◌, true≢false}
use Rattle.std.proofs.lemmas.Bool.Decides.{nat_tests}
use Rattle.pg_graph.specs.declared.edge.Side.{Side}
use Rattle.pg_graph.specs.declared.edge.Side.TheVariants.{Source, Target}
use Rattle.pg_graph.specs.Multigraph.{opposite, takes}
use Rattle.pg_meals.specs.Shape.{Shape}
use Rattle.pg_meals.specs.Words.{PinsAll, waiter}
use Rattle.pg_meals.proofs.Shapes.{Graphlike}
use Rattle.pg_meals.specs.Hygiene.{Hygiene}
use Rattle.pg_law.specs.Program.{Program}
use Rattle.pg_law.specs.declared.values.Applied.{Applied}
use Rattle.pg_law.specs.Round.{join}
use Rattle.pg_law.specs.Laws.{KeepsGathers, IsLawful}
use Rattle.pg_meals.specs.Families.{total}
use Rattle.pg_meals.specs.Serial.{Serial, near_in, fresh, applied, scattered, signal_to}
use Rattle.pg_meals.specs.Core.{Core, Prepared, half_of}
use Rattle.pg_meals.specs.Standing.{stands, signalled}
use Rattle.pg_meals.specs.Preparing.{kept_cell, content_after}
use Rattle.pg_meals.specs.Acts.{entered_core}
use Rattle.pg_meals.specs.StandsFor.{IsReady, StandsFor}
use Rattle.pg_meals.proofs.Totals.{total_unit, join-none}
use Rattle.pg_law.proofs.Parts.{join_monoid}
use Rattle.pg_meals.proofs.Pins.{one_pinner}
use Rattle.pg_meals.proofs.Turns.{Mine, Apart, mine_or_apart}
use Rattle.pg_meals.proofs.Entries.{at_end_is, at_end_none}
use Rattle.pg_meals.proofs.Extending.{gather_like}
use Rattle.pg_meals.proofs.Commit.{only_one, exec_is}

module _ {A C : Type 0} (p : Program A C) (g : Shape) where
  -- a core before and after the entry of v by a
  module _ (fuel : ℕ) (opening : Serial) (speaks : IsLawful p) (plain : Graphlike g) (keeps : g.caches ≡ true → KeepsGathers p) (c : Core A) (a v : ℕ) (q : Prepared A)
      (busy : (c.words.grip a).vertex ≡ Some v) (all : PinsAll g c.words a v) (fresh_a : (c.words.grip a).committed ≡ false) (room : length c.words.journal < fuel)
      (h : Hygiene g fuel (signalled p g c) c.words) (s : StandsFor p g opening c) (ready : IsReady p g c a v q) where
    abbrev next : Core A
    next = entered_core g c a v q

    abbrev given_by : Applied C
    given_by = applied p g (stands p g c) v ready.message

    -- another actor with all forks of u has no edge in common with v
    module _ (b u : ℕ) (other : b ≢ a) (held : (c.words.grip b).vertex ≡ Some u) (theirs : PinsAll g c.words b u) where
      not_mine : (t : Side) (e : ℕ) → e < g.edges → g.end t e ≡ u → Apart g c.words a v e
      not_mine t e i at = go (mine_or_apart g fuel (signalled p g c) c.words a v plain busy all h e i)
        where
          go : Mine g c.words a v e ⊎ Apart g c.words a v e → Apart g c.words a v e
          go (inl m) = absurd (other (one_pinner h a e m.pins b (theirs t e i at)))
          go (inr m) = m

      u_is_not : u ≢ v
      u_is_not r = other (only_one p g fuel opening speaks plain keeps c a v q busy all fresh_a room h s ready b (held ∙ ap Some r))

      -- both ends of such an edge differ from v
      end_apart : (t : Side) (e : ℕ) → Apart g c.words a v e → g.end t e ≢ v
      end_apart t e m = go t (c.words.fork e).side m.here m.there
        where
          go : (t f : Side) → g.end f e ≢ v → g.end (opposite f) e ≢ v → g.end t e ≢ v
          go Source Source x y = x
          go Source Target x y = y
          go Target Source x y = y
          go Target Target x y = x

      same_content : (t : Side) (e : ℕ) → e < g.edges → g.end t e ≡ u → next.content e ≡ c.content e
      same_content t e i at = ap (λ k. cond k (q.content e) (c.content e)) (not_mine t e i at).pins

      same_value : (w : ℕ) → w ≢ v → (stands p g next).value w ≡ (stands p g c).value w
      same_value w n =
          let test : (w == v) ≡ false = grind (arith, nat_tests) in
          ap (λ k. (cond k (record { datum = q.datum; message = q.again; cell = q.cell }) (c.place w)).datum) test

      near_same : (t : Side) (e : ℕ) → e < g.edges → g.end t e ≡ u → near_in g (stands p g next) t e ≡ near_in g (stands p g c) t e
      near_same t e i at =
          let m = not_mine t e i at in
          let x : next.content e ≡ c.content e = same_content t e i at in
          let y : (stands p g next).value (g.end t e) ≡ (stands p g c).value (g.end t e) = same_value (g.end t e) (end_apart t e m) in
          let z : (stands p g next).value (g.end (opposite t) e) ≡ (stands p g c).value (g.end (opposite t) e) = same_value (g.end (opposite t) e) (end_apart (opposite t) e m) in
          λ j. record { side = t; edge = g.edge_info e; word = (x j).word; centre = y j; other = z j }

      fresh_same : fresh p g (stands p g next) u ≡ fresh p g (stands p g c) u
      fresh_same = gather_like p g (near_in g (stands p g next)) (near_in g (stands p g c)) u g.edges plain (λ t e i at k. ap p.gather (near_same t e i at))

      applied_same : (m : ℕ) → applied p g (stands p g next) u m ≡ applied p g (stands p g c) u m
      applied_same m =
          let x : (stands p g next).value u ≡ (stands p g c).value u = same_value u u_is_not in
          let y : fresh p g (stands p g next) u ≡ fresh p g (stands p g c) u
          = gather_like p g (near_in g (stands p g next)) (near_in g (stands p g c)) u g.edges plain (λ t e i at k. ap p.gather (near_same t e i at)) in
          λ j. p.apply (g.info u) (x j) (y j) m

      no_signal : (e : ℕ) → e < g.edges → signal_to p g (stands p g c) given_by v u e ≡ None
      no_signal e i = go (mine_or_apart g fuel (signalled p g c) c.words a v plain busy all h e i)
        where
          go : Mine g c.words a v e ⊎ Apart g c.words a v e → signal_to p g (stands p g c) given_by v u e ≡ None
          go (inl m) =
              let t : Side = (c.words.fork e).side in
              let away : waiter g c.words e ≢ u = λ r. (true≢false (sym m.pins ∙ (not_mine (opposite t) e i r).pins)) in
              let test : (g.end (opposite t) e == u) ≡ false = grind (arith, nat_tests) in
              at_end_is g plain t v e (λ f. cond (takes p.scatter_edges f) (cond (g.end (opposite f) e == u) (scattered p g (stands p g c) given_by f e).signal None) None) None i m.here
              ∙ (ap (λ b. cond (takes p.scatter_edges t) (cond b (scattered p g (stands p g c) given_by t e).signal None) None) test ∙ same None (takes p.scatter_edges t))
            where
              same : {X : Type 0} (y : X) (b : Bool) → cond b y y ≡ y
              same y true = refl
              same y false = refl
          go (inr m) = at_end_none g (c.words.fork e).side v e (λ f. cond (takes p.scatter_edges f) (cond (g.end (opposite f) e == u) (scattered p g (stands p g c) given_by f e).signal None) None) None m.here m.there

      same_message : (stands p g next).message u ≡ (stands p g c).message u
      same_message =
          let test : (u == v) ≡ false = (let n = u_is_not in grind (arith, nat_tests)) in
          let none : total (join p.combine) None (signal_to p g (stands p g c) given_by v u) g.edges ≡ None
          = total_unit (join_monoid p speaks) (signal_to p g (stands p g c) given_by v u) g.edges no_signal in
          ap (λ (st : Serial). st.message u) (exec_is p g fuel opening speaks plain keeps c a v q busy all fresh_a room h s ready)
          ∙ (ap (λ b. join p.combine (cond b given_by.again ((stands p g c).message u)) (total (join p.combine) None (signal_to p g (stands p g c) given_by v u) g.edges)) test
          ∙ (ap (λ o. join p.combine ((stands p g c).message u) o) none ∙ join-none p.combine ((stands p g c).message u)))

      scattered_same : (x : Applied C) (t : Side) (e : ℕ) → e < g.edges → g.end t e ≡ u → scattered p g (stands p g next) x t e ≡ scattered p g (stands p g c) x t e
      scattered_same x t e i at =
          let y : near_in g (stands p g next) t e ≡ near_in g (stands p g c) t e = near_same t e i at in
          λ j. p.scatter (record (y j) { centre = x.datum }) x.carry

      ready_next : (r : Prepared A) → IsReady p g c b u r → IsReady p g next b u r
      ready_next r k =
          let same = applied_same k.message in
          record {
            all = λ t e i at. grind (arith, nat_tests, k.all t e i at);
            message = k.message;
            signal = same_message ∙ k.signal;
            datum = k.datum ∙ sym (ap (λ (x : Applied C). x.datum) same);
            again = k.again ∙ sym (ap (λ (x : Applied C). x.again) same);
            cell = k.cell ∙ sym (ap (kept_cell p g g.caches) fresh_same);
            content = λ t e i at.
                k.content t e i at
                ∙ sym (ap (λ x. content_after p g t x (scattered p g (stands p g next) (applied p g (stands p g next) u k.message) t e)) (same_content t e i at)
                ∙ (ap (λ x. content_after p g t (c.content e) (scattered p g (stands p g next) x t e)) same
                ∙ ap (λ y. content_after p g t (c.content e) y) (scattered_same (applied p g (stands p g c) u k.message) t e i at)));
          }

    -- replicas, notes and messages after the entry
    pub is_written : (u k n : ℕ) → (u ≡ v) ⊎ (u ≢ v) → g.spans u k ≡ true → n < 2
        → ((b : ℕ) → (next.words.grip b).vertex ≡ Some u → (next.words.grip b).committed ≡ true → (next.notes b).written k n ≡ true)
        → c.replica u k n ≡ half_of n (next.place u).datum
    is_written u k n (inl r) t i each =
        let test : (a == a) ≡ true = grind (arith, nat_tests) in
        absurd (grind (arith, nat_tests, each a))
    is_written u k n (inr r) t i each =
        let test : (u == v) ≡ false = grind (arith, nat_tests) in
        let same : half_of n (next.place u).datum ≡ half_of n (c.place u).datum = ap (λ b. half_of n (cond b (record { datum = q.datum; message = q.again; cell = q.cell }) (c.place u)).datum) test in
        s.replica_is u k n t i (λ b f m. grind (arith, nat_tests, each b)) ∙ sym same

    -- one that is not yet written shows the datum before the entry
    pub is_before : (b u k n : ℕ) → (b ≡ a) ⊎ (b ≢ a) → (next.words.grip b).vertex ≡ Some u → (next.words.grip b).committed ≡ true → g.spans u k ≡ true → n < 2 → (next.notes b).written k n ≡ false
        → c.replica u k n ≡ half_of n (next.notes b).before
    is_before b u k n (inl r) f m t i none =
        let here : u ≡ v = (let w : (c.words.grip a).vertex ≡ Some u = grind (arith, nat_tests) in cc) in
        let same : (next.notes b).before ≡ (c.place v).datum = grind (arith, nat_tests) in
        s.replica_is u k n t i (λ d x y. grind (arith, nat_tests, only_one p g fuel opening speaks plain keeps c a v q busy all fresh_a room h s ready d))
        ∙ (ap (λ w. half_of n (c.place w).datum) here ∙ sym (ap (half_of n) same))
    is_before b u k n (inr r) f m t i none =
        let same : (next.notes b).before ≡ (c.notes b).before = grind (arith, nat_tests) in
        s.replica_before b u k n (grind (arith, nat_tests)) (grind (arith, nat_tests)) t i (grind (arith, nat_tests)) ∙ sym (ap (half_of n) same)

    -- who has a half to write has all forks of its vertex
    pub pins_yet : (b u k n : ℕ) → (b ≡ a) ⊎ (b ≢ a) → (next.words.grip b).vertex ≡ Some u → (next.words.grip b).committed ≡ true → g.spans u k ≡ true → n < 2 → (next.notes b).written k n ≡ false
        → PinsAll g next.words b u
    pins_yet b u k n (inl r) f m t i none d e j at =
        let here : u ≡ v = (let w : (c.words.grip a).vertex ≡ Some u = grind (arith, nat_tests) in cc) in
        let mine : (c.words.grip a).pins e ≡ true = all d e j (at ∙ here) in
        grind (arith, nat_tests)
    pins_yet b u k n (inr r) f m t i none d e j at =
        let theirs : (c.words.grip b).pins e ≡ true = s.unwritten_pins b u k n (grind (arith, nat_tests)) (grind (arith, nat_tests)) t i (grind (arith, nat_tests)) d e j at in
        grind (arith, nat_tests)

    -- the other end of a pinned fork isn't v
    other_end : (b e : ℕ) → (c.words.grip b).pins e ≡ true → waiter g c.words e ≢ v
    other_end b e t = go (mine_or_apart g fuel (signalled p g c) c.words a v plain busy all h e (h.pin_inside b e t))
      where
        go : Mine g c.words a v e ⊎ Apart g c.words a v e → waiter g c.words e ≢ v
        go (inl m) = m.there
        go (inr m) = m.there

    -- what others noted is still true
    pub noted_next : (b e n x : ℕ) → (next.notes b).noted e n ≡ Some x → x ≡ half_of n (next.place (waiter g next.words e)).datum
    noted_next b e n x t =
        let old : (c.notes b).noted e n ≡ Some x = grind (arith, nat_tests) in
        let away : waiter g c.words e ≢ v = other_end b e (s.noted_pinned b e n x old) in
        let test : (waiter g c.words e == v) ≡ false = grind (arith, nat_tests) in
        s.noted_is b e n x old ∙ sym (ap (λ k. half_of n (cond k (record { datum = q.datum; message = q.again; cell = q.cell }) (c.place (waiter g c.words e))).datum) test)

    -- what others prepared is still what an execution gives
    pub all_ready : (b u : ℕ) (r : Prepared A) → (b ≡ a) ⊎ (b ≢ a) → (next.words.grip b).vertex ≡ Some u → (next.words.grip b).committed ≡ false → (next.notes b).prepared ≡ Some r → IsReady p g next b u r
    all_ready b u r (inl t) f m k = absurd (grind (arith, nat_tests))
    all_ready b u r (inr t) f m k =
        let held : (c.words.grip b).vertex ≡ Some u = grind (arith, nat_tests) in
        let old : IsReady p g c b u r = s.ready b u r held (grind (arith, nat_tests)) (grind (arith, nat_tests)) in
        ready_next b u t held old.all r old
