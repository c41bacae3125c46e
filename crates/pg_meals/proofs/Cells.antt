-- An entry keeps the cells true, and so all of the invariant.
use Rattle.std.proofs.Common.{ℕ, ◌<◌, ◌≡◌, ◌≢◌, ◌⊎◌, ◌==◌, ltb, length, Bool, true, false, cond, Some, None, inl, inr, arith, refl, sym, ap, ◌∙◌}
use Rattle.std.proofs.lemmas.Bool.Decides.{nat_tests, Decides-eqb}
use Rattle.pg_graph.specs.declared.edge.Side.{Side}
use Rattle.pg_graph.specs.declared.edge.Side.TheVariants.{Source, Target}
use Rattle.pg_graph.specs.Multigraph.{opposite, takes}
use Rattle.pg_meals.specs.Shape.{Shape, at_end}
use Rattle.pg_meals.specs.Words.{PinsAll}
use Rattle.pg_meals.proofs.Shapes.{Graphlike}
use Rattle.pg_meals.specs.Hygiene.{Hygiene}
use Rattle.pg_law.specs.Program.{Program}
use Rattle.pg_law.specs.declared.values.Near.{Near}
use Rattle.pg_law.specs.declared.values.Applied.{Applied}
use Rattle.pg_law.specs.Laws.{KeepsGathers, IsLawful, IsDelta}
use Rattle.pg_meals.proofs.Lawful.{delta_moves, adds_nothing}
use Rattle.pg_meals.specs.Families.{total}
use Rattle.pg_meals.proofs.Deltas.{settled, settled_twice, gather_moves, held_fits, all_held_fit, true_from, true_into}
use Rattle.pg_delta.proofs.Joining.{delta_monoid}
use Rattle.pg_delta.specs.declared.cell.CacheCell.{CacheCell}
use Rattle.pg_delta.specs.Deltas.{joined}
use Rattle.pg_law.specs.declared.values.Delta.{Delta}
use Rattle.pg_law.specs.declared.values.Delta.TheVariants.{Nothing, Add}
use Rattle.pg_meals.specs.Serial.{Serial, near_in, near_after, fresh, applied, scattered}
use Rattle.pg_meals.specs.Core.{Core, Prepared}
use Rattle.pg_meals.specs.Standing.{stands, signalled, waiting, delta_at}
use Rattle.pg_meals.specs.Acts.{entered_core}
use Rattle.pg_meals.specs.StandsFor.{IsReady, StandsFor, Invariant}
use Rattle.pg_meals.proofs.At.{same_or_not, false_test, some_of}
use Rattle.pg_law.specs.Monoid.{IsCommutativeMonoid}
use Rattle.pg_meals.proofs.Totals.{total_in, total_like, total_unit, total_add}
use Rattle.pg_meals.proofs.Pins.{other_other}
use Rattle.pg_meals.proofs.Turns.{ends_differ}
use Rattle.pg_meals.proofs.Entries.{at_end_is, at_end_none, at_end_in, sent_delta}
use Rattle.pg_meals.proofs.Extending.{gather_like}
use Rattle.pg_meals.proofs.Commit.{near_fits, fresh_fits, message_fits, given_fits, after_fits, exec_is, legal_next, replayed_next, clean_next, own_next, sent_next, delta_rides, delta_gone, value_else, value_here, cell_else, cell_here, datum_next, word_next, delta_next, acc_next, pending_next, old_in, new_in}
use Rattle.pg_meals.proofs.Others.{is_written, is_before, pins_yet, noted_next, all_ready}

module _ {A C : Type 0} (p : Program A C) (g : Shape) where
  module _ (fuel : ℕ) (opening : Serial) (speaks : IsLawful p) (plain : Graphlike g) (keeps : g.caches ≡ true → KeepsGathers p) (c : Core A) (a v : ℕ) (q : Prepared A)
      (busy : (c.words.grip a).vertex ≡ Some v) (all : PinsAll g c.words a v) (fresh_a : (c.words.grip a).committed ≡ false) (room : length c.words.journal < fuel)
      (h : Hygiene g fuel (signalled p g c) c.words) (s : StandsFor p g opening c) (ready : IsReady p g c a v q) where
    abbrev next : Core A
    next = entered_core g c a v q

    abbrev given_by : Applied C
    given_by = applied p g (stands p g c) v ready.message

    -- the cells stay true
    module _ (k : KeepsGathers p) where
      word_kept : (e : ℕ) → (stands p g next).word e ≡ (stands p g c).word e
      word_kept e = ap (λ (st : Serial). st.word e) (exec_is p g fuel opening speaks plain keeps c a v q busy all fresh_a room h s ready) ∙ go (ltb e g.edges)
        where
          each : (t : Side) (b : Bool) → cond b (scattered p g (stands p g c) given_by t e).edge (c.content e).word ≡ (c.content e).word
          each t true = k.word _ _ ((after_fits p g fuel opening speaks plain keeps c a v q busy all fresh_a room h s ready) t e) (given_fits p g fuel opening speaks plain keeps c a v q busy all fresh_a room h s ready).carry
          each t false = refl

          go : (b : Bool) → cond b (at_end g v e (λ t. cond (takes p.scatter_edges t) (scattered p g (stands p g c) given_by t e).edge (c.content e).word) (c.content e).word) (c.content e).word ≡ (c.content e).word
          go true = at_end_in (λ y. y ≡ (c.content e).word) g v e (λ t. cond (takes p.scatter_edges t) (scattered p g (stands p g c) given_by t e).edge (c.content e).word) (c.content e).word (λ t. each t (takes p.scatter_edges t)) refl
          go false = refl

      self_gather : (t : Side) (e : ℕ) → e < g.edges → g.end t e ≡ v → p.gather (near_in g (stands p g next) t e) ≡ p.gather (near_in g (stands p g c) t e)
      self_gather t e i at =
          let x : (stands p g next).word e ≡ (stands p g c).word e = word_kept e in
          let y : (stands p g next).value (g.end (opposite t) e) ≡ (stands p g c).value (g.end (opposite t) e) = (value_else p g fuel opening speaks plain keeps c a v q busy all fresh_a room h s ready) _ (λ r. ends_differ g plain t e i (at ∙ sym r)) in
          let z : near_in g (stands p g next) t e ≡ record (near_in g (stands p g c) t e) { centre = (stands p g next).value (g.end t e) }
          = λ j. record { side = t; edge = g.edge_info e; word = x j; centre = (stands p g next).value (g.end t e); other = y j } in
          ap p.gather z ∙ k.own (near_in g (stands p g c) t e) ((stands p g next).value (g.end t e)) ((near_fits p g fuel opening speaks plain keeps c a v q busy all fresh_a room h s ready) t e) ((datum_next p g fuel opening speaks plain keeps c a v q busy all fresh_a room h s ready) (g.end t e))

      fresh_self : fresh p g (stands p g next) v ≡ fresh p g (stands p g c) v
      fresh_self = gather_like p g (near_in g (stands p g next)) (near_in g (stands p g c)) v g.edges plain (λ t e i at used. self_gather t e i at)

      -- nothing waits for v after its entry
      pub waiting_self : waiting p g next v ≡ Nothing
      waiting_self =
          let x : total (joined p.sum) Nothing (delta_at g next.content v) g.edges ≡ Nothing = total_unit (delta_monoid p speaks) (delta_at g next.content v) g.edges (delta_gone p g fuel opening speaks plain keeps c a v q busy all fresh_a room h s ready) in
          ap (λ (y : CacheCell A). joined p.sum y.pending (total (joined p.sum) Nothing (delta_at g next.content v) g.edges)) (cell_here p g fuel opening speaks plain keeps c a v q busy all fresh_a room h s ready) ∙ x

      true_self : (b x : A) → (next.place v).cell.acc ≡ Some b → settled p.sum b (waiting p g next v) ≡ Some x → x ≡ fresh p g (stands p g next) v
      true_self b x held e = sym (some_of _ _ (ap (settled p.sum b) (sym waiting_self) ∙ e)) ∙ (acc g.caches (ap (λ (y : CacheCell A). y.acc) (sym (cell_here p g fuel opening speaks plain keeps c a v q busy all fresh_a room h s ready)) ∙ held) ∙ sym fresh_self)
        where
          acc : (d : Bool) → cond d (Some (fresh p g (stands p g c) v)) None ≡ Some b → b ≡ fresh p g (stands p g c) v
          acc true r = cc
          acc false r = absurd (cc)

      module _ (u : ℕ) (n : u ≢ v) where
        sent : ℕ → Delta A
        sent e = sent_delta p g (stands p g c) given_by v u e

        off : (e : ℕ) → e < g.edges → g.end Source e ≢ u → g.end Target e ≢ u → sent_delta p g (stands p g c) given_by v u e ≡ Nothing
        off e i l r = at_end_in (λ y. y ≡ Nothing) g v e (λ t. cond (takes p.scatter_edges t) (cond (g.end (opposite t) e == u) (scattered p g (stands p g c) given_by t e).delta Nothing) Nothing) Nothing each refl
          where
            go : (b : Bool) (t : Side) → g.end (opposite t) e ≢ u → cond b (cond (g.end (opposite t) e == u) (scattered p g (stands p g c) given_by t e).delta Nothing) Nothing ≡ Nothing
            go true t m = ap (λ b. cond b (scattered p g (stands p g c) given_by t e).delta Nothing) (false_test _ u m)
            go false t m = refl

            each : (t : Side) → cond (takes p.scatter_edges t) (cond (g.end (opposite t) e == u) (scattered p g (stands p g c) given_by t e).delta Nothing) Nothing ≡ Nothing
            each Source = go (takes p.scatter_edges Source) Source r
            each Target = go (takes p.scatter_edges Target) Target l

        -- the end of e that is u
        only_end : (t d : Side) (e : ℕ) → e < g.edges → g.end t e ≡ u → g.end d e ≡ u → t ≡ d
        only_end Source Source e i l r = refl
        only_end Target Target e i l r = refl
        only_end Source Target e i l r = absurd (plain.loopless e i (l ∙ sym r))
        only_end Target Source e i l r = absurd (plain.loopless e i (r ∙ sym l))

        idle : (t : Side) (e : ℕ) → e < g.edges → g.end t e ≡ u → takes p.gather_edges t ≡ false → (d : A) → sent_delta p g (stands p g c) given_by v u e ≢ Add d
        idle t e i at silent d = at_end_in (λ y. y ≢ Add d) g v e (λ f. cond (takes p.scatter_edges f) (cond (g.end (opposite f) e == u) (scattered p g (stands p g c) given_by f e).delta Nothing) Nothing) Nothing (λ f. each f (takes p.scatter_edges f) (g.end (opposite f) e == u) refl refl) same_add
          where
            same_add : Nothing ≢ Add d
            same_add r = cc

            each : (f : Side) (b m : Bool) → takes p.scatter_edges f ≡ b → (g.end (opposite f) e == u) ≡ m → cond b (cond m (scattered p g (stands p g c) given_by f e).delta Nothing) Nothing ≢ Add d
            each f true true scatters r =
                let x : t ≡ opposite f = only_end t (opposite f) e i at ((Decides-eqb (g.end (opposite f) e) u).0 r) in
                adds_nothing _ d (k.idle (near_after p g (stands p g c) given_by.datum f e) given_by.carry ((after_fits p g fuel opening speaks plain keeps c a v q busy all fresh_a room h s ready) f e) (given_fits p g fuel opening speaks plain keeps c a v q busy all fresh_a room h s ready).carry scatters (ap (takes p.gather_edges) (sym x) ∙ silent))
            each f true false scatters r = same_add
            each f false m scatters r = same_add

        moved_by : (t : Side) (e : ℕ) → e < g.edges → g.end t e ≡ u → takes p.gather_edges t ≡ true → (g.end (opposite t) e ≡ v) ⊎ (g.end (opposite t) e ≢ v) → (z : A)
            → settled p.sum (p.gather (near_in g (stands p g c) t e)) (sent_delta p g (stands p g c) given_by v u e) ≡ Some z → p.gather (near_in g (stands p g next) t e) ≡ z
        moved_by t e i at used (inl r) z h2 =
            let o : Side = opposite t in
            let fun : Side → Delta A = λ f. cond (takes p.scatter_edges f) (cond (g.end (opposite f) e == u) (scattered p g (stands p g c) given_by f e).delta Nothing) Nothing in
            let one : at_end g v e fun Nothing ≡ fun o = at_end_is g plain o v e fun Nothing i r in
            let two : takes p.scatter_edges o ≡ true = k.covers o (ap (takes p.gather_edges) (other_other t) ∙ used) in
            let three : (g.end (opposite o) e == u) ≡ true = (Decides-eqb (g.end (opposite o) e) u).1 (ap (λ f. g.end f e) (other_other t) ∙ at) in
            let four : fun o ≡ (scattered p g (stands p g c) given_by o e).delta
            = ap (λ b. cond b (cond (g.end (opposite o) e == u) (scattered p g (stands p g c) given_by o e).delta Nothing) Nothing) two
            ∙ ap (λ b. cond b (scattered p g (stands p g c) given_by o e).delta Nothing) three in
            let near : Near = near_after p g (stands p g c) given_by.datum o e in
            let turn : opposite o ≡ t = other_other t in
            let old : near_in g (stands p g c) t e ≡ record { side = opposite o; edge = g.edge_info e; word = (c.content e).word; centre = (stands p g c).value (g.end (opposite o) e); other = (stands p g c).value v }
            = λ j. record { side = sym turn j; edge = g.edge_info e; word = (c.content e).word; centre = (stands p g c).value (g.end (sym turn j) e); other = (stands p g c).value (r j) } in
            let new : near_in g (stands p g next) t e ≡ record { side = opposite o; edge = g.edge_info e; word = (c.content e).word; centre = (stands p g c).value (g.end (opposite o) e); other = given_by.datum }
            = (λ j. record { side = t; edge = g.edge_info e; word = word_kept e j; centre = (value_else p g fuel opening speaks plain keeps c a v q busy all fresh_a room h s ready) (g.end t e) (λ w. n (sym at ∙ w)) j; other = (ap (stands p g next).value r ∙ (value_here p g fuel opening speaks plain keeps c a v q busy all fresh_a room h s ready)) j })
            ∙ (λ j. record { side = sym turn j; edge = g.edge_info e; word = (c.content e).word; centre = (stands p g c).value (g.end (sym turn j) e); other = given_by.datum }) in
            let law = delta_moves p k (g.info v) ((stands p g c).value v) (fresh p g (stands p g c) v) ready.message near (plain.info_of o e i ∙ ap g.info r) (s.datum_fits v) ((fresh_fits p g fuel opening speaks plain keeps c a v q busy all fresh_a room h s ready) v) (message_fits p g fuel opening speaks plain keeps c a v q busy all fresh_a room h s ready) ((after_fits p g fuel opening speaks plain keeps c a v q busy all fresh_a room h s ready) o e) refl (ap (takes p.gather_edges) turn ∙ used) z
            (ap (λ y. settled p.sum y (scattered p g (stands p g c) given_by o e).delta) (sym (ap p.gather old)) ∙ (ap (settled p.sum (p.gather (near_in g (stands p g c) t e))) (sym four ∙ sym one) ∙ h2)) in
            ap p.gather new ∙ law
        moved_by t e i at used (inr r) z h2 =
            let fun : Side → Delta A = λ f. cond (takes p.scatter_edges f) (cond (g.end (opposite f) e == u) (scattered p g (stands p g c) given_by f e).delta Nothing) Nothing in
            let away : g.end t e ≢ v = λ w. n (sym at ∙ w) in
            let one : at_end g v e fun Nothing ≡ Nothing = at_end_none g t v e fun Nothing away r in
            let near : near_in g (stands p g next) t e ≡ near_in g (stands p g c) t e
            = λ j. record { side = t; edge = g.edge_info e; word = word_kept e j; centre = (value_else p g fuel opening speaks plain keeps c a v q busy all fresh_a room h s ready) (g.end t e) away j; other = (value_else p g fuel opening speaks plain keeps c a v q busy all fresh_a room h s ready) (g.end (opposite t) e) r j } in
            ap p.gather near ∙ some_of _ _ (ap (settled p.sum (p.gather (near_in g (stands p g c) t e))) (sym one) ∙ h2)

        pub waiting_else : waiting p g next u ≡ joined p.sum (waiting p g c u) (total (joined p.sum) Nothing (sent_delta p g (stands p g c) given_by v u) g.edges)
        waiting_else =
            let laws : IsCommutativeMonoid (IsDelta p.IsAcc) Nothing (joined p.sum) = delta_monoid p speaks in
            let old : ℕ → Delta A = delta_at g c.content u in
            let new : ℕ → Delta A = sent_delta p g (stands p g c) given_by v u in
            let one : total (joined p.sum) Nothing (delta_at g next.content u) g.edges ≡ total (joined p.sum) Nothing (λ e. joined p.sum (old e) (new e)) g.edges
            = total_like (joined p.sum) Nothing (delta_at g next.content u) (λ e. joined p.sum (old e) (new e)) g.edges (λ e i. (delta_rides p g fuel opening speaks plain keeps c a v q busy all fresh_a room h s ready) u e n i) in
            let two : total (joined p.sum) Nothing (λ e. joined p.sum (old e) (new e)) g.edges ≡ joined p.sum (total (joined p.sum) Nothing old g.edges) (total (joined p.sum) Nothing new g.edges)
            = total_add laws old new g.edges ((old_in p g fuel opening speaks plain keeps c a v q busy all fresh_a room h s ready) u) ((new_in p g fuel opening speaks plain keeps c a v q busy all fresh_a room h s ready) u) in
            ap (λ (y : CacheCell A). joined p.sum y.pending (total (joined p.sum) Nothing (delta_at g next.content u) g.edges)) ((cell_else p g fuel opening speaks plain keeps c a v q busy all fresh_a room h s ready) u n)
            ∙ (ap (joined p.sum (c.place u).cell.pending) (one ∙ two)
            ∙ sym (laws.assoc (c.place u).cell.pending (total (joined p.sum) Nothing old g.edges) (total (joined p.sum) Nothing new g.edges) (s.cell_fits u).pending (total_in laws old g.edges ((old_in p g fuel opening speaks plain keeps c a v q busy all fresh_a room h s ready) u)) (total_in laws new g.edges ((new_in p g fuel opening speaks plain keeps c a v q busy all fresh_a room h s ready) u))))

        true_else : (b x : A) → (next.place u).cell.acc ≡ Some b → settled p.sum b (waiting p g next u) ≡ Some x → x ≡ fresh p g (stands p g next) u
        true_else b x held e =
            let new : ℕ → Delta A = sent_delta p g (stands p g c) given_by v u in
            let laws : IsCommutativeMonoid (IsDelta p.IsAcc) Nothing (joined p.sum) = delta_monoid p speaks in
            let fits : p.IsAcc b = held_fits p.IsAcc _ (s.cell_fits u).acc b (ap (λ (y : CacheCell A). y.acc) (sym ((cell_else p g fuel opening speaks plain keeps c a v q busy all fresh_a room h s ready) u n)) ∙ held) in
            let t = settled_twice p.IsAcc p.sum speaks.closed.sum speaks.monoidal.sum_comm speaks.monoidal.sum_assoc b (waiting p g c u) (total (joined p.sum) Nothing new g.edges) x fits
            (laws.closed _ _ (s.cell_fits u).pending (total_in laws (delta_at g c.content u) g.edges ((old_in p g fuel opening speaks plain keeps c a v q busy all fresh_a room h s ready) u))) (total_in laws new g.edges ((new_in p g fuel opening speaks plain keeps c a v q busy all fresh_a room h s ready) u)) (ap (settled p.sum b) (sym waiting_else) ∙ e) in
            let w : t.0 ≡ fresh p g (stands p g c) u = true_from p.sum _ _ _ (s.cell_true u) b t.0 (ap (λ (y : CacheCell A). y.acc) (sym ((cell_else p g fuel opening speaks plain keeps c a v q busy all fresh_a room h s ready) u n)) ∙ held) t.1 in
            sym (gather_moves p g speaks k (near_in g (stands p g c)) (near_in g (stands p g next)) u new (near_fits p g fuel opening speaks plain keeps c a v q busy all fresh_a room h s ready) ((new_in p g fuel opening speaks plain keeps c a v q busy all fresh_a room h s ready) u) g.edges off idle
            (λ d f i at used z m. moved_by d f i at used (same_or_not _ v) z m) x
            (ap (λ y. settled p.sum y (total (joined p.sum) Nothing new g.edges)) (sym w) ∙ t.2))

    -- after the entry a gather is kept only with caches
    pub kept_next : (u : ℕ) → (u ≡ v) ⊎ (u ≢ v) → (b : A) → (next.place u).cell.acc ≡ Some b → g.caches ≡ true
    kept_next u (inl r) b held = go g.caches refl (ap (λ (y : CacheCell A). y.acc) (sym (cell_here p g fuel opening speaks plain keeps c a v q busy all fresh_a room h s ready)) ∙ (ap (λ w. (next.place w).cell.acc) (sym r) ∙ held))
      where
        go : (d : Bool) → g.caches ≡ d → cond d (Some (fresh p g (stands p g c) v)) None ≡ Some b → g.caches ≡ true
        go true m w = m
        go false m w = absurd (cc)
    kept_next u (inr r) b held = s.cell_kept u b (ap (λ (y : CacheCell A). y.acc) (sym ((cell_else p g fuel opening speaks plain keeps c a v q busy all fresh_a room h s ready) u r)) ∙ held)

    true_next : (u : ℕ) → (u ≡ v) ⊎ (u ≢ v) → (b x : A) → (next.place u).cell.acc ≡ Some b → settled p.sum b (waiting p g next u) ≡ Some x → x ≡ fresh p g (stands p g next) u
    true_next u (inl r) b x held e =
        let k = keeps (kept_next u (inl r) b held) in
        true_self k b x (ap (λ w. (next.place w).cell.acc) (sym r) ∙ held) (ap (λ w. settled p.sum b (waiting p g next w)) (sym r) ∙ e) ∙ ap (fresh p g (stands p g next)) (sym r)
    true_next u (inr r) b x held e = true_else (keeps (kept_next u (inr r) b held)) u r b x held e

    -- an entry keeps the invariant
    pub entry_keeps : Invariant p g fuel opening next
    entry_keeps = record {
      clean = (clean_next p g fuel opening speaks plain keeps c a v q busy all fresh_a room h s ready);
      true_of = record {
        legal = (legal_next p g fuel opening speaks plain keeps c a v q busy all fresh_a room h s ready);
        replayed = (replayed_next p g fuel opening speaks plain keeps c a v q busy all fresh_a room h s ready);
        replica_is = λ u k n t i each. (is_written p g fuel opening speaks plain keeps c a v q busy all fresh_a room h s ready) u k n (same_or_not u v) t i each;
        replica_before = λ b u k n f m t i none. (is_before p g fuel opening speaks plain keeps c a v q busy all fresh_a room h s ready) b u k n (same_or_not b a) f m t i none;
        unwritten_pins = λ b u k n f m t i none. (pins_yet p g fuel opening speaks plain keeps c a v q busy all fresh_a room h s ready) b u k n (same_or_not b a) f m t i none;
        noted_pinned = λ b e n x t. grind (arith, nat_tests, s.noted_pinned);
        noted_is = (noted_next p g fuel opening speaks plain keeps c a v q busy all fresh_a room h s ready);
        ready = λ b u r f m k. (all_ready p g fuel opening speaks plain keeps c a v q busy all fresh_a room h s ready) b u r (same_or_not b a) f m k;
        cell_true = λ u. true_into p.sum _ _ _ (λ b x held e. true_next u (same_or_not u v) b x held e);
        cell_kept = λ u b held. kept_next u (same_or_not u v) b held;
        own_message = (own_next p g fuel opening speaks plain keeps c a v q busy all fresh_a room h s ready);
        datum_fits = (datum_next p g fuel opening speaks plain keeps c a v q busy all fresh_a room h s ready);
        content_fits = λ e. record { word = (word_next p g fuel opening speaks plain keeps c a v q busy all fresh_a room h s ready) e; message = (sent_next p g fuel opening speaks plain keeps c a v q busy all fresh_a room h s ready) e; delta = (delta_next p g fuel opening speaks plain keeps c a v q busy all fresh_a room h s ready) e };
        cell_fits = λ u. record { acc = all_held_fit p.IsAcc _ ((acc_next p g fuel opening speaks plain keeps c a v q busy all fresh_a room h s ready) u (same_or_not u v)); pending = (pending_next p g fuel opening speaks plain keeps c a v q busy all fresh_a room h s ready) u (same_or_not u v) };
      };
    }
