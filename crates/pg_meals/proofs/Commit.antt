-- An entry keeps the words clean, and the core stands for the state after it.
use Rattle.std.proofs.Common.{ℕ, ◌<◌, ◌≡◌, ◌≢◌, ◌⊎◌, ◌==◌, ltb, length, Bool, true, false, cond, Option, Some, None, inl, inr, arith, refl, sym, ap, subst, ◌∙◌, true≢false}
use Rattle.std.proofs.lemmas.Bool.Decides.{nat_tests, Decides-eqb}
use Rattle.pg_graph.specs.declared.edge.Side.{Side}
use Rattle.pg_graph.specs.Multigraph.{opposite, takes}
use Rattle.pg_meals.specs.Shape.{Shape, at_end}
use Rattle.pg_meals.specs.Words.{PinsAll}
use Rattle.pg_meals.proofs.Shapes.{Graphlike}
use Rattle.pg_meals.specs.Hygiene.{Hygiene}
use Rattle.pg_law.specs.Program.{Program}
use Rattle.pg_law.specs.declared.values.Applied.{Applied}
use Rattle.pg_law.specs.Round.{join}
use Rattle.pg_law.specs.Laws.{IsOptional, KeepsGathers, IsLawful, IsNear, IsApplied, IsScattered, IsDelta}
use Rattle.pg_meals.specs.Families.{total}
use Rattle.pg_meals.proofs.Deltas.{gather_in, held_fits}
use Rattle.pg_delta.specs.declared.cell.CacheCell.{CacheCell}
use Rattle.pg_delta.specs.Deltas.{joined}
use Rattle.pg_law.specs.declared.values.Delta.{Delta}
use Rattle.pg_law.specs.declared.values.Delta.TheVariants.{Nothing}
use Rattle.pg_meals.specs.Serial.{Serial, or_zero, near_in, near_after, fresh, applied, scattered, signal_to, exec_with, exec, IsStep, Legal, replay}
use Rattle.pg_meals.specs.Core.{Core, Content, Prepared}
use Rattle.pg_meals.specs.Standing.{stands, signalled, message_at, delta_at}
use Rattle.pg_meals.specs.Preparing.{kept_cell, content_after}
use Rattle.pg_meals.specs.Acts.{entered_core}
use Rattle.std.specs.Prelude.{is_some}
use Rattle.pg_meals.specs.StandsFor.{IsReady, StandsFor}
use Rattle.pg_meals.proofs.At.{same_or_not, false_test, some_of}
use Rattle.pg_law.specs.Monoid.{IsCommutativeMonoid}
use Rattle.pg_meals.proofs.Totals.{total_in}
use Rattle.pg_law.proofs.Parts.{join_monoid}
use Rattle.pg_meals.proofs.Turns.{Mine, Apart, mine_or_apart, enter_keeps}
use Rattle.pg_meals.proofs.Entries.{at_end_in, entry_is_execution, after_mine, after_other, after_delta_mine, after_delta_other, sent_delta, delta_mine, delta_apart, gone_delta_mine, gone_delta_apart}
use Rattle.pg_meals.proofs.Signals.{join_some_left}
use Rattle.pg_meals.proofs.Extending.{legal-append, replay-append}
use Rattle.pg_delta.proofs.Joining.{joined_own}
use Rattle.pg_meals.proofs.Rows.{side_or}

module _ {A C : Type 0} (p : Program A C) (g : Shape) where
  -- a core before and after the entry of v by a
  module _ (fuel : ℕ) (opening : Serial) (speaks : IsLawful p) (plain : Graphlike g) (keeps : g.caches ≡ true → KeepsGathers p) (c : Core A) (a v : ℕ) (q : Prepared A)
      (busy : (c.words.grip a).vertex ≡ Some v) (all : PinsAll g c.words a v) (fresh_a : (c.words.grip a).committed ≡ false) (room : length c.words.journal < fuel)
      (h : Hygiene g fuel (signalled p g c) c.words) (s : StandsFor p g opening c) (ready : IsReady p g c a v q) where
    abbrev pub next : Core A
    next = entered_core g c a v q

    abbrev pub given_by : Applied C
    given_by = applied p g (stands p g c) v ready.message

    part : (e : ℕ) → e < g.edges → Mine g c.words a v e ⊎ Apart g c.words a v e
    part = mine_or_apart g fuel (signalled p g c) c.words a v plain busy all h

    -- what an end sees before the entry are values of the program
    pub near_fits : (t : Side) (e : ℕ) → IsNear p (near_in g (stands p g c) t e)
    near_fits t e = record { edge = plain.edge_known e; word = (s.content_fits e).word; centre = s.datum_fits (g.end t e); other = s.datum_fits (g.end (opposite t) e) }

    -- so is a fresh gather
    pub fresh_fits : (u : ℕ) → p.IsAcc (fresh p g (stands p g c) u)
    fresh_fits u = gather_in p g speaks (near_in g (stands p g c)) u g.edges near_fits

    -- so is the message that is used
    pub message_fits : p.IsMessage ready.message
    message_fits =
        let laws : IsCommutativeMonoid (IsOptional p.IsMessage) None (join p.combine) = join_monoid p speaks in
        let x : IsOptional p.IsMessage ((stands p g c).message v)
        = laws.closed (c.place v).message _ (s.own_message v) (total_in laws (message_at g c.content v) g.edges (λ e. at_end_in (IsOptional p.IsMessage) g v e (λ t. (c.content e).message t) None (λ t. (s.content_fits e).message t) tt)) in
        subst (IsOptional p.IsMessage) ready.signal x

    -- so is what apply gives
    pub given_fits : IsApplied p given_by
    given_fits = speaks.closed.apply (g.info v) (c.place v).datum (fresh p g (stands p g c) v) ready.message (plain.info_known v) (s.datum_fits v) (fresh_fits v) message_fits

    -- so is what an end sees after apply
    pub after_fits : (t : Side) (e : ℕ) → IsNear p (near_after p g (stands p g c) given_by.datum t e)
    after_fits t e = record { edge = plain.edge_known e; word = (s.content_fits e).word; centre = given_fits.datum; other = s.datum_fits (g.end (opposite t) e) }

    -- so is what v scatters
    sends_fit : (t : Side) (e : ℕ) → IsScattered p (scattered p g (stands p g c) given_by t e)
    sends_fit t e = speaks.closed.scatter (near_after p g (stands p g c) given_by.datum t e) given_by.carry (after_fits t e) given_fits.carry

    -- the core after the entry stands for the execution of v
    pub exec_is : stands p g next ≡ exec_with p g (stands p g c) v given_by
    exec_is = entry_is_execution p g speaks plain c a v q given_by part (λ e t. h.pin_inside a e t) ready.content ready.datum ready.again
        given_fits.again sends_fit s.own_message (λ e. (s.content_fits e).message)

    exec_same : exec p g (stands p g c) v ≡ exec_with p g (stands p g c) v given_by
    exec_same = ap (λ o. exec_with p g (stands p g c) v (applied p g (stands p g c) v (or_zero o))) ready.signal

    is_step : IsStep p g (stands p g c) (record { vertex = v; datum = q.datum })
    is_step = record { inside = h.inside a v busy; message = ready.message; signalled = ready.signal; datum = ready.datum }

    -- the journal with the entry is legal
    pub legal_next : Legal p g opening next.words.journal
    legal_next = legal-append p g opening c.words.journal (record { vertex = v; datum = q.datum }) s.legal
        (subst (λ st. IsStep p g st (record { vertex = v; datum = q.datum })) (sym s.replayed) is_step)

    -- the core stands for the state after it
    pub replayed_next : replay p g opening next.words.journal ≡ stands p g next
    replayed_next =
        replay-append p g opening c.words.journal (record { vertex = v; datum = q.datum })
        ∙ (ap (λ st. exec p g st v) s.replayed ∙ (exec_same ∙ sym exec_is))

    -- whoever was signalled still is, but for v
    pub still_signalled : (u : ℕ) → u ≢ v → signalled p g c u ≡ true → signalled p g next u ≡ true
    still_signalled u n t =
        let test : (u == v) ≡ false = grind (arith, nat_tests) in
        ap (λ (st : Serial). is_some (st.message u)) exec_is
        ∙ ap (λ b. is_some (join p.combine (cond b given_by.again ((stands p g c).message u)) (total (join p.combine) None (signal_to p g (stands p g c) given_by v u) g.edges))) test
        ∙ join_some_left p.combine ((stands p g c).message u) (total (join p.combine) None (signal_to p g (stands p g c) given_by v u) g.edges) t

    -- no other actor has v in hand
    pub only_one : (b : ℕ) → (c.words.grip b).vertex ≡ Some v → b ≡ a
    only_one b t =
        let x = h.names v a busy in
        let y = h.names v b t in
        cc

    -- hygiene is kept
    pub clean_next : Hygiene g fuel (signalled p g next) next.words
    clean_next = enter_keeps g fuel (signalled p g c) (signalled p g next) c.words a v (record { vertex = v; datum = q.datum }) refl plain busy all room still_signalled h

    -- the message of a vertex to itself is one of the program
    pub own_next : (u : ℕ) → IsOptional p.IsMessage (next.place u).message
    own_next u = go (u == v)
      where
        mine : IsOptional p.IsMessage q.again
        mine = subst (IsOptional p.IsMessage) (sym ready.again) given_fits.again

        go : (b : Bool) → IsOptional p.IsMessage (cond b (record { datum = q.datum; message = q.again; cell = q.cell }) (c.place u)).message
        go true = mine
        go false = s.own_message u

    signal_fits : (b : Bool) (o : Option ℕ) → IsOptional p.IsMessage o → IsOptional p.IsMessage (cond b o None)
    signal_fits true o k = k
    signal_fits false o k = tt

    sent_here : (d : Side) (e : ℕ) (t : Side) → (t ≡ d) ⊎ (t ≡ opposite d) → IsOptional p.IsMessage ((content_after p g d (c.content e) (scattered p g (stands p g c) given_by d e)).message t)
    sent_here d e t (inl r) =
        let x : (content_after p g d (c.content e) (scattered p g (stands p g c) given_by d e)).message t ≡ None
        = ap (λ f. (content_after p g d (c.content e) (scattered p g (stands p g c) given_by d e)).message f) r ∙ after_mine p g d (c.content e) (scattered p g (stands p g c) given_by d e) in
        subst (IsOptional p.IsMessage) (sym x) tt
    sent_here d e t (inr r) =
        let x : (content_after p g d (c.content e) (scattered p g (stands p g c) given_by d e)).message t ≡ join p.combine ((c.content e).message (opposite d)) (cond (takes p.scatter_edges d) (scattered p g (stands p g c) given_by d e).signal None)
        = ap (λ f. (content_after p g d (c.content e) (scattered p g (stands p g c) given_by d e)).message f) r ∙ after_other p g d (c.content e) (scattered p g (stands p g c) given_by d e) in
        subst (IsOptional p.IsMessage) (sym x)
        ((join_monoid p speaks).closed _ _ ((s.content_fits e).message (opposite d)) (signal_fits (takes p.scatter_edges d) _ (sends_fit d e).signal))

    -- so is one on a fork
    pub sent_next : (e : ℕ) (t : Side) → IsOptional p.IsMessage ((next.content e).message t)
    sent_next e t = go ((c.words.grip a).pins e) refl
      where
        split : (c.words.grip a).pins e ≡ true → (i : e < g.edges) → Mine g c.words a v e ⊎ Apart g c.words a v e → IsOptional p.IsMessage ((q.content e).message t)
        split k i (inl m) = subst (λ (x : Content A). IsOptional p.IsMessage (x.message t)) (sym (ready.content (c.words.fork e).side e i m.here)) (sent_here (c.words.fork e).side e t (side_or t (c.words.fork e).side))
        split k i (inr m) = absurd (true≢false (sym k ∙ m.pins))

        go : (b : Bool) → (c.words.grip a).pins e ≡ b → IsOptional p.IsMessage ((cond b (q.content e) (c.content e)).message t)
        go true k = split k (h.pin_inside a e k) (part e (h.pin_inside a e k))
        go false k = (s.content_fits e).message t

    -- a delta for another vertex is joined with what the entry sends
    pub delta_rides : (u e : ℕ) → u ≢ v → e < g.edges → delta_at g next.content u e ≡ joined p.sum (delta_at g c.content u e) (sent_delta p g (stands p g c) given_by v u e)
    delta_rides u e n i = split (part e i)
      where
        split : Mine g c.words a v e ⊎ Apart g c.words a v e → delta_at g next.content u e ≡ joined p.sum (delta_at g c.content u e) (sent_delta p g (stands p g c) given_by v u e)
        split (inl m) = delta_mine p g c a v q given_by u e plain i m (ready.content (c.words.fork e).side e i m.here) n (same_or_not _ u)
        split (inr m) = delta_apart p g c a v q given_by u e m

    -- no delta for v is left on its forks
    pub delta_gone : (e : ℕ) → e < g.edges → delta_at g next.content v e ≡ Nothing
    delta_gone e i = split (part e i)
      where
        split : Mine g c.words a v e ⊎ Apart g c.words a v e → delta_at g next.content v e ≡ Nothing
        split (inl m) = gone_delta_mine p g c a v q given_by e plain i m (ready.content (c.words.fork e).side e i m.here)
        split (inr m) = gone_delta_apart p g c a v q e m

    -- other vertices keep their data
    pub value_else : (w : ℕ) → w ≢ v → (stands p g next).value w ≡ (stands p g c).value w
    value_else w n =
        let test : (w == v) ≡ false = false_test w v n in
        ap (λ k. (cond k (record { datum = q.datum; message = q.again; cell = q.cell }) (c.place w)).datum) test

    -- v has the new one
    pub value_here : (stands p g next).value v ≡ given_by.datum
    value_here =
        let test : (v == v) ≡ true = (Decides-eqb v v).1 refl in
        ap (λ k. (cond k (record { datum = q.datum; message = q.again; cell = q.cell }) (c.place v)).datum) test ∙ ready.datum

    -- other vertices keep their cells
    pub cell_else : (u : ℕ) → u ≢ v → (next.place u).cell ≡ (c.place u).cell
    cell_else u n =
        let test : (u == v) ≡ false = false_test u v n in
        ap (λ k. (cond k (record { datum = q.datum; message = q.again; cell = q.cell }) (c.place u)).cell) test

    -- the cell of v has the fresh gather, with caches
    pub cell_here : (next.place v).cell ≡ kept_cell p g g.caches (fresh p g (stands p g c) v)
    cell_here =
        let test : (v == v) ≡ true = (Decides-eqb v v).1 refl in
        ap (λ k. (cond k (record { datum = q.datum; message = q.again; cell = q.cell }) (c.place v)).cell) test ∙ ready.cell

    -- data are values of the program
    pub datum_next : (u : ℕ) → p.IsDatum (next.place u).datum
    datum_next u = go (u == v)
      where
        mine : p.IsDatum q.datum
        mine = subst p.IsDatum (sym ready.datum) given_fits.datum

        go : (b : Bool) → p.IsDatum (cond b (record { datum = q.datum; message = q.again; cell = q.cell }) (c.place u)).datum
        go true = mine
        go false = s.datum_fits u

    -- so are edge words
    pub word_next : (e : ℕ) → p.IsWord (next.content e).word
    word_next e = subst p.IsWord (sym (ap (λ (st : Serial). st.word e) exec_is)) (go (ltb e g.edges))
      where
        each : (t : Side) (b : Bool) → p.IsWord (cond b (scattered p g (stands p g c) given_by t e).edge (c.content e).word)
        each t true = (sends_fit t e).edge
        each t false = (s.content_fits e).word

        go : (b : Bool) → p.IsWord (cond b (at_end g v e (λ t. cond (takes p.scatter_edges t) (scattered p g (stands p g c) given_by t e).edge (c.content e).word) (c.content e).word) (c.content e).word)
        go true = at_end_in p.IsWord g v e (λ t. cond (takes p.scatter_edges t) (scattered p g (stands p g c) given_by t e).edge (c.content e).word) (c.content e).word (λ t. each t (takes p.scatter_edges t)) ((s.content_fits e).word)
        go false = (s.content_fits e).word

    delta_fit : (b : Bool) (d : Delta A) → IsDelta p.IsAcc d → IsDelta p.IsAcc (cond b d Nothing)
    delta_fit true d k = k
    delta_fit false d k = tt

    delta_here : (d : Side) (e : ℕ) (t : Side) → (t ≡ d) ⊎ (t ≡ opposite d) → IsDelta p.IsAcc ((content_after p g d (c.content e) (scattered p g (stands p g c) given_by d e)).delta t)
    delta_here d e t (inl r) =
        let x : (content_after p g d (c.content e) (scattered p g (stands p g c) given_by d e)).delta t ≡ Nothing
        = ap (λ f. (content_after p g d (c.content e) (scattered p g (stands p g c) given_by d e)).delta f) r ∙ after_delta_mine p g d (c.content e) (scattered p g (stands p g c) given_by d e) in
        subst (IsDelta p.IsAcc) (sym x) tt
    delta_here d e t (inr r) =
        let x : (content_after p g d (c.content e) (scattered p g (stands p g c) given_by d e)).delta t ≡ joined p.sum ((c.content e).delta (opposite d)) (cond (takes p.scatter_edges d) (scattered p g (stands p g c) given_by d e).delta Nothing)
        = ap (λ f. (content_after p g d (c.content e) (scattered p g (stands p g c) given_by d e)).delta f) r ∙ after_delta_other p g d (c.content e) (scattered p g (stands p g c) given_by d e) in
        subst (IsDelta p.IsAcc) (sym x) (joined_own p speaks _ _ ((s.content_fits e).delta (opposite d)) (delta_fit (takes p.scatter_edges d) _ (sends_fit d e).delta))

    -- so are deltas on forks
    pub delta_next : (e : ℕ) (t : Side) → IsDelta p.IsAcc ((next.content e).delta t)
    delta_next e t = go ((c.words.grip a).pins e) refl
      where
        split : (c.words.grip a).pins e ≡ true → (i : e < g.edges) → Mine g c.words a v e ⊎ Apart g c.words a v e → IsDelta p.IsAcc ((q.content e).delta t)
        split k i (inl m) = subst (λ (x : Content A). IsDelta p.IsAcc (x.delta t)) (sym (ready.content (c.words.fork e).side e i m.here)) (delta_here (c.words.fork e).side e t (side_or t (c.words.fork e).side))
        split k i (inr m) = absurd (true≢false (sym k ∙ m.pins))

        go : (b : Bool) → (c.words.grip a).pins e ≡ b → IsDelta p.IsAcc ((cond b (q.content e) (c.content e)).delta t)
        go true k = split k (h.pin_inside a e k) (part e (h.pin_inside a e k))
        go false k = (s.content_fits e).delta t

    -- so are kept gathers
    pub acc_next : (u : ℕ) → (u ≡ v) ⊎ (u ≢ v) → (b : A) → (next.place u).cell.acc ≡ Some b → p.IsAcc b
    acc_next u (inl r) b held = go g.caches (ap (λ (y : CacheCell A). y.acc) (sym cell_here) ∙ (ap (λ w. (next.place w).cell.acc) (sym r) ∙ held))
      where
        go : (d : Bool) → cond d (Some (fresh p g (stands p g c) v)) None ≡ Some b → p.IsAcc b
        go true w = subst p.IsAcc (some_of _ b w) (fresh_fits v)
        go false w = absurd (cc)
    acc_next u (inr r) b held = held_fits p.IsAcc _ (s.cell_fits u).acc b (ap (λ (y : CacheCell A). y.acc) (sym (cell_else u r)) ∙ held)

    -- and what is pending in cells
    pub pending_next : (u : ℕ) → (u ≡ v) ⊎ (u ≢ v) → IsDelta p.IsAcc (next.place u).cell.pending
    pending_next u (inl r) = subst (IsDelta p.IsAcc) (sym (ap (λ w. (next.place w).cell.pending) r ∙ ap (λ (y : CacheCell A). y.pending) cell_here)) tt
    pending_next u (inr r) = subst (IsDelta p.IsAcc) (sym (ap (λ (y : CacheCell A). y.pending) (cell_else u r))) (s.cell_fits u).pending

    -- a delta that waited for a vertex is one of the program
    pub old_in : (u e : ℕ) → IsDelta p.IsAcc (delta_at g c.content u e)
    old_in u e = at_end_in (IsDelta p.IsAcc) g u e (λ t. (c.content e).delta t) Nothing (λ t. (s.content_fits e).delta t) tt

    -- so is one that the entry sends
    pub new_in : (u e : ℕ) → IsDelta p.IsAcc (sent_delta p g (stands p g c) given_by v u e)
    new_in u e = at_end_in (IsDelta p.IsAcc) g v e (λ t. cond (takes p.scatter_edges t) (cond (g.end (opposite t) e == u) (scattered p g (stands p g c) given_by t e).delta Nothing) Nothing) Nothing
        (λ t. delta_fit (takes p.scatter_edges t) _ (delta_fit (g.end (opposite t) e == u) _ (sends_fit t e).delta)) tt
