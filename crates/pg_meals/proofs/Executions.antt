-- An execution over lists is the core's execution.
use Rattle.std.proofs.Common.{ℕ, zero, suc, ◌<◌, ◌≤◌, ◌≡◌, ◌≢◌, ◌⊎◌, ◌==◌, ◌||◌, List, length, map, Bool, true, false, cond, Option, Some, None, inl, inr, arith, refl, sym, ap, subst, ◌∙◌, add-one}
use Rattle.std.specs.Prelude.{filter, fold, slice_index, slice_index_or, is_some, IsTrue}
use Rattle.std.specs.List.{range_with_len}
use Rattle.std.proofs.lemmas.Bool.Decides.{nat_tests, Decides-eqb}
use Rattle.std.proofs.lemmas.List.{get_or_default, get_or_past}
use Rattle.std.proofs.lemmas.List.FromFn.{get_or-map-range_with_len, length-map-range_with_len}
use Rattle.pg_graph.specs.declared.edge.Side.{Side}
use Rattle.pg_graph.specs.declared.edge.Side.TheVariants.{Source, Target}
use Rattle.pg_graph.specs.Multigraph.{Multigraph, IsMultigraph, edge_at, edges_at, info, end_at, opposite, takes, is_at, side_at}
use Rattle.pg_graph.proofs.Numbers.{fold_filter_more}
use Rattle.pg_law.specs.declared.values.Datum.{Datum}
use Rattle.pg_law.specs.declared.values.Applied.{Applied}
use Rattle.pg_law.specs.declared.values.Scattered.{Scattered}
use Rattle.pg_law.specs.Values.{one}
use Rattle.pg_law.specs.Program.{Program}
use Rattle.pg_law.specs.Laws.{IsLawful, IsOptional, IsApplied, IsScattered}
use Rattle.pg_law.specs.Configuration.{Configuration, IsFit, datum_in, message_in}
use Rattle.pg_law.specs.Round.{near_of, fresh as fresh_of, apply_to, outcome, outcomes, became_at, datum_after, message_after, word_after, signal_in, received, join, scatter_by, from_source, from_target, word_between, final_word, signal_to as signal_of, with_signals, values_after, messages_after, execution}
use Rattle.pg_law.proofs.Fitting.{end_within, fresh_own}
use Rattle.pg_meals.specs.Shape.{Shape, at_end}
use Rattle.pg_meals.specs.Families.{total}
use Rattle.pg_meals.specs.Serial.{Serial, or_zero, near_after, applied, scattered, signal_to, exec_with, exec}
use Rattle.pg_meals.specs.Listed.{Cut, any_datum, any_word, shape_of, serial_of}
use Rattle.pg_meals.proofs.At.{same_or_not, false_test}
use Rattle.pg_law.specs.Monoid.{IsCommutativeMonoid}
use Rattle.pg_meals.proofs.Totals.{total_in, total_unit, join-none}
use Rattle.pg_law.proofs.Parts.{join_monoid}
use Rattle.pg_meals.proofs.Entries.{at_end_in}
use Rattle.pg_meals.proofs.Gathers.{below_or_past, all_edges_known, datum_read, word_read, edge_is, value_own, word_own, message_own, fresh_same}

-- the word and the signals of an edge with one end that executes, where b and d say which
words_agree : {A : Type 0} (b d x y : Bool) → (b ≡ true → d ≡ true → ⊥) → (w : ℕ) (l r : Scattered A)
    → word_after (word_after w (cond b (cond x (Some l) None) None)) (cond d (cond y (Some r) None) None) ≡ cond b (cond x l.edge w) (cond d (cond y r.edge w) w)
words_agree true true x y n w l r = absurd (n refl refl)
words_agree true false true y n w l r = refl
words_agree true false false y n w l r = refl
words_agree false true x true n w l r = refl
words_agree false true x false n w l r = refl
words_agree false false x y n w l r = refl

signal_of_sent : {A : Type 0} (b x : Bool) (s : Scattered A) → signal_in (cond b (cond x (Some s) None) None) ≡ cond b (cond x s.signal None) None
signal_of_sent true true s = refl
signal_of_sent true false s = refl
signal_of_sent false x s = refl

-- k and m say which end receives
signals_agree : (b d k m x y : Bool) → (b ≡ true → d ≡ true → ⊥) → (k ≡ true → m ≡ true → ⊥) → (l r : Option ℕ)
    → cond (k || m) (received (cond k Source Target) (cond b (cond x l None) None) (cond d (cond y r None) None)) None ≡ cond b (cond x (cond m l None) None) (cond d (cond y (cond k r None) None) None)
signals_agree true true k m x y n o l r = absurd (n refl refl)
signals_agree b d true true x y n o l r = absurd (o refl refl)
signals_agree true false true false true y n o l r = refl
signals_agree true false true false false y n o l r = refl
signals_agree true false false true true y n o l r = refl
signals_agree true false false true false y n o l r = refl
signals_agree true false false false true y n o l r = refl
signals_agree true false false false false y n o l r = refl
signals_agree false true true false x true n o l r = refl
signals_agree false true true false x false n o l r = refl
signals_agree false true false true x true n o l r = refl
signals_agree false true false true x false n o l r = refl
signals_agree false true false false x true n o l r = refl
signals_agree false true false false x false n o l r = refl
signals_agree false false true false x y n o l r = refl
signals_agree false false false true x y n o l r = refl
signals_agree false false false false x y n o l r = refl

-- one more signal, where there is one
joined : (f : ℕ → ℕ → ℕ) (b : Bool) (old new : Option ℕ) → cond b (join f old new) old ≡ join f old (cond b new None)
joined f true old new = refl
joined f false old new = sym (join-none f old)

both_ends : (x y v : ℕ) → x ≢ y → (x == v) ≡ true → (y == v) ≡ true → ⊥
both_ends x y v n a b = n ((Decides-eqb x v).0 a ∙ sym ((Decides-eqb y v).0 b))

module _ {A C : Type 0} (p : Program A C) (g : Multigraph) (cut : Cut) (caches : Bool) (law : IsLawful p) (graph : IsMultigraph g) where
  abbrev shape : Shape
  shape = shape_of g cut caches

  module _ (s : Configuration) (fit : IsFit p g s) (v m : ℕ) (inside : v < length g.ids) (message : message_in s.messages v ≡ Some m) where
    abbrev st : Serial
    st = serial_of p s

    abbrev x : Applied C
    x = p.apply (info g v) (datum_in s.values v) (fresh_of p g s v) m

    abbrev became : List (Option (Applied C))
    became = outcomes p g s (λ w. w == v)

    abbrev after : List Datum
    after = values_after p g s.values became

    -- apply gives the same over families and lists
    pub applied_same : applied p shape st v m ≡ x
    applied_same = λ j. p.apply (info g v) (datum_read p g cut caches law graph s fit v inside j) (fresh_same p g cut caches law graph s fit v j) m

    x_own : IsApplied p x
    x_own = law.closed.apply (info g v) (datum_in s.values v) (fresh_of p g s v) m (Rattle.pg_graph.proofs.Stored.info_known g graph v inside) (fit.values.each v inside) (fresh_own p g law graph s v fit) (subst (IsOptional p.IsMessage) message (fit.messages.each v inside))

    became_is : (u : ℕ) → became_at became u ≡ cond (u == v) (Some x) None
    became_is u = go (below_or_past u (length g.ids))
      where
        here : (u ≡ v) ⊎ (u ≢ v) → cond (u == v) (apply_to p g s u (message_in s.messages u)) None ≡ cond (u == v) (Some x) None
        here (inl q) = ap (λ o. cond (u == v) o None) (subst (λ w. apply_to p g s w (message_in s.messages w) ≡ Some x) (sym q) (ap (apply_to p g s v) message))
        here (inr n) = rw (false_test u v n) refl

        go : (u < length g.ids) ⊎ (length g.ids ≤ u) → became_at became u ≡ cond (u == v) (Some x) None
        go (inl i) = get_or-map-range_with_len (outcome p g s (λ w. w == v)) 0 (length g.ids) u u None i (omega arith) ∙ here (same_or_not u v)
        go (inr i) =
            let away : u ≢ v = λ q. omega (arith, inside, i, q) in
            get_or_past became u None (subst (λ k. k ≤ u) (sym (length-map-range_with_len (outcome p g s (λ w. w == v)) 0 (length g.ids))) i) ∙ sym (rw (false_test u v away) refl)

    value_is : (u : ℕ) → u < length g.ids → datum_in after u ≡ cond (u == v) x.datum (datum_in s.values u)
    value_is u i =
        get_or-map-range_with_len (λ w. datum_after (datum_in s.values w) (became_at became w)) 0 (length g.ids) u u (one 0) i (omega arith)
        ∙ ap (datum_after (datum_in s.values u)) (became_is u) ∙ go (u == v)
      where
        go : (b : Bool) → datum_after (datum_in s.values u) (cond b (Some x) None) ≡ cond b x.datum (datum_in s.values u)
        go true = refl
        go false = refl

    -- an edge of v, as it is seen after the apply
    near_is : (t : Side) (e : ℕ) → e < length g.edges → (end_at g t e == v) ≡ true → (end_at g (opposite t) e == v) ≡ false → near_of g after t e (slice_index s.edges e) ≡ near_after p shape st x.datum t e
    near_is t e i here there = λ j. record {
      side = t;
      edge = sym (edge_is p g cut caches law graph e i) j;
      word = sym (word_read p g cut caches law graph s fit e i) j;
      centre = (value_is (end_at g t e) (end_within p g law graph t e i) ∙ ap (λ b. cond b x.datum (datum_in s.values (end_at g t e))) here) j;
      other = (value_is (end_at g (opposite t) e) (end_within p g law graph (opposite t) e i) ∙ ap (λ b. cond b x.datum (datum_in s.values (end_at g (opposite t) e))) there ∙ sym (datum_read p g cut caches law graph s fit (end_at g (opposite t) e) (end_within p g law graph (opposite t) e i))) j;
    }

    abbrev sent : Side → ℕ → Scattered A
    sent t e = scattered p shape st x t e

    -- what an end of an edge scatters
    scatter_is : (t : Side) (e w : ℕ) → e < length g.edges → ((end_at g t e == v) ≡ true → (end_at g (opposite t) e == v) ≡ false) → ((end_at g t e == v) ≡ true → w ≡ slice_index s.edges e)
        → scatter_by p g after t e w (became_at became (end_at g t e)) ≡ cond (end_at g t e == v) (cond (takes p.scatter_edges t) (Some (sent t e)) None) None
    scatter_is t e w i apart same = ap (scatter_by p g after t e w) (became_is (end_at g t e)) ∙ go (end_at g t e == v) refl
      where
        go : (b : Bool) → (end_at g t e == v) ≡ b → scatter_by p g after t e w (cond b (Some x) None) ≡ cond b (cond (takes p.scatter_edges t) (Some (sent t e)) None) None
        go true q = ap (λ k. cond (takes p.scatter_edges t) (Some (p.scatter (near_of g after t e k) x.carry)) None) (same q)
            ∙ ap (λ near. cond (takes p.scatter_edges t) (Some (p.scatter near x.carry)) None) (near_is t e i q (apart q))
        go false q = refl

    not_both : (e : ℕ) → e < length g.edges → (end_at g Source e == v) ≡ true → (end_at g Target e == v) ≡ true → ⊥
    not_both e i = both_ends (end_at g Source e) (end_at g Target e) v (graph.edge e i).apart

    other_false : (b : Bool) → (b ≡ true → ⊥) → b ≡ false
    other_false true n = absurd (n refl)
    other_false false n = refl

    source_is : (e : ℕ) → e < length g.edges → from_source p g after s.edges became e ≡ cond (end_at g Source e == v) (cond (takes p.scatter_edges Source) (Some (sent Source e)) None) None
    source_is e i = scatter_is Source e (slice_index s.edges e) i (λ q. other_false (end_at g Target e == v) (not_both e i q)) (λ q. refl)

    between_is : (e : ℕ) → e < length g.edges → (end_at g Target e == v) ≡ true → word_between p g after s.edges became e ≡ slice_index s.edges e
    between_is e i q =
        let away : (end_at g Source e == v) ≡ false = other_false (end_at g Source e == v) (λ r. not_both e i r q) in
        ap (word_after (slice_index s.edges e)) (source_is e i) ∙ ap (λ b. word_after (slice_index s.edges e) (cond b (cond (takes p.scatter_edges Source) (Some (sent Source e)) None) None)) away

    target_is : (e : ℕ) → e < length g.edges → from_target p g after s.edges became e ≡ cond (end_at g Target e == v) (cond (takes p.scatter_edges Target) (Some (sent Target e)) None) None
    target_is e i = scatter_is Target e (word_between p g after s.edges became e) i (λ q. other_false (end_at g Source e == v) (λ r. not_both e i r q)) (between_is e i)

    word_is : (e : ℕ) → e < length g.edges → final_word p g after s.edges became e ≡ at_end shape v e (λ t. cond (takes p.scatter_edges t) (sent t e).edge (st.word e)) (st.word e)
    word_is e i =
        let w : ℕ = slice_index s.edges e in
        (λ j. word_after (word_after w (source_is e i j)) (target_is e i j))
        ∙ words_agree (end_at g Source e == v) (end_at g Target e == v) (takes p.scatter_edges Source) (takes p.scatter_edges Target) (not_both e i) w (sent Source e) (sent Target e)
        ∙ ap (λ k. at_end shape v e (λ t. cond (takes p.scatter_edges t) (sent t e).edge k) k) (sym (word_read p g cut caches law graph s fit e i))

    -- what v signals to u over an edge
    signal_is : (u e : ℕ) → e < length g.edges → cond (is_at u (edge_at g e)) (signal_of p g after s.edges became u e) None ≡ signal_to p shape st x v u e
    signal_is u e i =
        let src : Bool = end_at g Source e == v in
        let dst : Bool = end_at g Target e == v in
        let one : signal_in (from_source p g after s.edges became e) ≡ cond src (cond (takes p.scatter_edges Source) (sent Source e).signal None) None
        = ap signal_in (source_is e i) ∙ signal_of_sent src (takes p.scatter_edges Source) (sent Source e) in
        let two : signal_in (from_target p g after s.edges became e) ≡ cond dst (cond (takes p.scatter_edges Target) (sent Target e).signal None) None
        = ap signal_in (target_is e i) ∙ signal_of_sent dst (takes p.scatter_edges Target) (sent Target e) in
        (λ j. cond (is_at u (edge_at g e)) (received (side_at g u e) (one j) (two j)) None)
        ∙ signals_agree src dst (end_at g Source e == u) (end_at g Target e == u) (takes p.scatter_edges Source) (takes p.scatter_edges Target) (not_both e i)
        (both_ends (end_at g Source e) (end_at g Target e) u (graph.edge e i).apart) (sent Source e).signal (sent Target e).signal

    sent_own : (t : Side) (e : ℕ) → IsScattered p (sent t e)
    sent_own t e = law.closed.scatter (near_after p shape st x.datum t e) x.carry
        (record { edge = all_edges_known p g cut caches law graph e; word = word_own p g cut caches law graph s fit e; centre = x_own.datum; other = value_own p g cut caches law graph s fit (end_at g (opposite t) e) }) x_own.carry

    signal_own : (u e : ℕ) → IsOptional p.IsMessage (signal_to p shape st x v u e)
    signal_own u e = at_end_in (IsOptional p.IsMessage) shape v e (λ t. cond (takes p.scatter_edges t) (cond (end_at g (opposite t) e == u) (sent t e).signal None) None) None
        (λ t. go (takes p.scatter_edges t) (end_at g (opposite t) e == u) (sent t e).signal (sent_own t e).signal) tt
      where
        go : (b d : Bool) (o : Option ℕ) → IsOptional p.IsMessage o → IsOptional p.IsMessage (cond b (cond d o None) None)
        go true true o h = h
        go true false o h = tt
        go false d o h = tt

    abbrev before : ℕ → Option ℕ
    before u = cond (u == v) x.again (message_in s.messages u)

    before_own : (u : ℕ) → IsOptional p.IsMessage (before u)
    before_own u = go (u == v)
      where
        go : (b : Bool) → IsOptional p.IsMessage (cond b x.again (message_in s.messages u))
        go true = x_own.again
        go false = message_own p g cut caches law graph s fit u

    before_is : (u : ℕ) → u < length g.ids → message_in (messages_after p g s.messages became) u ≡ before u
    before_is u i =
        get_or-map-range_with_len (λ w. message_after (message_in s.messages w) (became_at became w)) 0 (length g.ids) u u None i (omega arith)
        ∙ ap (message_after (message_in s.messages u)) (became_is u) ∙ go (u == v)
      where
        go : (b : Bool) → message_after (message_in s.messages u) (cond b (Some x) None) ≡ cond b x.again (message_in s.messages u)
        go true = refl
        go false = refl

    -- the message of u with the signals over the edges below n
    signals_upto : (u n : ℕ) → n ≤ length g.edges
        → with_signals p g after s.edges became u (before u) (filter (λ e. is_at u (edge_at g e)) (range_with_len 0 n)) ≡ join p.combine (before u) (total (join p.combine) None (signal_to p shape st x v u) n)
    signals_upto u zero i = sym (join-none p.combine (before u))
    signals_upto u (suc n) i =
        let add = join p.combine in
        let laws : IsCommutativeMonoid (IsOptional p.IsMessage) None add = join_monoid p law in
        let test : ℕ → Bool = λ e. is_at u (edge_at g e) in
        let here : ℕ → Option ℕ = signal_of p g after s.edges became u in
        let there : ℕ → Option ℕ = signal_to p shape st x v u in
        let old : Option ℕ = with_signals p g after s.edges became u (before u) (filter test (range_with_len 0 n)) in
        let sum : Option ℕ = total add None there n in
        let same : old ≡ add (before u) sum = signals_upto u n (omega arith) in
        let one : cond (test n) (add old (here n)) old ≡ add old (there n) = joined p.combine (test n) old (here n) ∙ ap (add old) (signal_is u n (omega arith)) in
        let two : add (add (before u) sum) (there n) ≡ add (before u) (add sum (there n)) = laws.assoc (before u) sum (there n) (before_own u) (total_in laws there n (signal_own u)) (signal_own u n) in
        let goal : ℕ → Type 0 = λ k. with_signals p g after s.edges became u (before u) (filter test (range_with_len 0 k)) ≡ add (before u) (add sum (there n)) in
        subst goal (add-one n) (fold_filter_more (λ o e. add o (here e)) (before u) test n ∙ one ∙ ap (λ o. add o (there n)) same ∙ two)

    -- the three lists after the execution, as the core sees them
    value_same : (u : ℕ) → (u < length g.ids) ⊎ (length g.ids ≤ u) → slice_index_or after u (any_datum p) ≡ cond (u == v) x.datum (st.value u)
    value_same u (inl i) =
        get_or_default after u (any_datum p) (one 0) (subst (λ k. u < k) (sym (length-map-range_with_len (λ w. datum_after (datum_in s.values w) (became_at became w)) 0 (length g.ids))) i)
        ∙ value_is u i ∙ ap (cond (u == v) x.datum) (sym (datum_read p g cut caches law graph s fit u i))
    value_same u (inr i) =
        let away : u ≢ v = λ q. omega (arith, inside, i, q) in
        get_or_past after u (any_datum p) (subst (λ k. k ≤ u) (sym (length-map-range_with_len (λ w. datum_after (datum_in s.values w) (became_at became w)) 0 (length g.ids))) i)
        ∙ sym (get_or_past s.values u (any_datum p) (subst (λ k. k ≤ u) (sym fit.values.count) i)) ∙ sym (ap (λ b. cond b x.datum (st.value u)) (false_test u v away))

    word_same : (e : ℕ) → (e < length g.edges) ⊎ (length g.edges ≤ e) → slice_index_or (map (final_word p g after s.edges became) (range_with_len 0 (length g.edges))) e (any_word p) ≡ (exec_with p shape st v x).word e
    word_same e (inl i) =
        let t : Rattle.std.specs.Prelude.ltb e (length g.edges) ≡ true = grind (arith, nat_tests) in
        get_or-map-range_with_len (final_word p g after s.edges became) 0 (length g.edges) e e (any_word p) i (omega arith) ∙ word_is e i
        ∙ sym (ap (λ b. cond b (at_end shape v e (λ k. cond (takes p.scatter_edges k) (sent k e).edge (st.word e)) (st.word e)) (st.word e)) t)
    word_same e (inr i) =
        let t : Rattle.std.specs.Prelude.ltb e (length g.edges) ≡ false = grind (arith, nat_tests) in
        get_or_past (map (final_word p g after s.edges became) (range_with_len 0 (length g.edges))) e (any_word p) (subst (λ k. k ≤ e) (sym (length-map-range_with_len (final_word p g after s.edges became) 0 (length g.edges))) i)
        ∙ sym (get_or_past s.edges e (any_word p) (subst (λ k. k ≤ e) (sym fit.words.count) i))
        ∙ sym (ap (λ b. cond b (at_end shape v e (λ k. cond (takes p.scatter_edges k) (sent k e).edge (st.word e)) (st.word e)) (st.word e)) t)

    abbrev signalled_by : ℕ → Option ℕ
    signalled_by u = with_signals p g after s.edges became u (message_in (messages_after p g s.messages became) u) (edges_at g u)

    unsent : (u e : ℕ) → length g.ids ≤ u → e < length g.edges → signal_to p shape st x v u e ≡ None
    unsent u e far i = at_end_in (λ o. o ≡ None) shape v e (λ t. cond (takes p.scatter_edges t) (cond (end_at g (opposite t) e == u) (sent t e).signal None) None) None each refl
      where
        go : (b : Bool) (o : Option ℕ) → cond b (cond false o None) None ≡ None
        go true o = refl
        go false o = refl

        each : (t : Side) → cond (takes p.scatter_edges t) (cond (end_at g (opposite t) e == u) (sent t e).signal None) None ≡ None
        each t =
            let near : end_at g (opposite t) e < length g.ids = end_within p g law graph (opposite t) e i in
            let away : end_at g (opposite t) e ≢ u = λ q. omega (arith, near, far, q) in
            ap (λ b. cond (takes p.scatter_edges t) (cond b (sent t e).signal None) None) (false_test _ u away) ∙ go (takes p.scatter_edges t) (sent t e).signal

    message_same : (u : ℕ) → (u < length g.ids) ⊎ (length g.ids ≤ u) → slice_index_or (map signalled_by (range_with_len 0 (length g.ids))) u None ≡ (exec_with p shape st v x).message u
    message_same u (inl i) =
        get_or-map-range_with_len signalled_by 0 (length g.ids) u u None i (omega arith)
        ∙ ap (λ o. with_signals p g after s.edges became u o (edges_at g u)) (before_is u i) ∙ signals_upto u (length g.edges) (omega arith)
    message_same u (inr i) =
        let away : u ≢ v = λ q. omega (arith, inside, i, q) in
        let laws : IsCommutativeMonoid (IsOptional p.IsMessage) None (join p.combine) = join_monoid p law in
        let none : total (join p.combine) None (signal_to p shape st x v u) (length g.edges) ≡ None = total_unit laws (signal_to p shape st x v u) (length g.edges) (λ e k. unsent u e i k) in
        let old : message_in s.messages u ≡ None = get_or_past s.messages u None (subst (λ k. k ≤ u) (sym fit.messages.count) i) in
        get_or_past (map signalled_by (range_with_len 0 (length g.ids))) u None (subst (λ k. k ≤ u) (sym (length-map-range_with_len signalled_by 0 (length g.ids))) i)
        ∙ sym (ap (join p.combine (before u)) none ∙ join-none p.combine (before u) ∙ ap (λ b. cond b x.again (message_in s.messages u)) (false_test u v away) ∙ old)

    -- an execution over lists is that over families
    pub execution_is : serial_of p (execution p g s v) ≡ exec p shape st v
    unfolding execution
    execution_is =
        let one : serial_of p (execution p g s v) ≡ exec_with p shape st v x = λ j. record {
          value = λ u. value_same u (below_or_past u (length g.ids)) j;
          word = λ e. word_same e (below_or_past e (length g.edges)) j;
          message = λ u. message_same u (below_or_past u (length g.ids)) j;
        } in
        one ∙ ap (exec_with p shape st v) (sym applied_same) ∙ ap (λ o. exec_with p shape st v (applied p shape st v (or_zero o))) (sym message)

    -- the datum that an execution leaves is the one that apply gives
    pub datum_is : datum_in (execution p g s v).values v ≡ x.datum
    unfolding execution
    datum_is = value_is v inside ∙ ap (λ b. cond b x.datum (datum_in s.values v)) ((Decides-eqb v v).1 refl)
