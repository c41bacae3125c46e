-- What an execution leaves, by the vertex and the edges that it touches.
use Rattle.std.proofs.Common.{◌≡◌, ◌≢◌, inl, inr, ℕ, zero, suc, ◌+◌, ◌<◌, Bool, true, false, cond, Option, Some, None, List, length, refl, sym, ◌∙◌, ap, subst, arith, add-one}
use Rattle.std.specs.Prelude.{map, filter, fold, slice_index, slice_set, ◌==◌, ◌||◌, ◌&&◌, ◌⊎◌, nat_lt, is_some, not}
use Rattle.std.specs.List.{range_with_len}
use Rattle.std.proofs.lemmas.Bool.{eqb-true, eq-eqb, ne_eqb, true≢false, cond-false, cases_order, lt-ltb, le-ltb}
use Rattle.std.proofs.lemmas.List.FromFn.{get_or-map-range_with_len, fill_by_all}
use Rattle.std.proofs.lemmas.List.{get_or-set_same, get_or-set_other, length-set}
use Rattle.std.proofs.lemmas.List.Folds.{fold-map}
use Rattle.pg_graph.specs.declared.edge.Edge.{Edge}
use Rattle.pg_graph.specs.declared.edge.Side.{Side}
use Rattle.pg_graph.specs.declared.edge.Side.TheVariants.{Source, Target}
use Rattle.pg_graph.specs.Multigraph.{Multigraph, IsMultigraph, edge_at, edge_info, edges_at, edge_numbers, end_of, end_at, side_of, side_at, opposite, is_at, takes}
use Rattle.pg_graph.proofs.Numbers.{fold_filter_more}
use Rattle.pg_law.specs.declared.values.Datum.{Datum}
use Rattle.pg_law.specs.declared.values.Near.{Near}
use Rattle.pg_law.specs.declared.values.Applied.{Applied}
use Rattle.pg_law.specs.declared.values.Scattered.{Scattered}
use Rattle.pg_law.specs.Values.{one}
use Rattle.pg_law.specs.Program.{Program}
use Rattle.pg_law.specs.Configuration.{Configuration, IsFit, datum_in, message_in}
use Rattle.pg_law.specs.Round.{near_of, apply_to, outcome, outcomes, became_at, datum_after, message_after, values_after, messages_after, scatter_by, from_source, from_target, word_between, word_after, final_word, signal_in, signal_to, received, join, with_signals, execution}
use Rattle.pg_serial.specs.declared.scatter.Sent.{Sent}
use Rattle.pg_serial.specs.Sending.{other_end, scattered_over, sent_over, tells, sents_around, word_with, message_with}
use Rattle.pg_serial.proofs.Noting.{filter_twice}

-- two folds over numbers are equal where each step of them is
pub same_folds : {B : Type 0} (f h : B → ℕ → B) (p q : ℕ → Bool) (n : ℕ) (b : B) → ((m : B) (x : ℕ) → x < n → cond (p x) (f m x) m ≡ cond (q x) (h m x) m)
    → fold f b (filter p (range_with_len 0 n)) ≡ fold h b (filter q (range_with_len 0 n))
same_folds f h p q zero b same = refl
same_folds {B = B} f h p q (suc n) b same = let P : ℕ → Type 0 = λ k. fold f b (filter p (range_with_len 0 k)) ≡ fold h b (filter q (range_with_len 0 k)) in
    subst P (add-one n) (fold_filter_more f b p n
    ∙ same (fold f b (filter p (range_with_len 0 n))) n (omega arith)
    ∙ ap (λ (m : B). cond (q n) (h m n) m) (same_folds f h p q n b (λ m x below. same m x (omega arith)))
    ∙ sym (fold_filter_more h b q n))

-- the one that is written, of the numbers that pass
pub written : {B : Type 0} (f : ℕ → B) (p : ℕ → Bool) (e n : ℕ) (b : B) → fold (λ w x. cond (x == e) (f x) w) b (filter p (range_with_len 0 n)) ≡ cond (nat_lt e n) (cond (p e) (f e) b) b
written f p e zero b = sym (cond-false (nat_lt e 0) (cond (p e) (f e) b) b (le-ltb e 0 (omega arith)))
written {B = B} f p e (suc n) b = let P : ℕ → Type 0 = λ k. fold (λ w x. cond (x == e) (f x) w) b (filter p (range_with_len 0 k)) ≡ cond (nat_lt e k) (cond (p e) (f e) b) b in
    subst P (add-one n) (fold_filter_more (λ w x. cond (x == e) (f x) w) b p n ∙ ap (λ (w : B). cond (p n) (cond (n == e) (f n) w) w) (written f p e n b) ∙ last (cases_order e n))
  where
    last : (e ≡ n) ⊎ ((e < n) ⊎ (n < e)) → cond (p n) (cond (n == e) (f n) (cond (nat_lt e n) (cond (p e) (f e) b) b)) (cond (nat_lt e n) (cond (p e) (f e) b) b) ≡ cond (nat_lt e (n + 1)) (cond (p e) (f e) b) b
    last (inl same) = rw (same, eq-eqb n n refl, le-ltb n n (omega arith), lt-ltb n (n + 1) (omega arith)) refl
    last (inr (inl below)) = rw (ne_eqb n e (λ same. absurd (omega arith)), lt-ltb e n below, lt-ltb e (n + 1) (omega arith)) (either (p n) (cond (p e) (f e) b))
      where
        either : (t : Bool) (x : B) → cond t x x ≡ x
        either true x = refl
        either false x = refl
    last (inr (inr above)) = rw (ne_eqb n e (λ same. absurd (omega arith)), le-ltb e n (omega arith), le-ltb e (n + 1) (omega arith)) (either (p n) b)
      where
        either : (t : Bool) (x : B) → cond t x x ≡ x
        either true x = refl
        either false x = refl

pub join_none : (combine : ℕ → ℕ → ℕ) (m : Option ℕ) → join combine m None ≡ m
join_none combine None = refl
join_none combine (Some m) = refl

-- the end at which a vertex stands, and the other one
module _ (u : ℕ) (edge : Edge) (stands : is_at u edge ≡ true) (apart : edge.src ≢ edge.dst) where
  by_source : (b : Bool) → (edge.src == u) ≡ b → (end_of (side_of u edge) edge ≡ u) × ((end_of (opposite (side_of u edge)) edge == u) ≡ false)
  by_source true e = rw e (eqb-true edge.src u e, ne_eqb edge.dst u (λ d. apart (eqb-true edge.src u e ∙ sym d)))
  by_source false e = rw e (eqb-true edge.dst u (rw e at stands), e)

  pub not_there : (end_of (opposite (side_of u edge)) edge == u) ≡ false
  not_there = (by_source (edge.src == u) refl).1

-- what the executing vertex becomes
pub outcome_here : {Acc Carry : Type 0} (p : Program Acc Carry) (g : Multigraph) (s : Configuration) (u message : ℕ) (applied : Applied Carry)
    → message_in s.messages u ≡ Some message → apply_to p g s u (Some message) ≡ Some applied → outcome p g s (λ v. v == u) u ≡ Some applied
outcome_here p g s u message applied waits is = ap (λ b. cond b (apply_to p g s u (message_in s.messages u)) None) (eq-eqb u u refl)
    ∙ ap (apply_to p g s u) waits ∙ is

abbrev nearby : Multigraph → Side → ℕ → ℕ → Datum → Datum → Near
nearby g side e word centre other = record { side = side; edge = edge_info g e; word = word; centre = centre; other = other }

module _ {Acc Carry : Type 0} (p : Program Acc Carry) (g : Multigraph) (graph : IsMultigraph g) (s : Configuration) (u : ℕ) (inside : u < length g.ids) (applied : Applied Carry) (is : outcome p g s (λ v. v == u) u ≡ Some applied) where
  abbrev became : List (Option (Applied Carry))
  became = outcomes p g s (λ v. v == u)

  abbrev values : List Datum
  values = values_after p g s.values became

  became_here : became_at became u ≡ Some applied
  became_here = get_or-map-range_with_len (outcome p g s (λ v. v == u)) 0 (length g.ids) u u None inside (omega arith) ∙ is

  pub became_elsewhere : (v : ℕ) → v < length g.ids → (v == u) ≡ false → became_at became v ≡ None
  became_elsewhere v h other = get_or-map-range_with_len (outcome p g s (λ v. v == u)) 0 (length g.ids) v v None h (omega arith) ∙ rw other refl

  datum_then : (v : ℕ) → v < length g.ids → datum_in values v ≡ datum_after (datum_in s.values v) (became_at became v)
  datum_then v h = get_or-map-range_with_len (λ v. datum_after (datum_in s.values v) (became_at became v)) 0 (length g.ids) v v (one 0) h (omega arith)

  datum_here : datum_in values u ≡ applied.datum
  datum_here = datum_then u inside ∙ ap (datum_after (datum_in s.values u)) became_here

  datum_elsewhere : (v : ℕ) → v < length g.ids → (v == u) ≡ false → datum_in values v ≡ datum_in s.values v
  datum_elsewhere v h other = datum_then v h ∙ ap (datum_after (datum_in s.values v)) (became_elsewhere v h other)

  ends_within : (side : Side) (e : ℕ) → e < length g.edges → end_at g side e < length g.ids
  ends_within Source e h = (graph.edge e h).src
  ends_within Target e h = (graph.edge e h).dst

  abbrev sent : ℕ → Option (Scattered Acc)
  sent = scattered_over p g s.values s.edges u applied

  -- an edge at this side of which the vertex stands
  module _ (e : ℕ) (h : e < length g.edges) (side : Side) (here : end_at g side e ≡ u) (other : (end_at g (opposite side) e == u) ≡ false) (is_side : side_at g u e ≡ side) where
    near_then : near_of g values side e (slice_index s.edges e) ≡ nearby g side e (slice_index s.edges e) applied.datum (datum_in s.values (end_at g (opposite side) e))
    near_then = ap (λ c. nearby g side e (slice_index s.edges e) c (datum_in values (end_at g (opposite side) e))) (ap (datum_in values) here ∙ datum_here)
        ∙ ap (nearby g side e (slice_index s.edges e) applied.datum) (datum_elsewhere _ (ends_within (opposite side) e h) other)

    scattered_here : scatter_by p g values side e (slice_index s.edges e) (became_at became (end_at g side e)) ≡ sent e
    scattered_here = ap (scatter_by p g values side e (slice_index s.edges e)) (ap (became_at became) here ∙ became_here)
        ∙ ap (λ near. cond (takes p.scatter_edges side) (Some (p.scatter near applied.carry)) None) near_then
        ∙ ap (λ i. cond (takes p.scatter_edges i) (Some (p.scatter (nearby g i e (slice_index s.edges e) applied.datum (datum_in s.values (end_at g (opposite i) e))) applied.carry)) None) (sym is_side)

    silent_there : (word : ℕ) → scatter_by p g values (opposite side) e word (became_at became (end_at g (opposite side) e)) ≡ None
    silent_there word = ap (scatter_by p g values (opposite side) e word) (became_elsewhere _ (ends_within (opposite side) e h) other)

  -- an edge at which the vertex doesn't stand
  module _ (e : ℕ) (h : e < length g.edges) (src : (end_at g Source e == u) ≡ false) (dst : (end_at g Target e == u) ≡ false) where
    silent_source : from_source p g values s.edges became e ≡ None
    silent_source = ap (scatter_by p g values Source e (slice_index s.edges e)) (became_elsewhere _ (ends_within Source e h) src)

    silent_target : from_target p g values s.edges became e ≡ None
    silent_target = ap (scatter_by p g values Target e (word_between p g values s.edges became e)) (became_elsewhere _ (ends_within Target e h) dst)

  abbrev word_of : ℕ → ℕ
  word_of e = word_after (slice_index s.edges e) (sent e)

  abbrev final : ℕ → ℕ
  final = final_word p g values s.edges became

  abbrev signal : ℕ → ℕ → Option ℕ
  signal = signal_to p g values s.edges became

  -- what an edge hands a vertex, where only the executing vertex scatters
  abbrev HandsOver : ℕ → Type 0
  HandsOver e = (final e ≡ cond (is_at u (edge_at g e)) (word_of e) (slice_index s.edges e))
      × ((v : ℕ) (m : Option ℕ) → cond (is_at u (edge_at g e)) (cond (other_end g u e == v) (join p.combine m (signal_in (sent e))) m) m ≡ cond (is_at v (edge_at g e)) (join p.combine m (signal v e)) m)

  either : {X : Type 0} (t : Bool) (x : X) → cond t x x ≡ x
  either true x = refl
  either false x = refl

  -- the vertex is the edge's source
  from_its_source : (e : ℕ) → e < length g.edges → (end_at g Source e == u) ≡ true → HandsOver e
  from_its_source e h src = (words, signals)
    where
      here : end_at g Source e ≡ u
      here = eqb-true _ u src

      there : (end_at g Target e == u) ≡ false
      there = ne_eqb _ u (λ d. (graph.edge e h).apart (here ∙ sym d))

      side : side_at g u e ≡ Source
      side = rw src refl

      is_sent : from_source p g values s.edges became e ≡ sent e
      is_sent = scattered_here e h Source here there side

      is_silent : from_target p g values s.edges became e ≡ None
      is_silent = silent_there e h Source here there side (word_between p g values s.edges became e)

      words : final e ≡ cond (is_at u (edge_at g e)) (word_of e) (slice_index s.edges e)
      words = ap (word_after (word_between p g values s.edges became e)) is_silent ∙ ap (word_after (slice_index s.edges e)) is_sent ∙ sym (ap (λ b. cond (b || (end_at g Target e == u)) (word_of e) (slice_index s.edges e)) src)

      signals : (v : ℕ) (m : Option ℕ) → cond (is_at u (edge_at g e)) (cond (other_end g u e == v) (join p.combine m (signal_in (sent e))) m) m ≡ cond (is_at v (edge_at g e)) (join p.combine m (signal v e)) m
      signals v m = ap (λ b. cond (b || (end_at g Target e == u)) (cond (end_of (opposite (cond b Source Target)) (edge_at g e) == v) (join p.combine m (signal_in (sent e))) m) m) src
          ∙ at_end (end_at g Source e == v) refl
          ∙ sym (ap (λ (ab : Option (Scattered Acc)). cond (is_at v (edge_at g e)) (join p.combine m (received (side_at g v e) (signal_in ab) (signal_in (from_target p g values s.edges became e)))) m) is_sent
          ∙ ap (λ (ab : Option (Scattered Acc)). cond (is_at v (edge_at g e)) (join p.combine m (received (side_at g v e) (signal_in (sent e)) (signal_in ab))) m) is_silent)
        where
          at_end : (b : Bool) → (end_at g Source e == v) ≡ b → cond (end_at g Target e == v) (join p.combine m (signal_in (sent e))) m ≡ cond (is_at v (edge_at g e)) (join p.combine m (received (side_at g v e) (signal_in (sent e)) None)) m
          at_end true b = rw (b, ne_eqb (end_at g Target e) v (λ d. (graph.edge e h).apart (eqb-true _ v b ∙ sym d))) (sym (join_none p.combine m))
          at_end false b = rw b refl

  -- the vertex is the edge's target
  from_its_target : (e : ℕ) → e < length g.edges → (end_at g Source e == u) ≡ false → (end_at g Target e == u) ≡ true → HandsOver e
  from_its_target e h src dst = (words, signals)
    where
      side : side_at g u e ≡ Target
      side = rw src refl

      is_silent : from_source p g values s.edges became e ≡ None
      is_silent = silent_there e h Target (eqb-true _ u dst) src side (slice_index s.edges e)

      is_sent : from_target p g values s.edges became e ≡ sent e
      is_sent = ap (λ o. scatter_by p g values Target e (word_after (slice_index s.edges e) o) (became_at became (end_at g Target e))) is_silent ∙ scattered_here e h Target (eqb-true _ u dst) src side

      words : final e ≡ cond (is_at u (edge_at g e)) (word_of e) (slice_index s.edges e)
      words = ap (word_after (word_between p g values s.edges became e)) is_sent ∙ ap (λ o. word_after (word_after (slice_index s.edges e) o) (sent e)) is_silent
          ∙ sym (ap (λ b. cond (b || (end_at g Target e == u)) (word_of e) (slice_index s.edges e)) src ∙ ap (λ b. cond b (word_of e) (slice_index s.edges e)) dst)

      signals : (v : ℕ) (m : Option ℕ) → cond (is_at u (edge_at g e)) (cond (other_end g u e == v) (join p.combine m (signal_in (sent e))) m) m ≡ cond (is_at v (edge_at g e)) (join p.combine m (signal v e)) m
      signals v m = ap (λ b. cond (b || (end_at g Target e == u)) (cond (end_of (opposite (cond b Source Target)) (edge_at g e) == v) (join p.combine m (signal_in (sent e))) m) m) src
          ∙ ap (λ b. cond b (cond (end_at g Source e == v) (join p.combine m (signal_in (sent e))) m) m) dst
          ∙ at_end (end_at g Source e == v) refl
          ∙ sym (ap (λ (ab : Option (Scattered Acc)). cond (is_at v (edge_at g e)) (join p.combine m (received (side_at g v e) (signal_in ab) (signal_in (from_target p g values s.edges became e)))) m) is_silent
          ∙ ap (λ (ab : Option (Scattered Acc)). cond (is_at v (edge_at g e)) (join p.combine m (received (side_at g v e) None (signal_in ab))) m) is_sent)
        where
          at_end : (b : Bool) → (end_at g Source e == v) ≡ b → cond (end_at g Source e == v) (join p.combine m (signal_in (sent e))) m ≡ cond (is_at v (edge_at g e)) (join p.combine m (received (side_at g v e) None (signal_in (sent e)))) m
          at_end true b = rw b refl
          at_end false b = rw b (sym (ap (cond (end_at g Target e == v) (join p.combine m None)) refl ∙ ap (λ x. cond (end_at g Target e == v) x m) (join_none p.combine m) ∙ either (end_at g Target e == v) m))

  -- it stands at neither end
  from_elsewhere : (e : ℕ) → e < length g.edges → (end_at g Source e == u) ≡ false → (end_at g Target e == u) ≡ false → HandsOver e
  from_elsewhere e h src dst = (words, signals)
    where
      words : final e ≡ cond (is_at u (edge_at g e)) (word_of e) (slice_index s.edges e)
      words = ap (word_after (word_between p g values s.edges became e)) (silent_target e h src dst) ∙ ap (word_after (slice_index s.edges e)) (silent_source e h src dst)
          ∙ sym (ap (λ b. cond (b || (end_at g Target e == u)) (word_of e) (slice_index s.edges e)) src ∙ ap (λ b. cond b (word_of e) (slice_index s.edges e)) dst)

      nothing : (side : Side) → received side None None ≡ None
      nothing Source = refl
      nothing Target = refl

      signals : (v : ℕ) (m : Option ℕ) → cond (is_at u (edge_at g e)) (cond (other_end g u e == v) (join p.combine m (signal_in (sent e))) m) m ≡ cond (is_at v (edge_at g e)) (join p.combine m (signal v e)) m
      signals v m = ap (λ b. cond (b || (end_at g Target e == u)) (cond (other_end g u e == v) (join p.combine m (signal_in (sent e))) m) m) src
          ∙ ap (λ b. cond b (cond (other_end g u e == v) (join p.combine m (signal_in (sent e))) m) m) dst
          ∙ sym (ap (λ (ab : Option (Scattered Acc)). cond (is_at v (edge_at g e)) (join p.combine m (received (side_at g v e) (signal_in ab) (signal_in (from_target p g values s.edges became e)))) m) (silent_source e h src dst)
          ∙ ap (λ (ab : Option (Scattered Acc)). cond (is_at v (edge_at g e)) (join p.combine m (received (side_at g v e) None (signal_in ab))) m) (silent_target e h src dst)
          ∙ ap (λ x. cond (is_at v (edge_at g e)) (join p.combine m x) m) (nothing (side_at g v e))
          ∙ ap (λ x. cond (is_at v (edge_at g e)) x m) (join_none p.combine m) ∙ either (is_at v (edge_at g e)) m)

  pub hands_over : (e : ℕ) → e < length g.edges → HandsOver e
  hands_over e h = by_ends (end_at g Source e == u) (end_at g Target e == u) refl refl
    where
      by_ends : (a b : Bool) → (end_at g Source e == u) ≡ a → (end_at g Target e == u) ≡ b → HandsOver e
      by_ends true b src dst = from_its_source e h src
      by_ends false true src dst = from_its_target e h src dst
      by_ends false false src dst = from_elsewhere e h src dst

  abbrev sents : List Sent
  sents = sents_around p g s.values s.edges u applied

  abbrev news : ℕ → Bool
  news = tells p g s.values s.edges u applied

  -- what says nothing leaves the word, and signals nobody
  no_news : (e : ℕ) → news e ≡ false → (word_of e ≡ slice_index s.edges e) × (signal_in (sent e) ≡ None)
  no_news e none = by_parts (word_of e == slice_index s.edges e) (signal_in (sent e)) refl none
    where
      by_parts : (b : Bool) (o : Option ℕ) → (word_of e == slice_index s.edges e) ≡ b → (not b || is_some o) ≡ false
          → (word_of e ≡ slice_index s.edges e) × (o ≡ None)
      by_parts true None same none = (eqb-true _ _ same, refl)
      by_parts true (Some m) same none = absurd (true≢false none)
      by_parts false o same none = absurd (true≢false none)

  folded : {B : Type 0} (f : B → Sent → B) (b : B) → fold f b sents
      ≡ fold (λ b e. f b (sent_over p g s.values s.edges u applied e)) b (filter (λ e. is_at u (edge_at g e) && news e) (edge_numbers g))
  folded f b = fold-map f (sent_over p g s.values s.edges u applied) b (filter news (edges_at g u))
      ∙ ap (fold (λ b e. f b (sent_over p g s.values s.edges u applied e)) b) (filter_twice news (λ e. is_at u (edge_at g e)) (edge_numbers g))

  -- the words after what was sent are those of the execution
  pub words_sent : (e : ℕ) → e < length g.edges → word_with e (slice_index s.edges e) sents ≡ final e
  words_sent e h = folded (λ w (x : Sent). cond (x.edge == e) x.word w) (slice_index s.edges e)
      ∙ written word_of (λ x. is_at u (edge_at g x) && news x) e (length g.edges) (slice_index s.edges e)
      ∙ ap (λ b. cond b (cond (is_at u (edge_at g e) && news e) (word_of e) (slice_index s.edges e)) (slice_index s.edges e)) (lt-ltb e (length g.edges) h)
      ∙ by_news (news e) refl (is_at u (edge_at g e)) ∙ sym (hands_over e h).0
    where
      by_news : (b : Bool) → news e ≡ b → (at : Bool) → cond (at && b) (word_of e) (slice_index s.edges e) ≡ cond at (word_of e) (slice_index s.edges e)
      by_news true is true = refl
      by_news true is false = refl
      by_news false is true = sym (no_news e is).0
      by_news false is false = refl

  pub messages_sent : (v : ℕ) (m : Option ℕ) → message_with p v m sents ≡ with_signals p g values s.edges became v m (edges_at g v)
  messages_sent v m = folded (λ m (x : Sent). cond (x.to == v) (join p.combine m x.signal) m) m
      ∙ same_folds (λ m x. cond (other_end g u x == v) (join p.combine m (signal_in (sent x))) m) (λ m x. join p.combine m (signal v x)) (λ x. is_at u (edge_at g x) && news x) (λ x. is_at v (edge_at g x)) (length g.edges) m
      (λ m x h. by_news x m (news x) refl (is_at u (edge_at g x)) ∙ (hands_over x h).1 v m)
    where
      by_news : (x : ℕ) (m : Option ℕ) (b : Bool) → news x ≡ b → (at : Bool) → cond (at && b) (cond (other_end g u x == v) (join p.combine m (signal_in (sent x))) m) m
          ≡ cond at (cond (other_end g u x == v) (join p.combine m (signal_in (sent x))) m) m
      by_news x m true is true = refl
      by_news x m true is false = refl
      by_news x m false is true = sym (ap (λ o. cond (other_end g u x == v) (join p.combine m o) m) (no_news x is).1
          ∙ ap (λ o. cond (other_end g u x == v) o m) (join_none p.combine m) ∙ either (other_end g u x == v) m)
      by_news x m false is false = refl

  module _ (fit : IsFit p g s) where
    pub values_set : slice_set s.values u applied.datum ≡ values
    values_set = fill_by_all (λ v. datum_after (datum_in s.values v) (became_at became v)) _ (length g.ids) (one 0) (length-set s.values u applied.datum ∙ fit.values.count) (λ v h. at (v == u) v h refl)
      where
        at : (b : Bool) (v : ℕ) → v < length g.ids → (v == u) ≡ b → datum_in (slice_set s.values u applied.datum) v ≡ datum_after (datum_in s.values v) (became_at became v)
        at true v h e = ap (datum_in (slice_set s.values u applied.datum)) (eqb-true v u e) ∙ get_or-set_same s.values u applied.datum (one 0) (omega (arith, fit.values.count))
            ∙ ap (datum_after (datum_in s.values v)) (sym became_here ∙ ap (became_at became) (sym (eqb-true v u e)))
        at false v h e = get_or-set_other s.values u v applied.datum (one 0) (λ d. true≢false (sym (eq-eqb v u d) ∙ e)) ∙ ap (datum_after (datum_in s.values v)) (sym (became_elsewhere v h e))

    pub messages_set : slice_set s.messages u applied.again ≡ messages_after p g s.messages became
    messages_set = fill_by_all (λ v. message_after (message_in s.messages v) (became_at became v)) _ (length g.ids) None (length-set s.messages u applied.again ∙ fit.messages.count) (λ v h. at (v == u) v h refl)
      where
        at : (b : Bool) (v : ℕ) → v < length g.ids → (v == u) ≡ b → message_in (slice_set s.messages u applied.again) v ≡ message_after (message_in s.messages v) (became_at became v)
        at true v h e = ap (message_in (slice_set s.messages u applied.again)) (eqb-true v u e) ∙ get_or-set_same s.messages u applied.again None (omega (arith, fit.messages.count))
            ∙ ap (message_after (message_in s.messages v)) (sym became_here ∙ ap (became_at became) (sym (eqb-true v u e)))
        at false v h e = get_or-set_other s.messages u v applied.again None (λ d. true≢false (sym (eq-eqb v u d) ∙ e)) ∙ ap (message_after (message_in s.messages v)) (sym (became_elsewhere v h e))

    -- an execution from what it wrote
    pub execution_is : (new_values : List Datum) (new_words : List ℕ) (new_messages : List (Option ℕ)) → length new_words ≡ length g.edges → length new_messages ≡ length g.ids
        → new_values ≡ slice_set s.values u applied.datum
        → ((e : ℕ) → e < length g.edges → slice_index new_words e ≡ word_with e (slice_index s.edges e) sents)
        → ((v : ℕ) → v < length g.ids → message_in new_messages v ≡ message_with p v (message_in (slice_set s.messages u applied.again) v) sents)
        → ◌≡◌ {A = Configuration} record { values = new_values; edges = new_words; messages = new_messages } (execution p g s u)
    unfolding execution
    execution_is new_values new_words new_messages few many vs ws ms =
        ap (λ (x : List Datum). whole x new_words new_messages) (vs ∙ values_set)
        ∙ ap (λ (x : List ℕ). whole values x new_messages) (fill_by_all final new_words (length g.edges) 0 few (λ e h. ws e h ∙ words_sent e h))
        ∙ ap (λ (x : List (Option ℕ)). whole values (map final (edge_numbers g)) x) (fill_by_all (λ v. with_signals p g values s.edges became v (message_in (messages_after p g s.messages became) v) (edges_at g v)) new_messages (length g.ids) None many
        (λ v h. ms v h ∙ messages_sent v _ ∙ ap (λ (before : List (Option ℕ)). with_signals p g values s.edges became v (message_in before v) (edges_at g v)) messages_set))
      where
        whole : List Datum → List ℕ → List (Option ℕ) → Configuration
        whole a b c = record { values = a; edges = b; messages = c }
