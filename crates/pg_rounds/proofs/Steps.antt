-- Visits one after another.
use Rattle.std.proofs.Common.{◌≡◌, ℕ, ◌+◌, ◌<◌, ◌≤◌, ◌⊎◌, Bool, true, false, cond, ◌||◌, Option, Some, None, List, [], ◌∷◌, ◌++◌, length, set, refl, inl, inr, sym, subst, ◌∙◌, ap, arith, append_assoc}
use Rattle.std.specs.Prelude.{filter, is_some, slice_index, ◌==◌}
use Rattle.std.specs.List.{list_any, range_with_len}
use Rattle.std.proofs.lemmas.Bool.{cases_lt, eqb-true, eqb-false}
use Rattle.std.proofs.lemmas.List.{get_or-set_same, get_or-set_other, get_or_past, append-nil}
use Rattle.std.proofs.lemmas.List.FromFn.{length-map-range_with_len, get_or-map-range_with_len}
use Rattle.std.proofs.lemmas.List.Sums.{fold-append, fold_push}
use Rattle.std.proofs.lemmas.List.Elements.{filter-append, filter_agree, All-push}
use Rattle.std.proofs.lemmas.List.Folds.{list_any-append}
use Rattle.pg_graph.specs.Multigraph.{Multigraph, IsMultigraph, vertices, edge_at, is_at, side_of}
use Rattle.pg_graph.proofs.Numbers.{filter_numbers_more}
use Rattle.pg_law.specs.declared.values.Datum.{Datum}
use Rattle.pg_law.specs.declared.values.Applied.{Applied}
use Rattle.pg_law.specs.Program.{Program}
use Rattle.pg_law.specs.Laws.{IsLawful, IsOptional}
use Rattle.pg_law.specs.Configuration.{Configuration, AreData, AreWords, AreMessages, message_in, is_signalled, signalled}
use Rattle.pg_law.specs.Round.{AreApplied, outcome, outcomes, apply_to, signal_in, signal_to, from_source, from_target, received, join, final_word, with_signals}
use Rattle.pg_law.proofs.Fitting.{join_own, signal_to_own}
use Rattle.pg_law.specs.declared.edge_words.Change.{Change}
use Rattle.pg_law.specs.EdgeWords.{written}
use Rattle.pg_rounds.specs.Visits.{executes_in, with_change, another_word, AreInside, AreWritten, IsVisited}
use Rattle.pg_rounds.proofs.Visiting.{length-written}

-- a vertex becomes something where it has a message
pub becomes_some : {Acc Carry : Type 0} (p : Program Acc Carry) (g : Multigraph) (s : Configuration) (u : ℕ) (message : Option ℕ) → is_some (apply_to p g s u message) ≡ is_some message
becomes_some p g s u None = refl
becomes_some p g s u (Some m) = refl

-- those that become something are the signalled vertices
pub signalled_run : {Acc Carry : Type 0} (p : Program Acc Carry) (g : Multigraph) (s : Configuration) → length s.messages ≡ length g.ids → signalled g s ≡ filter (executes_in (outcomes p g s (λ v. true))) (vertices g)
signalled_run p g s count = filter_agree (is_signalled s) (executes_in (outcomes p g s (λ v. true))) (λ v. by_order v (cases_lt v (length g.ids))) (vertices g)
  where
    by_order : (v : ℕ) → (v < length g.ids) ⊎ (length g.ids ≤ v) → is_signalled s v ≡ executes_in (outcomes p g s (λ v. true)) v
    by_order v (inl h) = sym (becomes_some p g s v (message_in s.messages v)) ∙ ap is_some (sym (get_or-map-range_with_len (outcome p g s (λ v. true)) 0 (length g.ids) v v None h (omega arith)))
    by_order v (inr h) = ap is_some (get_or_past s.messages v None (omega arith)) ∙ sym (ap is_some (get_or_past (outcomes p g s (λ v. true)) v None (omega (arith, length-map-range_with_len (outcome p g s (λ v. true)) 0 (length g.ids)))))

-- one more number that passes, or doesn't
pub passed_more : (p : ℕ → Bool) (n : ℕ) (b : Bool) (old new : List ℕ) → old ≡ filter p (range_with_len 0 n) → b ≡ p n → new ≡ cond b (old ++ n ∷ []) old → new ≡ filter p (range_with_len 0 (n + 1))
passed_more p n b old new was is now = now ∙ rw (was, is) (chosen (p n)) ∙ sym (filter_numbers_more p n)
  where
    chosen : (t : Bool) → cond t (filter p (range_with_len 0 n) ++ n ∷ []) (filter p (range_with_len 0 n)) ≡ filter p (range_with_len 0 n) ++ cond t (n ∷ []) []
    chosen true = refl
    chosen false = sym (append-nil _)

module _ {Acc Carry : Type 0} (p : Program Acc Carry) (g : Multigraph) (values : List Datum) (words : List ℕ) (became : List (Option (Applied Carry))) where
  pub visited_none : (messages : List (Option ℕ)) (changes : List Change) → IsVisited p g values words became [] messages messages changes changes
  visited_none messages changes = record {
    received = λ u h. refl;
    settled = λ done w. let Q = λ (es : List ℕ). AreWritten p g values words became changes es in subst Q (sym (append-nil done)) w;
    inside = λ within. within;
  }

  -- first these edges, and then those
  pub visited_then : (xs ys : List ℕ) (m0 m1 m2 : List (Option ℕ)) (c0 c1 c2 : List Change) → IsVisited p g values words became xs m0 m1 c0 c1 → IsVisited p g values words became ys m1 m2 c1 c2 → IsVisited p g values words became (xs ++ ys) m0 m2 c0 c2
  visited_then xs ys m0 m1 m2 c0 c1 c2 first second = record {
    received = λ u h. second.received u h
        ∙ ap (λ m. with_signals p g values words became u m (filter (λ e. is_at u (edge_at g e)) ys)) (first.received u h)
        ∙ sym (ap (with_signals p g values words became u (message_in m0 u)) (filter-append (λ e. is_at u (edge_at g e)) xs ys)
        ∙ fold-append (λ m e. join p.combine m (signal_to p g values words became u e)) (message_in m0 u) (filter (λ e. is_at u (edge_at g e)) xs) (filter (λ e. is_at u (edge_at g e)) ys));
    settled = λ done w. let Q = λ (es : List ℕ). AreWritten p g values words became c2 es in subst Q (append_assoc done xs ys) (second.settled (done ++ xs) (first.settled done w));
    inside = λ within. second.inside (first.inside within);
  }

  -- one more edge is settled, and its change is noted
  settled_more : (e : ℕ) (old : List Change) (done : List ℕ) → e < length words → AreWritten p g values words became old done → AreWritten p g values words became (with_change old e (slice_index words e) (final_word p g values words became e)) (done ++ e ∷ [])
  settled_more e old done here were k within = chosen (list_any (λ x. x == k) done) (e == k) (slice_index words e == final_word p g values words became e) refl refl refl (were k within)
    where
      ws : List ℕ
      ws = written words old

      final : ℕ
      final = final_word p g values words became e

      noted : List Change
      noted = old ++ another_word e final ∷ []

      inside : e < length ws
      inside = omega (arith, length-written words old)

      now : written words noted ≡ set ws e final
      now = fold_push (λ w change. set w change.edge change.word) words old (another_word e final)

      elsewhere : (e ≡ k → ⊥) → slice_index (written words noted) k ≡ slice_index ws k
      elsewhere apart = ap (λ w. slice_index w k) now ∙ get_or-set_other ws e k final 0 (λ same. apart (sym same))

      right_here : e ≡ k → slice_index (written words noted) k ≡ final_word p g values words became k
      right_here same = ap (λ w. slice_index w k) now ∙ ap (slice_index (set ws e final)) (sym same) ∙ get_or-set_same ws e final 0 inside ∙ ap (final_word p g values words became) same

      stands : (a b : Bool) → list_any (λ x. x == k) done ≡ a → (e == k) ≡ b → list_any (λ x. x == k) (done ++ e ∷ []) ≡ (a || (b || false))
      stands a b ea eb = list_any-append (λ x. x == k) done (e ∷ []) ∙ rw (ea, eb) refl

      goal : Bool → Bool → Bool → Type 0
      goal a b c = slice_index (written words (cond c old noted)) k ≡ cond (a || (b || false)) (final_word p g values words became k) (slice_index words k)

      chosen : (a b c : Bool) → list_any (λ x. x == k) done ≡ a → (e == k) ≡ b → (slice_index words e == final) ≡ c
          → slice_index ws k ≡ cond (list_any (λ x. x == k) done) (final_word p g values words became k) (slice_index words k)
          → slice_index (written words (with_change old e (slice_index words e) final)) k ≡ cond (list_any (λ x. x == k) (done ++ e ∷ [])) (final_word p g values words became k) (slice_index words k)
      chosen a b c ea eb ec was = rw (ec, stands a b ea eb) (by_case a b c ea eb ec (rw ea at was))
        where
          by_case : (a b c : Bool) → list_any (λ x. x == k) done ≡ a → (e == k) ≡ b → (slice_index words e == final) ≡ c → slice_index ws k ≡ cond a (final_word p g values words became k) (slice_index words k) → goal a b c
          by_case true false true ea eb ec was = was
          by_case false false true ea eb ec was = was
          by_case true false false ea eb ec was = elsewhere (eqb-false e k eb) ∙ was
          by_case false false false ea eb ec was = elsewhere (eqb-false e k eb) ∙ was
          by_case true true false ea eb ec was = right_here (eqb-true e k eb)
          by_case false true false ea eb ec was = right_here (eqb-true e k eb)
          by_case true true true ea eb ec was = was
          by_case false true true ea eb ec was = was ∙ ap (slice_index words) (sym (eqb-true e k eb)) ∙ eqb-true _ _ ec ∙ ap (final_word p g values words became) (eqb-true e k eb)

  -- a visit to one edge
  pub visited_edge : (e : ℕ) (before after : List (Option ℕ)) (old new : List Change) → e < length words → e < length g.edges
      → ((u : ℕ) → u < length g.ids → message_in after u ≡ cond (is_at u (edge_at g e))
      (join p.combine (message_in before u) (received (side_of u (edge_at g e)) (signal_in (from_source p g values words became e)) (signal_in (from_target p g values words became e)))) (message_in before u))
      → new ≡ with_change old e (slice_index words e) (final_word p g values words became e)
      → IsVisited p g values words became (e ∷ []) before after old new
  visited_edge e before after old new here in_graph sent noted = record {
    received = λ u h. sent u h ∙ by_end u (is_at u (edge_at g e));
    settled = λ done w. let Q = λ (cs : List Change). AreWritten p g values words became cs (done ++ e ∷ []) in subst Q (sym noted) (settled_more e old done here w);
    inside = λ within. let Q = λ (cs : List Change). AreInside g cs in subst Q (sym noted) (by_word (slice_index words e == final_word p g values words became e) within);
  }
    where
      by_end : (u : ℕ) (b : Bool) → cond b (join p.combine (message_in before u) (signal_to p g values words became u e)) (message_in before u)
          ≡ with_signals p g values words became u (message_in before u) (cond b (e ∷ []) [])
      by_end u true = refl
      by_end u false = refl

      by_word : (b : Bool) → AreInside g old → AreInside g (cond b old (old ++ another_word e (final_word p g values words became e) ∷ []))
      by_word true within = within
      by_word false within = All-push (λ (change : Change). change.edge < length g.edges) old (another_word e (final_word p g values words became e)) within in_graph

  -- what the ends of an edge have received is the program's own
  pub received_own : (law : IsLawful p) (graph : IsMultigraph g) (own : AreData p g values) (ws : AreWords p g words) (applied : AreApplied p g became) (e : ℕ) (before after : List (Option ℕ)) → e < length g.edges → AreMessages p g before → length after ≡ length before
      → ((u : ℕ) → u < length g.ids → message_in after u ≡ cond (is_at u (edge_at g e))
      (join p.combine (message_in before u) (received (side_of u (edge_at g e)) (signal_in (from_source p g values words became e)) (signal_in (from_target p g values words became e)))) (message_in before u))
      → AreMessages p g after
  received_own law graph own ws applied e before after here ms same sent = record {
    count = same ∙ ms.count;
    each = λ u h. rw (sent u h) (by_end u (is_at u (edge_at g e)) (ms.each u h));
  }
    where
      by_end : (u : ℕ) (b : Bool) → IsOptional p.IsMessage (message_in before u) → IsOptional p.IsMessage (cond b (join p.combine (message_in before u) (signal_to p g values words became u e)) (message_in before u))
      by_end u true m = join_own p g law graph (message_in before u) (signal_to p g values words became u e) m (signal_to_own p g law graph values words became own ws applied u e here)
      by_end u false m = m
