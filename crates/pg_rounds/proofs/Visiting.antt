-- Each edge has one visitor, so visits in any order of the vertices do what a round does.
use Rattle.std.proofs.Common.{◌≡◌, ℕ, ◌<◌, Bool, true, false, cond, ◌&&◌, Option, Some, None, List, [], ◌∷◌, length, set, refl, sym, ◌∙◌, ap, arith}
use Rattle.std.specs.Prelude.{filter, map, is_some, slice_index, ◌==◌}
use Rattle.std.specs.List.{list_any}
use Rattle.std.proofs.lemmas.Bool.{both_ways, or_left, or_right, cond-true, cond-false, eq-eqb, ne_eqb, eqb-true, eqb-false}
use Rattle.std.proofs.lemmas.List.{length-set}
use Rattle.std.proofs.lemmas.List.FromFn.{fill_by_all}
use Rattle.pg_graph.specs.declared.edge.Side.{Side}
use Rattle.pg_graph.specs.declared.edge.Side.TheVariants.{Source, Target}
use Rattle.pg_graph.specs.Multigraph.{Multigraph, IsMultigraph, edge_at, edges_at, end_at, side_at, is_at, vertices, edge_numbers}
use Rattle.pg_graph.proofs.Stored.{edges_at_below}
use Rattle.pg_law.specs.declared.values.Datum.{Datum}
use Rattle.pg_law.specs.declared.values.Applied.{Applied}
use Rattle.pg_law.specs.Program.{Program}
use Rattle.pg_law.specs.Laws.{IsLawful, IsOptional}
use Rattle.pg_law.specs.Monoid.{part}
use Rattle.pg_law.specs.Configuration.{AreData, AreWords, AreMessages, message_in}
use Rattle.pg_law.specs.Round.{became_at, AreApplied, received, join, signal_to, final_word, with_signals}
use Rattle.pg_law.proofs.Fitting.{signal_to_own}
use Rattle.pg_law.proofs.Parts.{signals_in_turn}
use Rattle.pg_law.specs.declared.edge_words.Change.{Change}
use Rattle.pg_law.specs.EdgeWords.{written}
use Rattle.pg_rounds.specs.Visits.{executes_in, visitor, visits_of, visits, IsVisited}
use Rattle.pg_law.proofs.Lists.{every, fold-flat_map, filter-flat_map, flat_map_agree, list_any-flat_map, list_any_agree, fold_skips, fold_idle, filter_regroup, stands_in_filter, stands_below}

nothing_in : {A : Type 0} (o : Option A) → is_some o ≡ false → o ≡ None
nothing_in None e = refl
nothing_in (Some a) e = absurd (both_ways true e refl)

join_nothing : (combine : ℕ → ℕ → ℕ) (m : Option ℕ) → join combine m None ≡ m
join_nothing combine None = refl
join_nothing combine (Some m) = refl

received_nothing : (side : Side) → received side None None ≡ None
received_nothing Source = refl
received_nothing Target = refl

-- changes leave as many words
pub length-written : (words : List ℕ) (changes : List Change) → length (written words changes) ≡ length words
length-written words [] = refl
length-written words (change ∷ changes) = length-written (set words change.edge change.word) changes ∙ length-set words change.edge change.word

module _ {Carry : Type 0} (g : Multigraph) (became : List (Option (Applied Carry))) where
  -- a visitor stands at its edge
  pub visitor_at : (v e : ℕ) → (visitor g became e == v) ≡ true → is_at v (edge_at g e) ≡ true
  visitor_at v e = by_source (executes_in became (end_at g Source e))
    where
      by_source : (b : Bool) → (cond b (end_at g Source e) (end_at g Target e) == v) ≡ true → is_at v (edge_at g e) ≡ true
      by_source true h = or_left _ _ h
      by_source false h = or_right _ _ h

  pub visitor_within : IsMultigraph g → (e : ℕ) → e < length g.edges → visitor g became e < length g.ids
  visitor_within graph e h = by_source (executes_in became (end_at g Source e))
    where
      by_source : (b : Bool) → cond b (end_at g Source e) (end_at g Target e) < length g.ids
      by_source true = (graph.edge e h).src
      by_source false = (graph.edge e h).dst

  -- where the visitor doesn't execute, neither end does
  idle_ends : (e : ℕ) → executes_in became (visitor g became e) ≡ false → (became_at became (end_at g Source e) ≡ None) × (became_at became (end_at g Target e) ≡ None)
  idle_ends e idle = by_source (executes_in became (end_at g Source e)) refl
    where
      by_source : (b : Bool) → executes_in became (end_at g Source e) ≡ b → (became_at became (end_at g Source e) ≡ None) × (became_at became (end_at g Target e) ≡ None)
      by_source true is = absurd (both_ways (executes_in became (end_at g Source e)) (sym (ap (executes_in became) (cond-true (executes_in became (end_at g Source e)) (end_at g Source e) (end_at g Target e) is)) ∙ idle) is)
      by_source false is = (nothing_in _ is, nothing_in _ (sym (ap (executes_in became) (cond-false (executes_in became (end_at g Source e)) (end_at g Source e) (end_at g Target e) is)) ∙ idle))

  -- the edges that a vertex visits and another receives from
  pub visits_at : (u v : ℕ) → filter (λ e. is_at u (edge_at g e)) (visits_of g became v) ≡ part (visitor g became) v (edges_at g u)
  visits_at u v = filter_regroup (λ e. is_at u (edge_at g e)) (λ e. visitor g became e == v) (λ e. is_at v (edge_at g e)) (visitor_at v) (edge_numbers g)

  -- an edge stands among the visits of its visitor, and of no other vertex
  stands_of : (e v : ℕ) → e < length g.edges → list_any (λ k. k == e) (visits_of g became v) ≡ (v == visitor g became e)
  stands_of e v h = stands_in_filter (λ k. visitor g became k == v) e (edges_at g v)
      ∙ ap (λ b. (visitor g became e == v) && b) (stands_in_filter (λ k. is_at v (edge_at g k)) e (edge_numbers g) ∙ ap (λ b. is_at v (edge_at g e) && b) (stands_below e (length g.edges) h))
      ∙ by_visitor (visitor g became e == v) refl
    where
      by_visitor : (b : Bool) → (visitor g became e == v) ≡ b → ((visitor g became e == v) && (is_at v (edge_at g e) && true)) ≡ (v == visitor g became e)
      by_visitor true is = rw (is, visitor_at v e is) (sym (eq-eqb v (visitor g became e) (sym (eqb-true _ _ is))))
      by_visitor false is = rw is (sym (ne_eqb v (visitor g became e) (λ same. eqb-false _ _ is (sym same))))

  -- an edge is visited where its visitor executes
  pub stands_in_visits : IsMultigraph g → (e : ℕ) → e < length g.edges → executes_in became (visitor g became e) ≡ true → list_any (λ k. k == e) (visits g became (filter (executes_in became) (vertices g))) ≡ true
  stands_in_visits graph e h runs = list_any-flat_map (λ k. k == e) (visits_of g became) (filter (executes_in became) (vertices g))
      ∙ list_any_agree (λ v. list_any (λ k. k == e) (visits_of g became v)) (λ v. v == visitor g became e) (λ v. stands_of e v h) (filter (executes_in became) (vertices g))
      ∙ stands_in_filter (executes_in became) (visitor g became e) (vertices g)
      ∙ rw (runs, stands_below (visitor g became e) (length g.ids) (visitor_within graph e h)) refl

module _ {Acc Carry : Type 0} (p : Program Acc Carry) (g : Multigraph) (values : List Datum) (words : List ℕ) (became : List (Option (Applied Carry))) where
  -- an edge that no executing vertex touches keeps its word and sends nothing
  pub untouched_word : (e : ℕ) → executes_in became (visitor g became e) ≡ false → final_word p g values words became e ≡ slice_index words e
  untouched_word e idle = let none = idle_ends g became e idle in rw (none.0, none.1) refl

  pub untouched_signal : (u e : ℕ) → executes_in became (visitor g became e) ≡ false → signal_to p g values words became u e ≡ None
  untouched_signal u e idle = let none = idle_ends g became e idle in rw (none.0, none.1) (received_nothing (side_at g u e))

  -- the visits of a vertex that doesn't execute send nothing
  idle_visits : (u v : ℕ) (m : Option ℕ) (edges : List ℕ) → executes_in became v ≡ false → with_signals p g values words became u m (part (visitor g became) v edges) ≡ m
  idle_visits u v m edges idle = fold_idle (λ m e. join p.combine m (signal_to p g values words became u e)) (λ e. visitor g became e == v)
      (λ m e is. ap (join p.combine m) (untouched_signal u e (ap (executes_in became) (eqb-true _ _ is) ∙ idle)) ∙ join_nothing p.combine m) m edges

  module _ (law : IsLawful p) (graph : IsMultigraph g) (own : AreData p g values) (ws : AreWords p g words) (applied : AreApplied p g became) where
    -- the visits of all that execute send each vertex what all edges at it send
    pub received_all : (u : ℕ) (m : Option ℕ) → IsOptional p.IsMessage m
        → with_signals p g values words became u m (filter (λ e. is_at u (edge_at g e)) (visits g became (filter (executes_in became) (vertices g)))) ≡ with_signals p g values words became u m (edges_at g u)
    received_all u m hm = let runs = filter (executes_in became) (vertices g) in
        let mine = λ (v : ℕ). part (visitor g became) v (edges_at g u) in
        let inside = λ (e : ℕ). e < length g.edges in
        let below = λ (e : ℕ). visitor g became e < length g.ids in
        let sent = λ (e : ℕ). IsOptional p.IsMessage (signal_to p g values words became u e) in
        ap (with_signals p g values words became u m) (filter-flat_map (λ e. is_at u (edge_at g e)) (visits_of g became) runs ∙ flat_map_agree (λ v. filter (λ e. is_at u (edge_at g e)) (visits_of g became v)) mine (visits_at g became u) runs)
        ∙ fold-flat_map (λ m e. join p.combine m (signal_to p g values words became u e)) mine m runs
        ∙ fold_skips (λ m v. with_signals p g values words became u m (mine v)) (executes_in became) (λ m v idle. idle_visits u v m (edges_at g u) idle) m (vertices g)
        ∙ signals_in_turn p law g values words became u m (visitor g became) (length g.ids) (edges_at g u) hm
        (every inside below (λ e h. visitor_within g became graph e h) (edges_at g u) (edges_at_below g u))
        (every inside sent (λ e h. signal_to_own p g law graph values words became own ws applied u e h) (edges_at g u) (edges_at_below g u))

    module _ (before after : List (Option ℕ)) (changes : List Change) (ms : AreMessages p g before) (visited : IsVisited p g values words became (visits g became (filter (executes_in became) (vertices g))) before after [] changes) where
      pub messages_all : length after ≡ length g.ids → after ≡ map (λ v. with_signals p g values words became v (message_in before v) (edges_at g v)) (vertices g)
      messages_all count = fill_by_all (λ v. with_signals p g values words became v (message_in before v) (edges_at g v)) after (length g.ids) None count (λ u h. visited.received u h ∙ received_all u (message_in before u) (ms.each u h))

      word_final : (e : ℕ) → e < length g.edges → slice_index (written words changes) e ≡ final_word p g values words became e
      word_final e h = let here : e < length words = omega (arith, ws.count) in
          visited.settled [] (λ k inside. refl) e here ∙ by_visitor (executes_in became (visitor g became e)) refl
        where
          by_visitor : (b : Bool) → executes_in became (visitor g became e) ≡ b → cond (list_any (λ k. k == e) (visits g became (filter (executes_in became) (vertices g)))) (final_word p g values words became e) (slice_index words e) ≡ final_word p g values words became e
          by_visitor true is = cond-true _ _ _ (stands_in_visits g became graph e h is)
          by_visitor false is = rw (untouched_word e is) (same (list_any (λ k. k == e) (visits g became (filter (executes_in became) (vertices g)))) (slice_index words e))
            where
              same : (b : Bool) (w : ℕ) → cond b w w ≡ w
              same true w = refl
              same false w = refl

      pub words_all : written words changes ≡ map (final_word p g values words became) (edge_numbers g)
      words_all = fill_by_all (final_word p g values words became) (written words changes) (length g.edges) 0 (length-written words changes ∙ ws.count) word_final
