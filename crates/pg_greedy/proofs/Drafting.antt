-- One more edge is written down where it was sent.
use Rattle.std.proofs.Common.{◌≡◌, ℕ, ◌+◌, ◌*◌, ◌%◌, ◌<◌, ◌≤◌, List, length, get_or, set, replicate, refl, sym, subst, ◌∙◌, ap, arith, ⊎_elim}
use Rattle.std.specs.List.{range_with_len}
use Rattle.std.proofs.lemmas.Bool.{cases_eq}
use Rattle.std.proofs.lemmas.List.{get_or-set_same, get_or-set_other, length-replicate, get_or-replicate}
use Rattle.std.proofs.lemmas.List.FromFn.{fill_by_all}
use Rattle.pg_graph.specs.Multigraph.{Multigraph, edge_at}
use Rattle.pg_greedy.specs.Greedy.{Table, HasRoom, greedy, with_edge}
use Rattle.pg_greedy.specs.Loaders.{Placing, seen, first_of, table_after, table_at}
use Rattle.pg_greedy.specs.Drafts.{IsDraft, StandsAs}
use Rattle.pg_greedy.proofs.Tables.{table_after_of, table_after_more, has_room, IsTableOf}
use Rattle.pg_greedy.proofs.Turns.{next_mod, seen_next, seen_few, seen_start}
use Rattle.pg_greedy.proofs.Placings.{IsSent}

module _ (g : Multigraph) (workers loaders : ℕ) (start : ℕ → ℕ) (all : Placing) (is : IsSent g workers loaders start all) (e : ℕ) (h : e < length g.edges) (table : Table)
    (at : table ≡ table_at g workers loaders (start e) all.places e) where
  -- what the table knows of the graph
  pub of_graph : IsTableOf g workers (first_of workers loaders e) (length (seen loaders (start e) e)) table
  of_graph = let P : Table → Type 0 = λ t. IsTableOf g workers (first_of workers loaders e) (length (seen loaders (start e) e)) t in
      subst P (sym at) (table_after_of g workers (first_of workers loaders e) all.places (seen loaders (start e) e))

  pub edge_same : edge_at table.graph e ≡ edge_at g e
  edge_same = ap (λ (g : Multigraph). edge_at g e) of_graph.graph

  pub room_for : start e ≤ e → HasRoom table
  room_for begins = has_room g workers (first_of workers loaders e) (length (seen loaders (start e) e)) table of_graph (omega (arith, seen_few loaders (start e) e begins))

  pub place_is : (greedy table (edge_at table.graph e)).worker ≡ get_or all.places e 0
  place_is = ap (λ edge. (greedy table edge).worker) edge_same ∙ ap (λ t. (greedy t (edge_at g e)).worker) at ∙ sym (is.place e h)

  pub case_is : (greedy table (edge_at table.graph e)).case ≡ get_or all.cases e 0
  case_is = ap (λ edge. (greedy table edge).case) edge_same ∙ ap (λ t. (greedy t (edge_at g e)).case) at ∙ sym (is.case e h)

  -- the table when the loader comes to its next edge
  pub next_table : 0 < loaders → start e ≤ e → with_edge table (edge_at table.graph e) (greedy table (edge_at table.graph e)).worker ≡ table_at g workers loaders (start e) all.places (e + loaders)
  next_table some begins = ap (λ w. with_edge table (edge_at table.graph e) w) place_is ∙ ap (λ edge. with_edge table edge (get_or all.places e 0)) edge_same ∙ ap (λ t. with_edge t (edge_at g e) (get_or all.places e 0)) at
      ∙ sym (table_after_more g workers (first_of workers loaders e) all.places (seen loaders (start e) e) e)
      ∙ ap (λ edges. table_after g workers (first_of workers loaders e) all.places edges) (sym (seen_next loaders (start e) e some begins))
      ∙ ap (λ r. table_after g workers (r % workers) all.places (seen loaders (start e) (e + loaders))) (sym (next_mod loaders e some))

  module _ (places cases : List ℕ) (draft : IsDraft (length g.edges) workers places cases) where
    new_places : List ℕ
    new_places = set places e (greedy table (edge_at table.graph e)).worker

    pub stands_here : StandsAs all (set places e (greedy table (edge_at table.graph e)).worker) (set cases e (greedy table (edge_at table.graph e)).case) e
    stands_here = record {
      place = get_or-set_same places e _ 0 (omega (arith, draft.places_count)) ∙ place_is;
      case = get_or-set_same cases e _ 0 (omega (arith, draft.cases_count)) ∙ case_is;
    }

    pub stands_still : (x : ℕ) → StandsAs all places cases x → StandsAs all (set places e (greedy table (edge_at table.graph e)).worker) (set cases e (greedy table (edge_at table.graph e)).case) x
    stands_still x old = let P : ℕ → Type 0 = λ x. StandsAs all (set places e (greedy table (edge_at table.graph e)).worker) (set cases e (greedy table (edge_at table.graph e)).case) x in
        ⊎_elim (λ same. subst P (sym same) stands_here) (λ other. record {
          place = get_or-set_other places e x _ 0 other ∙ old.place;
          case = get_or-set_other cases e x _ 0 other ∙ old.case;
        }) (cases_eq x e)

-- the table of a loader at its first edge from a start on
pub first_table : (g : Multigraph) (workers loaders q start l e : ℕ) (places : List ℕ) → l < loaders → start ≡ q * loaders → e ≡ start + l
    → table_at g workers loaders start places e ≡ table_after g workers (l % workers) places (range_with_len 0 start)
first_table g workers loaders q start l e places h is at = let first = seen_start loaders q start l e h is at in
    ap (λ r. table_after g workers (r % workers) places (seen loaders start e)) first.1 ∙ ap (table_after g workers (l % workers) places) first.0

-- a draft in which all edges stand is the placing
module _ (count workers : ℕ) (all : Placing) (places cases : List ℕ) (draft : IsDraft count workers places cases) (places_count : length all.places ≡ count) (cases_count : length all.cases ≡ count)
    (each : (e : ℕ) → e < count → StandsAs all places cases e) where
  pub places_all : places ≡ all.places
  places_all = fill_by_all (λ e. get_or all.places e 0) places count 0 draft.places_count (λ e h. (each e h).place) ∙ sym (fill_by_all (λ e. get_or all.places e 0) all.places count 0 places_count (λ e h. refl))

  pub cases_all : cases ≡ all.cases
  cases_all = fill_by_all (λ e. get_or all.cases e 0) cases count 0 draft.cases_count (λ e h. (each e h).case) ∙ sym (fill_by_all (λ e. get_or all.cases e 0) all.cases count 0 cases_count (λ e h. refl))

-- a draft before any edge is placed
pub blank_draft : (count n workers : ℕ) (places cases : List ℕ) → 1 ≤ workers → n ≡ count → places ≡ replicate n 0 → cases ≡ replicate n 0 → IsDraft count workers places cases
blank_draft count n workers places cases some same places_are cases_are = record {
  places_count = ap length places_are ∙ length-replicate {A = ℕ} n 0 ∙ same;
  cases_count = ap length cases_are ∙ length-replicate {A = ℕ} n 0 ∙ same;
  within = λ e h. let zero : get_or places e 0 ≡ 0 = ap (λ xs. get_or xs e 0) places_are ∙ get_or-replicate {A = ℕ} n e 0 0 (omega arith) in omega arith;
}
