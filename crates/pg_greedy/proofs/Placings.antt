-- A placing, edge by edge: each edge stands where the table of its loader sends it.
use Rattle.std.proofs.Common.{◌≡◌, ℕ, zero, suc, ◌+◌, ◌<◌, ◌≤◌, List, [], ◌∷◌, ◌++◌, length, get_or, length-append, refl, sym, subst, ◌∙◌, ap, arith, add-one, ⊎_elim}
use Rattle.std.specs.Prelude.{fold}
use Rattle.std.specs.List.{range_with_len, AllByRecursion}
use Rattle.std.proofs.lemmas.Bool.{cases_lt}
use Rattle.std.proofs.lemmas.List.{get_or_append_left, get_or_push}
use Rattle.std.proofs.lemmas.List.Sums.{fold_push}
use Rattle.pg_graph.specs.Multigraph.{Multigraph, edge_at}
use Rattle.pg_graph.proofs.Numbers.{numbers_more}
use Rattle.pg_greedy.specs.declared.placed.Placed.{Placed}
use Rattle.pg_greedy.specs.Greedy.{greedy}
use Rattle.pg_greedy.specs.Loaders.{Placing, seen, first_of, table_at, with_next, placing}
use Rattle.pg_greedy.proofs.Tables.{table_after_agree}
use Rattle.pg_greedy.proofs.Turns.{seen_below}

-- where the table of its loader sends an edge
abbrev pub sent : Multigraph → (workers loaders : ℕ) → (ℕ → ℕ) → List ℕ → ℕ → Placed
sent g workers loaders start places e = greedy (table_at g workers loaders (start e) places e) (edge_at g e)

-- all edges stand where they are sent
pub record IsSent (g : Multigraph) (workers loaders : ℕ) (start : ℕ → ℕ) (all : Placing) : Type 0 where
  pub places_count : length all.places ≡ length g.edges
  pub cases_count : length all.cases ≡ length g.edges
  pub place : (e : ℕ) → e < length g.edges → get_or all.places e 0 ≡ (sent g workers loaders start all.places e).worker
  pub case : (e : ℕ) → e < length g.edges → get_or all.cases e 0 ≡ (sent g workers loaders start all.places e).case

module _ (g : Multigraph) (workers loaders : ℕ) (start : ℕ → ℕ) (begins : (e : ℕ) → start e ≤ e) where
  none_yet : Placing
  none_yet = record { places = []; cases = [] }

  -- the first so many edges
  first_edges : ℕ → Placing
  first_edges m = fold (with_next g workers loaders start) (record { places = []; cases = [] }) (range_with_len 0 m)

  placed_next : Placing → ℕ → Placed
  placed_next before e = sent g workers loaders start before.places e

  first_more : (m : ℕ) → first_edges (m + 1) ≡ with_next g workers loaders start (first_edges m) m
  unfolding first_edges
  first_more m = ap (fold (with_next g workers loaders start) (record { places = []; cases = [] })) (numbers_more m)
      ∙ fold_push (with_next g workers loaders start) (record { places = []; cases = [] }) (range_with_len 0 m) m

  places_more : (m : ℕ) → (first_edges (m + 1)).places ≡ (first_edges m).places ++ (sent g workers loaders start (first_edges m).places m).worker ∷ []
  unfolding with_next
  places_more m = ap (λ (p : Placing). p.places) (first_more m)

  cases_more : (m : ℕ) → (first_edges (m + 1)).cases ≡ (first_edges m).cases ++ (sent g workers loaders start (first_edges m).places m).case ∷ []
  unfolding with_next
  cases_more m = ap (λ (p : Placing). p.cases) (first_more m)

  places_length : (m : ℕ) → length (first_edges m).places ≡ m
  unfolding first_edges
  places_length zero = refl
  places_length (suc m) = let P : ℕ → Type 0 = λ n. length (first_edges n).places ≡ n in
      let next : P (m + 1) = ap length (places_more m) ∙ length-append (first_edges m).places _ ∙ ap (λ n. n + 1) (places_length m) in subst P (add-one m) next

  cases_length : (m : ℕ) → length (first_edges m).cases ≡ m
  unfolding first_edges
  cases_length zero = refl
  cases_length (suc m) = let P : ℕ → Type 0 = λ n. length (first_edges n).cases ≡ n in
      let next : P (m + 1) = ap length (cases_more m) ∙ length-append (first_edges m).cases _ ∙ ap (λ n. n + 1) (cases_length m) in subst P (add-one m) next

  -- a place that is given stays
  place_stays : (e m : ℕ) → e < m → get_or (first_edges m).places e 0 ≡ (sent g workers loaders start (first_edges e).places e).worker
  place_stays e zero h = absurd (omega arith)
  place_stays e (suc m) h = let P : ℕ → Type 0 = λ n. get_or (first_edges n).places e 0 ≡ (sent g workers loaders start (first_edges e).places e).worker in
      let w = (sent g workers loaders start (first_edges m).places m).worker in
      let before : e < m → P (m + 1) = λ l. ap (λ xs. get_or xs e 0) (places_more m) ∙ get_or_append_left (first_edges m).places (w ∷ []) 0 e (omega (arith, places_length m)) ∙ place_stays e m l in
      let last : m ≤ e → P (m + 1) = λ l. let same : m ≡ e = omega arith in
      let Q : ℕ → Type 0 = λ k. get_or (first_edges (m + 1)).places e 0 ≡ (sent g workers loaders start (first_edges k).places k).worker in
      subst Q same (ap (λ xs. get_or xs e 0) (places_more m) ∙ get_or_push (first_edges m).places w 0 e (places_length m ∙ same)) in
      subst P (add-one m) (⊎_elim before last (cases_lt e m))

  case_stays : (e m : ℕ) → e < m → get_or (first_edges m).cases e 0 ≡ (sent g workers loaders start (first_edges e).places e).case
  case_stays e zero h = absurd (omega arith)
  case_stays e (suc m) h = let P : ℕ → Type 0 = λ n. get_or (first_edges n).cases e 0 ≡ (sent g workers loaders start (first_edges e).places e).case in
      let w = (sent g workers loaders start (first_edges m).places m).case in
      let before : e < m → P (m + 1) = λ l. ap (λ xs. get_or xs e 0) (cases_more m) ∙ get_or_append_left (first_edges m).cases (w ∷ []) 0 e (omega (arith, cases_length m)) ∙ case_stays e m l in
      let last : m ≤ e → P (m + 1) = λ l. let same : m ≡ e = omega arith in
      let Q : ℕ → Type 0 = λ k. get_or (first_edges (m + 1)).cases e 0 ≡ (sent g workers loaders start (first_edges k).places k).case in
      subst Q same (ap (λ xs. get_or xs e 0) (cases_more m) ∙ get_or_push (first_edges m).cases w 0 e (cases_length m ∙ same)) in
      subst P (add-one m) (⊎_elim before last (cases_lt e m))

  -- what an edge has seen stands for good
  sent_same : (e m : ℕ) → e ≤ m → sent g workers loaders start (first_edges e).places e ≡ sent g workers loaders start (first_edges m).places e
  sent_same e m h = ap (λ t. greedy t (edge_at g e)) (table_after_agree g workers (first_of workers loaders e) (first_edges e).places (first_edges m).places (seen loaders (start e) e)
      (each (seen loaders (start e) e) (seen_below loaders (start e) e (begins e))))
    where
      each : (xs : List ℕ) → AllByRecursion (λ x. x < e) xs → AllByRecursion (λ x. get_or (first_edges e).places x 0 ≡ get_or (first_edges m).places x 0) xs
      each [] all = tt
      each (x ∷ xs) all = (place_stays x e all.0 ∙ sym (place_stays x m (omega arith)), each xs all.1)

  pub placing_sent : IsSent g workers loaders start (placing g workers loaders start)
  unfolding placing first_edges
  placing_sent = let n = length g.edges in
      record {
        places_count = places_length n;
        cases_count = cases_length n;
        place = λ e h. place_stays e n h ∙ ap (λ (p : Placed). p.worker) (sent_same e n (omega arith));
        case = λ e h. case_stays e n h ∙ ap (λ (p : Placed). p.case) (sent_same e n (omega arith));
      }
