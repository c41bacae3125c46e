-- The parts of all workers, merged, are the fresh gathers.
use Rattle.std.proofs.Common.{◌≡◌, ◌≢◌, ℕ, zero, suc, ◌<◌, Bool, true, false, cond, ◌==◌, List, [], ◌∷◌, length, get_or, map, refl, sym, subst, ◌∙◌, ap, arith}
use Rattle.std.specs.Prelude.{AllPairs, filter, fold, slice_index}
use Rattle.std.specs.List.{range_with_len, AllByRecursion}
use Rattle.std.proofs.lemmas.Bool.{eq-eqb, ne_eqb}
use Rattle.std.proofs.lemmas.Bool.{true≢false}
use Rattle.std.proofs.lemmas.List.Elements.{recursion_from_All}
use Rattle.std.proofs.lemmas.List.Folds.{fold-map}
use Rattle.pg_graph.specs.Multigraph.{Multigraph, IsMultigraph, side_at, takes}
use Rattle.pg_graph.proofs.Numbers.{numbers_below}
use Rattle.pg_graph.proofs.Stored.{edges_passing_below}
use Rattle.pg_law.specs.Program.{Program}
use Rattle.pg_law.specs.Laws.{IsLawful}
use Rattle.pg_law.specs.Configuration.{Configuration, IsFit}
use Rattle.pg_law.specs.Round.{gathered, sum_over, edges_over, fresh}
use Rattle.pg_law.specs.Monoid.{part}
use Rattle.pg_law.proofs.Fitting.{near_own, sum_over_own}
use Rattle.pg_law.proofs.Parts.{partial_sums as sums_of_parts}
use Rattle.pg_cut.specs.Cut.{Division, IsCutOf}
use Rattle.pg_edge_store.specs.Store.{Store}
use Rattle.pg_mirrors.specs.Mirrors.{Mirrors}
use Rattle.pg_gather.specs.Partials.{gathered_at, partial_sum, partial_sums, has_replica}
use Rattle.pg_gather.specs.Merging.{with_parts, sum_of, merged}
use Rattle.pg_gather.specs.Shares.{IsShareOf}
use Rattle.pg_gather.proofs.Reading.{listed_is_in, nothing_here}
use Rattle.pg_gather.proofs.Sharing.{readable, partial_is}

module _ {Acc Carry : Type 0} (p : Program Acc Carry) (parts : ℕ → Acc) (has : ℕ → Bool) where
  -- the parts of these vertices
  abbrev parts_for : List ℕ → List (ℕ × Acc)
  parts_for xs = map (λ v. (v, parts v)) xs

  passed_by : (x u : ℕ) (acc : Acc) (xs : List ℕ) → (x == u) ≡ false → with_parts p u acc (parts_for (x ∷ xs)) ≡ with_parts p u acc (parts_for xs)
  passed_by x u acc xs other = ap (λ b. with_parts p u (cond b (p.sum acc (parts x)) acc) (parts_for xs)) other

  added_first : (u : ℕ) (acc : Acc) (xs : List ℕ) → with_parts p u acc (parts_for (u ∷ xs)) ≡ with_parts p u (p.sum acc (parts u)) (parts_for xs)
  added_first u acc xs = ap (λ b. with_parts p u (cond b (p.sum acc (parts u)) acc) (parts_for xs)) (eq-eqb u u refl)

  -- where a vertex isn't wanted, it has no part
  none_wanted : (xs : List ℕ) (u : ℕ) (acc : Acc) → ((k : ℕ) → k < length xs → get_or xs k 0 ≢ u) → with_parts p u acc (parts_for (filter has xs)) ≡ acc
  none_wanted [] u acc none = refl
  none_wanted (x ∷ xs) u acc none = by_test (has x) (none_wanted xs u acc (λ k h. none (suc k) (omega arith)))
    where
      other : (x == u) ≡ false
      other = ne_eqb x u (none 0 (omega arith))

      by_test : (b : Bool) → with_parts p u acc (parts_for (filter has xs)) ≡ acc → with_parts p u acc (parts_for (cond b (x ∷ filter has xs) (filter has xs))) ≡ acc
      by_test true rest = passed_by x u acc (filter has xs) other ∙ rest
      by_test false rest = rest

  -- a wanted vertex has one part, where the worker has one
  pub one_wanted : (xs : List ℕ) (u k : ℕ) (acc : Acc) → AllPairs (λ a b. a ≢ b) xs → k < length xs → get_or xs k 0 ≡ u → with_parts p u acc (parts_for (filter has xs)) ≡ cond (has u) (p.sum acc (parts u)) acc
  one_wanted [] u k acc apart h is = absurd (omega arith)
  one_wanted (x ∷ xs) u zero acc apart h is = subst Has is (by_test (has x))
    where
      Has : ℕ → Type 0
      Has v = with_parts p v acc (parts_for (cond (has x) (x ∷ filter has xs) (filter has xs))) ≡ cond (has v) (p.sum acc (parts v)) acc

      rest : (acc : Acc) → with_parts p x acc (parts_for (filter has xs)) ≡ acc
      rest acc = none_wanted xs x acc (λ k h same. apart 0 (suc k) 0 (omega arith) (omega arith) (sym same))

      by_test : (b : Bool) → with_parts p x acc (parts_for (cond b (x ∷ filter has xs) (filter has xs))) ≡ cond b (p.sum acc (parts x)) acc
      by_test true = added_first x acc (filter has xs) ∙ rest (p.sum acc (parts x))
      by_test false = rest acc
  one_wanted (x ∷ xs) u (suc k) acc apart h is = by_test (has x) (one_wanted xs u k acc (λ i j d lt below. apart (suc i) (suc j) d (omega arith) (omega arith)) (omega arith) is)
    where
      other : (x == u) ≡ false
      other = ne_eqb x u (λ same. apart 0 (suc k) 0 (omega arith) h (same ∙ sym is))

      by_test : (b : Bool) → with_parts p u acc (parts_for (filter has xs)) ≡ cond (has u) (p.sum acc (parts u)) acc → with_parts p u acc (parts_for (cond b (x ∷ filter has xs) (filter has xs))) ≡ cond (has u) (p.sum acc (parts u)) acc
      by_test true rest = passed_by x u acc (filter has xs) other ∙ rest
      by_test false rest = rest

-- steps that agree on own values
turn_by_turn : {Acc : Type 0} (P : Acc → Type 0) (f h : Acc → ℕ → Acc) → (ws : List ℕ)
    → AllByRecursion (λ w. (acc : Acc) → P acc → (f acc w ≡ h acc w) × P (h acc w)) ws → (acc : Acc) → P acc → fold f acc ws ≡ fold h acc ws
turn_by_turn P f h [] agree acc own = refl
turn_by_turn P f h (w ∷ ws) agree acc own = let here = agree.0 acc own in
    ap (λ a. fold f a ws) here.0 ∙ turn_by_turn P f h ws agree.1 (h acc w) here.1

each_then : {X : Type 0} (P Q : X → Type 0) (xs : List X) → ((x : X) → P x → Q x) → AllByRecursion P xs → AllByRecursion Q xs
each_then P Q [] then all = tt
each_then P Q (x ∷ xs) then all = (then x all.0, each_then P Q xs then all.1)

-- values that agree on each item
abbrev with_value : {A : Type 0} → (ℕ → A) → ℕ → ℕ × A
with_value f u = (u, f u)

paired : {A : Type 0} (xs : List ℕ) (f h : ℕ → A) → ((k : ℕ) → k < length xs → f (get_or xs k 0) ≡ h (get_or xs k 0)) → map (with_value f) xs ≡ map (with_value h) xs
paired [] f h agree = refl
paired (x ∷ xs) f h agree = ap (λ a. with_value (λ _. a) x ∷ map (with_value f) xs) (agree 0 (omega arith))
    ∙ ap (λ ys. with_value h x ∷ ys) (paired xs f h (λ k below. agree (suc k) (omega arith)))

-- what isn't there adds nothing
pub absent_adds_nothing : {Acc Carry : Type 0} (p : Program Acc Carry) → IsLawful p → (b : Bool) (acc x : Acc) → p.IsAcc acc → (b ≡ false → x ≡ p.empty) → cond b (p.sum acc x) acc ≡ p.sum acc x
absent_adds_nothing p law true acc x own none = refl
absent_adds_nothing p law false acc x own none = sym (ap (p.sum acc) (none refl) ∙ law.monoidal.sum_comm acc p.empty own law.closed.empty ∙ law.monoidal.sum_unit acc own)

module _ {Acc Carry : Type 0} (p : Program Acc Carry) (law : IsLawful p) (g : Multigraph) (cut : Division) (s : Configuration)
    (ok : IsMultigraph g) (is : IsCutOf g cut) (fit : IsFit p g s) where
  edges_own : (u : ℕ) → AllByRecursion (λ e. p.IsAcc (gathered p g s.values s.edges u e)) (edges_over p.gather_edges g u)
  edges_own u = each_then (λ e. e < length g.edges) (λ e. p.IsAcc (gathered p g s.values s.edges u e)) (edges_over p.gather_edges g u)
      (λ e h. law.closed.gather _ (near_own p g law ok s.values (side_at g u e) e _ fit.values h (fit.words.each e h)))
      (edges_passing_below g (λ e. takes p.gather_edges (side_at g u e)) u)

  edges_placed : (u : ℕ) → AllByRecursion (λ e. slice_index cut.place e < cut.workers) (edges_over p.gather_edges g u)
  edges_placed u = each_then (λ e. e < length g.edges) (λ e. slice_index cut.place e < cut.workers) (edges_over p.gather_edges g u)
      (λ e h. is.placed.each e (omega (arith, h, is.placed.count)))
      (edges_passing_below g (λ e. takes p.gather_edges (side_at g u e)) u)

  -- what a worker's edges of a vertex come to
  abbrev sum_on : ℕ → ℕ → Acc
  sum_on u w = sum_over p g s.values s.edges u (part (slice_index cut.place) w (edges_over p.gather_edges g u))

  sum_on_own : (u w : ℕ) → p.IsAcc (sum_on u w)
  sum_on_own u w = sum_over_own p g law ok s.values s.edges u _ fit.values fit.words (within (λ e. slice_index cut.place e == w) _ (edges_passing_below g (λ e. takes p.gather_edges (side_at g u e)) u))
    where
      within : (q : ℕ → Bool) (xs : List ℕ) → AllByRecursion (λ e. e < length g.edges) xs → AllByRecursion (λ e. e < length g.edges) (filter q xs)
      within q [] all = tt
      within q (x ∷ xs) all = chosen (q x) (within q xs all.1)
        where
          chosen : (b : Bool) → AllByRecursion (λ e. e < length g.edges) (filter q xs) → AllByRecursion (λ e. e < length g.edges) (cond b (x ∷ filter q xs) (filter q xs))
          chosen true rest = (all.0, rest)
          chosen false rest = rest

  module _ (wanted : List ℕ) (apart : AllPairs (λ a b. a ≢ b) wanted) where
    -- a worker's list adds its part of the vertex
    pub list_adds : (w : ℕ) (store : Store) (mirrors : Mirrors) → w < cut.workers → IsShareOf g cut w s store mirrors → (k : ℕ) → k < length wanted → (acc : Acc) → p.IsAcc acc
        → with_parts p (get_or wanted k 0) acc (partial_sums p g store mirrors wanted) ≡ p.sum acc (sum_on (get_or wanted k 0) w)
    list_adds w store mirrors within share k h acc own = let u = get_or wanted k 0 in
        one_wanted p (partial_sum p g store mirrors) (has_replica mirrors) wanted u k acc apart h refl
        ∙ absent_adds_nothing p law (has_replica mirrors u) acc (partial_sum p g store mirrors u) own (none u)
        ∙ ap (p.sum acc) (partial_is p g cut w s store mirrors ok is within share u)
      where
        none : (u : ℕ) → has_replica mirrors u ≡ false → partial_sum p g store mirrors u ≡ p.empty
        none u away = ap (λ places. fold (λ acc i. p.sum acc (gathered_at p g store mirrors u i)) p.empty places)
            (nothing_here p g store mirrors u p.gather_edges (readable p g cut w s store mirrors ok is within share fit) (λ has. true≢false (sym (listed_is_in mirrors.vertices u has) ∙ away)))

    -- the lists of all workers come to the fresh gather
    pub merged_are_fresh : (stores : ℕ → Store) (mirrors : ℕ → Mirrors) → ((w : ℕ) → w < cut.workers → IsShareOf g cut w s (stores w) (mirrors w))
        → merged p wanted (map (λ w. partial_sums p g (stores w) (mirrors w) wanted) (range_with_len 0 cut.workers)) ≡ map (λ u. (u, fresh p g s u)) wanted
    merged_are_fresh stores mirrors shares = paired wanted (λ u. sum_of p u lists) (fresh p g s) whole
      where
        lists : List (List (ℕ × Acc))
        lists = map (λ w. partial_sums p g (stores w) (mirrors w) wanted) (range_with_len 0 cut.workers)

        whole : (k : ℕ) → k < length wanted → sum_of p (get_or wanted k 0) lists ≡ fresh p g s (get_or wanted k 0)
        whole k h = let u = get_or wanted k 0 in
            let Agrees : ℕ → Type 0 = λ w. (acc : Acc) → p.IsAcc acc → (with_parts p u acc (partial_sums p g (stores w) (mirrors w) wanted) ≡ p.sum acc (sum_on u w)) × p.IsAcc (p.sum acc (sum_on u w)) in
            fold-map (with_parts p u) (λ w. partial_sums p g (stores w) (mirrors w) wanted) p.empty (range_with_len 0 cut.workers)
            ∙ turn_by_turn p.IsAcc (λ acc w. with_parts p u acc (partial_sums p g (stores w) (mirrors w) wanted)) (λ acc w. p.sum acc (sum_on u w)) (range_with_len 0 cut.workers)
            (recursion_from_All Agrees (range_with_len 0 cut.workers) (λ i d inside acc own. let w = get_or (range_with_len 0 cut.workers) i d in
            let below = numbers_below cut.workers i d inside in
            (list_adds w (stores w) (mirrors w) below (shares w below) k h acc own, law.closed.sum acc (sum_on u w) own (sum_on_own u w)))) p.empty law.closed.empty
            ∙ sums_of_parts p law g s.values s.edges u (slice_index cut.place) cut.workers (edges_over p.gather_edges g u) (edges_placed u) (edges_own u)
