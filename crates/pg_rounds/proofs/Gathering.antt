-- Gathers that go on edge by edge are the gathers of each vertex over its own edges, and as many.
use Rattle.std.proofs.Common.{◌≡◌, ℕ, ◌+◌, ◌<◌, ◌≤◌, ◌⊎◌, inl, inr, Bool, true, false, cond, ◌||◌, List, [], ◌∷◌, length, suc, zero, refl, sym, ap, arith, ◌∙◌, length-append}
use Rattle.std.specs.Prelude.{filter, fold, map, sum_by, ◌==◌}
use Rattle.std.specs.List.{range_with_len}
use Rattle.std.proofs.lemmas.Bool.{cases_lt, eqb-true, eq-eqb, ne_eqb}
use Rattle.std.proofs.lemmas.List.FromFn.{length-map-range_with_len, get_or-map-range_with_len}
use Rattle.std.proofs.lemmas.List.Sums.{fold-append, sum_by-cons}
use Rattle.std.proofs.lemmas.List.Elements.{filter-append}
use Rattle.pg_graph.specs.declared.edge.Dir.{Dir}
use Rattle.pg_graph.specs.declared.edge.Side.{Side}
use Rattle.pg_graph.specs.declared.edge.Side.TheVariants.{Source, Target}
use Rattle.pg_graph.specs.Multigraph.{Multigraph, IsMultigraph, edge_at, end_at, is_at, side_at, takes, edges_at, vertices}
use Rattle.pg_graph.proofs.Numbers.{numbers_more, filter_numbers_more, sum_filter_more}
use Rattle.pg_law.specs.Program.{Program}
use Rattle.pg_law.specs.Laws.{IsLawful}
use Rattle.pg_law.specs.Configuration.{Configuration, is_signalled, signalled}
use Rattle.pg_law.specs.Round.{gathered, fresh}
use Rattle.pg_rounds.specs.Gathers.{acc_at, gather_step, gather_end, count_end, AreAccs}

-- a filter becomes a test in the step
fold_tests : {A B : Type 0} (f : B → A → B) (q : A → Bool) (b : B) (xs : List A) → fold f b (filter q xs) ≡ fold (λ b x. cond (q x) (f b x) b) b xs
fold_tests f q b [] = refl
fold_tests {A = A} {B = B} f q b (x ∷ xs) = chosen (q x) refl (λ c. fold_tests f q c xs)
  where
    chosen : (t : Bool) → q x ≡ t → ((c : B) → fold f c (filter q xs) ≡ fold (λ b x. cond (q x) (f b x) b) c xs) → fold f b (cond (q x) (x ∷ filter q xs) (filter q xs)) ≡ fold (λ b x. cond (q x) (f b x) b) (cond (q x) (f b x) b) xs
    chosen true e rest = rw e (rest (f b x))
    chosen false e rest = rw e (rest b)

-- sums
sum_plus : {X : Type 0} (f h : X → ℕ) (xs : List X) → sum_by (λ x. f x + h x) xs ≡ sum_by f xs + sum_by h xs
sum_plus f h [] = refl
sum_plus f h (x ∷ xs) = omega (arith, sum_by-cons (λ y. f y + h y) x xs, sum_by-cons f x xs, sum_by-cons h x xs, sum_plus f h xs)

sum_agree : {X : Type 0} (f h : X → ℕ) → ((x : X) → f x ≡ h x) → (xs : List X) → sum_by f xs ≡ sum_by h xs
sum_agree f h same [] = refl
sum_agree f h same (x ∷ xs) = omega (arith, sum_by-cons f x xs, sum_by-cons h x xs, same x, sum_agree f h same xs)

-- one number of those that pass, and none behind them
abbrev taken : (ℕ → Bool) → ℕ → ℕ → ℕ → ℕ
taken passes k x n = sum_by (λ v. cond (k == v) x 0) (filter passes (range_with_len 0 n))

taken_more : (passes : ℕ → Bool) (k x n : ℕ) → taken passes k x (suc n) ≡ taken passes k x n + cond (passes n) (cond (k == n) x 0) 0
taken_more passes k x n = let same : suc n ≡ n + 1 = omega arith in ap (taken passes k x) same ∙ sum_filter_more (λ v. cond (k == v) x 0) passes n

stays : (t : Bool) (m : ℕ) → m + cond {A = ℕ} t 0 0 ≡ m
stays true m = omega arith
stays false m = omega arith

none_at : (passes : ℕ → Bool) (k x n : ℕ) → n ≤ k → taken passes k x n ≡ 0
none_at passes k x zero h = refl
none_at passes k x (suc n) h = let apart : (k == n) ≡ false = ne_eqb k n (λ same. absurd (omega arith)) in
    taken_more passes k x n ∙ rw (none_at passes k x n (omega arith), apart) (stays (passes n) 0)

one_at : (passes : ℕ → Bool) (k x n : ℕ) → k < n → taken passes k x n ≡ cond (passes k) x 0
one_at passes k x zero h = absurd (omega arith)
one_at passes k x (suc n) h = taken_more passes k x n ∙ by_order (cases_lt k n) (one_at passes k x n)
  where
    by_order : (k < n) ⊎ (n ≤ k) → (k < n → taken passes k x n ≡ cond (passes k) x 0) → taken passes k x n + cond (passes n) (cond (k == n) x 0) 0 ≡ cond (passes k) x 0
    by_order (inl below) before = let apart : (k == n) ≡ false = ne_eqb k n (λ same. absurd (omega arith)) in
        rw (before below, apart) (stays (passes n) (cond (passes k) x 0))
    by_order (inr last) before = let same : k ≡ n = omega arith in
        rw (none_at passes k x n last, same, eq-eqb n n refl) (omega arith)

-- the two ends of an edge, tried one after another, are the edge as its vertex sees it
sides : {A : Type 0} (dir : Dir) (f : A → A) (src dst sig : Bool) (a : A) → sig ≡ true → (src ≡ true → dst ≡ true → ⊥)
    → (let b = cond src (cond sig (cond (takes dir Source) (f a) a) a) a in cond dst (cond sig (cond (takes dir Target) (f b) b) b) b)
    ≡ cond (src || dst) (cond (takes dir (cond src Source Target)) (f a) a) a
sides dir f true true sig a runs apart = absurd (apart refl refl)
sides dir f true false sig a runs apart = rw runs refl
sides dir f false true sig a runs apart = rw runs refl
sides dir f false false sig a runs apart = refl

counts : (dir : Dir) (src dst : Bool) → (src ≡ true → dst ≡ true → ⊥)
    → cond {A = ℕ} (src || dst) (cond (takes dir (cond src Source Target)) 1 0) 0 ≡ cond src (cond (takes dir Source) 1 0) 0 + cond dst (cond (takes dir Target) 1 0) 0
counts dir true true apart = absurd (apart refl refl)
counts dir true false apart = omega arith
counts dir false true apart = omega arith
counts dir false false apart = refl

-- a vertex is one end of an edge alone
one_end : (g : Multigraph) → IsMultigraph g → (e v : ℕ) → e < length g.edges → (end_at g Source e == v) ≡ true → (end_at g Target e == v) ≡ true → ⊥
one_end g graph e v h s t = (graph.edge e h).apart (eqb-true _ _ s ∙ sym (eqb-true _ _ t))

module _ {Acc Carry : Type 0} (p : Program Acc Carry) (g : Multigraph) where
  -- at first each gather is empty
  pub empties_at : (v : ℕ) → v < length g.ids → acc_at p g (map (λ _. p.empty) (vertices g)) v ≡ p.empty
  empties_at v h = get_or-map-range_with_len (λ (_ : ℕ). p.empty) 0 (length g.ids) v v p.empty h (omega arith)

  pub empties_own : IsLawful p → AreAccs p g (map (λ _. p.empty) (vertices g))
  empties_own law = record {
    count = length-map-range_with_len (λ (_ : ℕ). p.empty) 0 (length g.ids);
    each = λ v h. rw (empties_at v h) law.closed.empty;
  }

module _ {Acc Carry : Type 0} (p : Program Acc Carry) (g : Multigraph) (s : Configuration) where
  -- an edge goes on with the gather of a signalled vertex
  pub both_ends : IsMultigraph g → (e v : ℕ) → e < length g.edges → is_signalled s v ≡ true → (acc : Acc) → gather_end p g s Target e v (gather_end p g s Source e v acc) ≡ gather_step p g s v acc e
  both_ends graph e v h runs acc = sides p.gather_edges (λ a. p.sum a (gathered p g s.values s.edges v e)) (end_at g Source e == v) (end_at g Target e == v) (is_signalled s v) acc runs (one_end g graph e v h)

  -- as a step of the fold over the numbers
  pub gathers_more : (v e : ℕ) → fold (gather_step p g s v) p.empty (range_with_len 0 (e + 1)) ≡ gather_step p g s v (fold (gather_step p g s v) p.empty (range_with_len 0 e)) e
  gathers_more v e = ap (fold (gather_step p g s v) p.empty) (numbers_more e) ∙ fold-append (gather_step p g s v) p.empty (range_with_len 0 e) (e ∷ [])

  -- over all numbers it is the fresh gather
  pub gathers_all : (v : ℕ) → fold (gather_step p g s v) p.empty (range_with_len 0 (length g.edges)) ≡ fresh p g s v
  gathers_all v = sym (fold_tests (λ acc e. p.sum acc (gathered p g s.values s.edges v e)) (λ e. takes p.gather_edges (side_at g v e)) p.empty (edges_at g v)
      ∙ fold_tests (λ acc e. cond (takes p.gather_edges (side_at g v e)) (p.sum acc (gathered p g s.values s.edges v e)) acc) (λ e. is_at v (edge_at g e)) p.empty (range_with_len 0 (length g.edges)))

  -- how many gather edges below e a vertex has
  abbrev pub below : ℕ → ℕ → ℕ
  below e v = length (filter (λ k. takes p.gather_edges (side_at g v k)) (filter (λ k. is_at v (edge_at g k)) (range_with_len 0 e)))

  below_more : (e v : ℕ) → below (e + 1) v ≡ below e v + cond (is_at v (edge_at g e)) (cond (takes p.gather_edges (side_at g v e)) 1 0) 0
  below_more e v = ap (λ xs. length (filter takes_here xs)) (filter_numbers_more (λ k. is_at v (edge_at g k)) e) ∙ ap length (filter-append takes_here at_here (cond (is_at v (edge_at g e)) (e ∷ []) []))
      ∙ length-append (filter takes_here at_here) (filter takes_here (cond (is_at v (edge_at g e)) (e ∷ []) [])) ∙ ap (λ n. below e v + n) (last (is_at v (edge_at g e)) (takes_here e) refl)
    where
      takes_here : ℕ → Bool
      takes_here k = takes p.gather_edges (side_at g v k)

      at_here : List ℕ
      at_here = filter (λ k. is_at v (edge_at g k)) (range_with_len 0 e)

      last : (a b : Bool) → takes_here e ≡ b → length (filter takes_here (cond a (e ∷ []) [])) ≡ cond a (cond (takes_here e) 1 0) 0
      last true true is = rw is refl
      last true false is = rw is refl
      last false b is = refl

  -- an edge adds a gather for each of its ends that gathers over it
  pub counts_more : IsMultigraph g → (e : ℕ) → e < length g.edges → sum_by (below (e + 1)) (signalled g s) ≡ sum_by (below e) (signalled g s) + (count_end p g s Source e + count_end p g s Target e)
  counts_more graph e h = sum_agree (below (e + 1)) (λ v. below e v + (at_source v + at_target v)) (λ v. below_more e v ∙ ap (λ n. below e v + n) (counts p.gather_edges (end_at g Source e == v) (end_at g Target e == v) (one_end g graph e v h))) (signalled g s)
      ∙ sum_plus (below e) (λ v. at_source v + at_target v) (signalled g s) ∙ ap (λ n. sum_by (below e) (signalled g s) + n) (sum_plus at_source at_target (signalled g s)
      ∙ ap (λ n. n + sum_by at_target (signalled g s)) (one_at (is_signalled s) (end_at g Source e) (cond (takes p.gather_edges Source) 1 0) (length g.ids) (graph.edge e h).src)
      ∙ ap (λ n. count_end p g s Source e + n) (one_at (is_signalled s) (end_at g Target e) (cond (takes p.gather_edges Target) 1 0) (length g.ids) (graph.edge e h).dst))
    where
      at_source : ℕ → ℕ
      at_source v = cond (end_at g Source e == v) (cond (takes p.gather_edges Source) 1 0) 0

      at_target : ℕ → ℕ
      at_target v = cond (end_at g Target e == v) (cond (takes p.gather_edges Target) 1 0) 0

  pub counts_none : sum_by (below 0) (signalled g s) ≡ 0
  counts_none = zeros (signalled g s)
    where
      zeros : (xs : List ℕ) → sum_by (below 0) xs ≡ 0
      zeros [] = refl
      zeros (x ∷ xs) = omega (arith, sum_by-cons (below 0) x xs, zeros xs)

  pub count_few : (side : Side) (e : ℕ) → count_end p g s side e ≤ 1
  count_few side e = within (is_signalled s (end_at g side e)) (takes p.gather_edges side)
    where
      within : (a b : Bool) → cond {A = ℕ} a (cond b 1 0) 0 ≤ 1
      within true true = omega arith
      within true false = omega arith
      within false b = omega arith
