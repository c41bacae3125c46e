-- Sums that go on edge by edge are the sums of each vertex over its own edges, and as many.
use Rattle.std.proofs.Common.{◌≡◌, ◌≢◌, ℕ, ◌+◌, ◌<◌, Bool, true, false, cond, ◌||◌, ◌&&◌, ◌==◌, Option, Some, None, List, [], ◌∷◌, length, get_or, suc, refl, sym, ap, arith, ◌∙◌, ⊎_elim}
use Rattle.std.specs.Prelude.{filter, sum_by, AllPairs}
use Rattle.std.specs.List.{range_with_len}
use Rattle.std.specs.Option.{option_map}
use Rattle.std.proofs.lemmas.Bool.{cases_eq, cases_lt, eqb-true, eq-eqb, ne_eqb}
use Rattle.std.proofs.lemmas.List.Sums.{sum_by-cons}
use Rattle.pg_graph.specs.declared.edge.Dir.{Dir}
use Rattle.pg_graph.specs.declared.edge.Side.{Side}
use Rattle.pg_graph.specs.declared.edge.Side.TheVariants.{Source, Target}
use Rattle.pg_graph.specs.Multigraph.{Multigraph, IsMultigraph, edge_at, end_at, end_of, takes}
use Rattle.pg_graph.proofs.Numbers.{fold_filter_more, length_filter_more}
use Rattle.pg_law.specs.Program.{Program}
use Rattle.pg_edge_store.specs.Store.{Store, IsOver, local_at, is_around}
use Rattle.pg_edge_store.proofs.Replicas.{apart_from}
use Rattle.pg_mirrors.specs.Mirrors.{Mirrors}
use Rattle.pg_gather.specs.Partials.{near_at, gathered_at, IsReadable}
use Rattle.pg_gather.specs.Desks.{is_wanted, sum_below, end_sum, end_count}

-- options and tests
some_cond : {A : Type 0} (b : Bool) (x y : A) → cond b (Some x) (Some y) ≡ Some (cond b x y)
some_cond true x y = refl
some_cond false x y = refl

-- the two ends of an edge, tried one after another, are the edge as its vertex sees it
sides : {A : Type 0} (dir : Dir) (f : Side → A → A) (src dst : Bool) (a : A) → (src ≡ true → dst ≡ true → ⊥)
    → (let b = cond src (cond (takes dir Source) (option_map (f Source) (Some a)) (Some a)) (Some a) in cond dst (cond (takes dir Target) (option_map (f Target) b) b) b)
    ≡ Some (cond ((src || dst) && takes dir (cond src Source Target)) (f (cond src Source Target) a) a)
sides dir f true true a apart = absurd (apart refl refl)
sides dir f true false a apart = some_cond (takes dir Source) (f Source a) a
sides dir f false true a apart = some_cond (takes dir Target) (f Target a) a
sides dir f false false a apart = refl

nothing : {A : Type 0} (b : Bool) → cond {A = Option A} b None None ≡ None
nothing true = refl
nothing false = refl

no_sides : {A : Type 0} (dir : Dir) (f : Side → A → A) (src dst : Bool)
    → (let b = cond src (cond (takes dir Source) (option_map (f Source) None) None) None in cond dst (cond (takes dir Target) (option_map (f Target) b) b) b) ≡ None
no_sides dir f true dst = rw (nothing (takes dir Source), nothing (takes dir Target)) (nothing dst)
no_sides dir f false dst = rw (nothing (takes dir Target)) (nothing dst)

counts : (dir : Dir) (src dst : Bool) → (src ≡ true → dst ≡ true → ⊥)
    → cond {A = ℕ} ((src || dst) && takes dir (cond src Source Target)) 1 0 ≡ cond src (cond (takes dir Source) 1 0) 0 + cond dst (cond (takes dir Target) 1 0) 0
counts dir true true apart = absurd (apart refl refl)
counts dir true false apart = omega arith
counts dir false true apart = omega arith
counts dir false false apart = refl

-- a vertex is one end of an edge alone
one_end : (g : Multigraph) → IsMultigraph g → (e v : ℕ) → e < length g.edges → (end_at g Source e == v) ≡ true → (end_at g Target e == v) ≡ true → ⊥
one_end g graph e v h s t = (graph.edge e h).apart (eqb-true _ _ s ∙ sym (eqb-true _ _ t))

-- sums
sum_plus : {X : Type 0} (f h : X → ℕ) (xs : List X) → sum_by (λ x. f x + h x) xs ≡ sum_by f xs + sum_by h xs
sum_plus f h [] = refl
sum_plus f h (x ∷ xs) = omega (arith, sum_by-cons (λ y. f y + h y) x xs, sum_by-cons f x xs, sum_by-cons h x xs, sum_plus f h xs)

sum_agree : {X : Type 0} (f h : X → ℕ) → ((x : X) → f x ≡ h x) → (xs : List X) → sum_by f xs ≡ sum_by h xs
sum_agree f h same [] = refl
sum_agree f h same (x ∷ xs) = omega (arith, sum_by-cons f x xs, sum_by-cons h x xs, same x, sum_agree f h same xs)

-- a number that stands once at most among others
none_at : (k n : ℕ) (xs : List ℕ) → ((i : ℕ) → i < length xs → k ≢ get_or xs i 0) → sum_by (λ v. cond (k == v) n 0) xs ≡ 0
none_at k n [] none = refl
none_at k n (x ∷ xs) none = let other : (k == x) ≡ false = ne_eqb k x (none 0 (omega arith)) in
    omega (arith, sum_by-cons (λ v. cond (k == v) n 0) x xs, ap (λ b. cond {A = ℕ} b n 0) other, none_at k n xs (λ i h. none (suc i) (omega arith)))

one_at : (k n : ℕ) (xs : List ℕ) → AllPairs (λ a b. a ≢ b) xs → sum_by (λ v. cond (k == v) n 0) xs ≡ cond (is_wanted xs k) n 0
one_at k n [] apart = refl
one_at k n (x ∷ xs) apart = by_first (x == k) refl (one_at k n xs (λ i j d lt below. apart (suc i) (suc j) d (omega arith) (omega arith)))
  where
    by_first : (b : Bool) → (x == k) ≡ b → sum_by (λ v. cond (k == v) n 0) xs ≡ cond (is_wanted xs k) n 0 → sum_by (λ v. cond (k == v) n 0) (x ∷ xs) ≡ cond (b || is_wanted xs k) n 0
    by_first true is rest = let same = eqb-true x k is in
        omega (
          arith,
          sum_by-cons (λ v. cond (k == v) n 0) x xs,
          ap (λ b. cond {A = ℕ} b n 0) (eq-eqb k x (sym same)),
          none_at k n xs (λ i h again. apart 0 (suc i) 0 (omega arith) (omega arith) (same ∙ again)),
        )
    by_first false is rest = let other : (k == x) ≡ false = ne_eqb k x (λ same. absurd (both (sym (eq-eqb x k (sym same)) ∙ is))) in
        omega (arith, sum_by-cons (λ v. cond (k == v) n 0) x xs, ap (λ b. cond {A = ℕ} b n 0) other, rest)
      where
        both : true ≡ false → ⊥
        both e = absurd (cc)

-- a replica stands at an end where its vertex does
end_agrees : (g : Multigraph) (s : Store) → IsOver g s → (r i : ℕ) → r < length s.vertices → i < length s.numbers → (side : Side) → (end_of side (local_at s i) == r) ≡ (end_at g side (get_or s.numbers i 0) == get_or s.vertices r 0)
end_agrees g s over r i hr hi side = let k = end_of side (local_at s i) in
    let hk = over.within i hi side in
    let is = over.ends i hi side in
    ⊎_elim
    (λ same. eq-eqb k r same ∙ sym (eq-eqb _ _ (sym is ∙ ap (λ j. get_or s.vertices j 0) same)))
    (λ other. ne_eqb k r other ∙ sym (ne_eqb _ _ (λ same. ⊎_elim
    (λ below. apart_from s.vertices over.ascending k r below hr (is ∙ same))
    (λ behind. apart_from s.vertices over.ascending r k (omega arith) hk (sym (is ∙ same)))
    (cases_lt k r))))
    (cases_eq k r)

module _ {Acc Carry : Type 0} (p : Program Acc Carry) (g : Multigraph) (s : Store) where
  -- the places below a number over which a vertex gathers
  abbrev pub places_below : ℕ → ℕ → List ℕ
  places_below count u = filter (λ i. is_around u p.gather_edges (edge_at g (get_or s.numbers i 0))) (range_with_len 0 count)

  -- at first none
  pub counts_none : (wanted : List ℕ) → sum_by (λ u. length (places_below 0 u)) wanted ≡ 0
  counts_none [] = refl
  counts_none (x ∷ xs) = omega (arith, sum_by-cons (λ u. length (places_below 0 u)) x xs, counts_none xs)

  below_more : IsMultigraph g → (place u : ℕ) → get_or s.numbers place 0 < length g.edges → length (places_below (place + 1) u) ≡ length (places_below place u)
      + (cond (end_at g Source (get_or s.numbers place 0) == u) (cond (takes p.gather_edges Source) 1 0) 0 + cond (end_at g Target (get_or s.numbers place 0) == u) (cond (takes p.gather_edges Target) 1 0) 0)
  below_more graph place u h = let e = get_or s.numbers place 0 in
      length_filter_more (λ i. is_around u p.gather_edges (edge_at g (get_or s.numbers i 0))) place
      ∙ ap (λ n. length (places_below place u) + n) (counts p.gather_edges (end_at g Source e == u) (end_at g Target e == u) (one_end g graph e u h))

  module _ (m : Mirrors) where
    -- an edge adds a gather for each of its ends that is wanted and gathers over it
    pub counts_more : IsMultigraph g → (wanted : List ℕ) → AllPairs (λ a b. a ≢ b) wanted → (place : ℕ) → get_or s.numbers place 0 < length g.edges
        → sum_by (λ u. length (places_below (place + 1) u)) wanted ≡ sum_by (λ u. length (places_below place u)) wanted + (end_count p g s m wanted Source place + end_count p g s m wanted Target place)
    counts_more graph wanted apart place h = let e = get_or s.numbers place 0 in
        let at = λ (side : Side) (u : ℕ). cond {A = ℕ} (end_at g side e == u) (cond (takes p.gather_edges side) 1 0) 0 in
        let old = λ (u : ℕ). length (places_below place u) in
        sum_agree (λ u. length (places_below (place + 1) u)) (λ u. old u + (at Source u + at Target u)) (λ u. below_more graph place u h) wanted
        ∙ sum_plus old (λ u. at Source u + at Target u) wanted
        ∙ ap (λ n. sum_by old wanted + n) (sum_plus (at Source) (at Target) wanted
        ∙ ap (λ n. n + sum_by (at Target) wanted) (one_at (end_at g Source e) (cond (takes p.gather_edges Source) 1 0) wanted apart)
        ∙ ap (λ n. end_count p g s m wanted Source place + n) (one_at (end_at g Target e) (cond (takes p.gather_edges Target) 1 0) wanted apart))

    -- one place more of a sum
    sum_more : (place u : ℕ) → sum_below p g s m (place + 1) u ≡ cond (is_around u p.gather_edges (edge_at g (get_or s.numbers place 0))) (p.sum (sum_below p g s m place u) (gathered_at p g s m u place)) (sum_below p g s m place u)
    sum_more place u = fold_filter_more (λ acc i. p.sum acc (gathered_at p g s m u i)) p.empty (λ i. is_around u p.gather_edges (edge_at g (get_or s.numbers i 0))) place

    -- an edge goes on with the sum of a wanted vertex, and others have none
    pub both_ends : IsMultigraph g → IsReadable p g s m → (r place : ℕ) → r < length m.vertices → place < length s.numbers → (b : Bool)
        → (let u = get_or m.vertices r 0 in end_sum p g s m Target place r (end_sum p g s m Source place r (cond b (Some (sum_below p g s m place u)) None)) ≡ cond b (Some (sum_below p g s m (place + 1) u)) None)
    both_ends graph readable r place hr hp true = let u = get_or m.vertices r 0 in
        let e = get_or s.numbers place 0 in
        let agrees = λ (side : Side). end_agrees g s readable.over r place (omega (arith, hr, ap length readable.vertices)) hp side ∙ ap (λ (vs : List ℕ). end_at g side e == get_or vs r 0) readable.vertices in
        rw (agrees Source, agrees Target)
        (sides p.gather_edges (λ side acc. p.sum acc (p.gather (near_at g s m side place))) (end_at g Source e == u) (end_at g Target e == u) (sum_below p g s m place u) (one_end g graph e u (readable.edges place 0 hp).edge))
        ∙ ap Some (sym (sum_more place u))
    both_ends graph readable r place hr hp false =
        no_sides p.gather_edges (λ side acc. p.sum acc (p.gather (near_at g s m side place))) (end_of Source (local_at s place) == r) (end_of Target (local_at s place) == r)
