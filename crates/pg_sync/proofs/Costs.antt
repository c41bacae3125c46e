-- What rounds with kept gathers cost.
use Rattle.std.proofs.Common.{◌≡◌, ℕ, zero, suc, ◌+◌, ◌≤◌, Bool, true, false, not, cond, ◌&&◌, ◌||◌, Option, Some, None, List, [], ◌∷◌, refl, sym, ◌∙◌, ap, arith, add-one}
use Rattle.std.specs.Prelude.{sum_by, filter, fold, slice_index}
use Rattle.std.specs.List.{range_with_len}
use Rattle.std.proofs.lemmas.List.Sums.{sum_by-cons, sum_by-le-sum_by}
use Rattle.pg_graph.specs.declared.edge.Side.{Side}
use Rattle.pg_graph.specs.declared.edge.Side.TheVariants.{Source, Target}
use Rattle.pg_graph.specs.Multigraph.{Multigraph, vertices, edges_at, side_at, takes}
use Rattle.pg_law.specs.declared.values.Applied.{Applied}
use Rattle.pg_law.specs.declared.values.Datum.{Datum}
use Rattle.pg_law.specs.declared.values.Delta.{Delta}
use Rattle.pg_law.specs.declared.values.Delta.TheVariants.{Nothing, Add, Clear}
use Rattle.pg_law.specs.Program.{Program}
use Rattle.pg_law.specs.Configuration.{Configuration, signalled, is_signalled, is_quiet}
use Rattle.pg_law.specs.Round.{edges_over, near_of, outcomes, values_after, scatter_by, from_source, from_target, round}
use Rattle.pg_law.specs.Rounds.{gathers_in}
use Rattle.pg_delta.specs.Deltas.{joined}
use Rattle.pg_rounds.specs.Executed.{executes}
use Rattle.pg_rounds.proofs.Executing.{executes_none, executes_stop, executes_go}
use Rattle.pg_sync.specs.Kept.{delta_in, told, is_clear, unkept, kept_now, delta_over, delta_of, kept_after, cost_of_rounds, gather_degree, gather_degree_on, cached_gathers, NeverClears, CachedGathersAreShared, GathersAreDistinct}
use Rattle.pg_sync.proofs.Degrees.{both_tests}
use Rattle.pg_sync.proofs.Summing.{sum_agree, sum_of_none, sum_of_both, exchanged, parts_count, edges_placed}

pub filter_agree : (q r : ℕ → Bool) → ((u : ℕ) → q u ≡ r u) → (xs : List ℕ) → filter q xs ≡ filter r xs
filter_agree q r same [] = refl
filter_agree q r same (x ∷ xs) = rw (same x) (ap (λ ys. cond (r x) (x ∷ ys) ys) (filter_agree q r same xs))

-- the sum over those that pass, term by term
sum_passing : (f : ℕ → ℕ) (q : ℕ → Bool) (xs : List ℕ) → sum_by f (filter q xs) ≡ sum_by (λ u. cond (q u) (f u) 0) xs
sum_passing f q [] = refl
sum_passing f q (x ∷ xs) = chosen (q x) (sum_passing f q xs) ∙ sym (sum_by-cons (λ u. cond (q u) (f u) 0) x xs)
  where
    chosen : (b : Bool) → sum_by f (filter q xs) ≡ sum_by (λ u. cond (q u) (f u) 0) xs → sum_by f (cond b (x ∷ filter q xs) (filter q xs)) ≡ cond b (f x) 0 + sum_by (λ u. cond (q u) (f u) 0) xs
    chosen true rest = sum_by-cons f x (filter q xs) ∙ ap (λ n. f x + n) rest
    chosen false rest = let more : sum_by (λ u. cond (q u) (f u) 0) xs ≡ 0 + sum_by (λ u. cond (q u) (f u) 0) xs = omega arith in rest ∙ more

some_of : (b : Bool) (n : ℕ) → cond b n 0 ≤ n
some_of true n = omega arith
some_of false n = omega arith

pub passing_within : (f : ℕ → ℕ) (q : ℕ → Bool) (xs : List ℕ) → sum_by f (filter q xs) ≤ sum_by f xs
passing_within f q xs = omega (arith, sum_passing f q xs, sum_by-le-sum_by (λ u. cond (q u) (f u) 0) f xs (λ u. some_of (q u) (f u)))

-- if none is kept, all are wanted
none_kept : (kept : ℕ → Bool) → ((u : ℕ) → kept u ≡ false) → (xs : List ℕ) → filter (λ u. not (kept u)) xs ≡ xs
none_kept kept none [] = refl
none_kept kept none (x ∷ xs) = rw (none x) (ap (λ ys. x ∷ ys) (none_kept kept none xs))

pub all_wanted : (g : Multigraph) (kept : ℕ → Bool) (s : Configuration) → ((u : ℕ) → kept u ≡ false) → unkept g kept s ≡ signalled g s
all_wanted g kept s none = none_kept kept none (signalled g s)

module _ {Acc Carry : Type 0} (p : Program Acc Carry) (g : Multigraph) where
  -- no more rounds, nothing to do, and one more round
  pub cost_none : (cost : ℕ → ℕ) (kept : ℕ → Bool) (s : Configuration) → cost_of_rounds p g cost kept s 0 ≡ 0
  unfolding cost_of_rounds
  cost_none cost kept s = refl

  pub cost_stop : (cost : ℕ → ℕ) (kept : ℕ → Bool) (s : Configuration) (n : ℕ) → is_quiet g s ≡ true → cost_of_rounds p g cost kept s n ≡ 0
  unfolding cost_of_rounds
  cost_stop cost kept s zero quiet = refl
  cost_stop cost kept s (suc n) quiet = rw quiet refl

  pub cost_go : (cost : ℕ → ℕ) (kept : ℕ → Bool) (s : Configuration) (n m : ℕ) → is_quiet g s ≡ false → n ≡ m + 1
      → cost_of_rounds p g cost kept s n ≡ sum_by cost (unkept g kept s) + cost_of_rounds p g cost (kept_after p g kept s) (round p g s) m
  unfolding cost_of_rounds
  cost_go cost kept s n m busy e = rw (e, add-one, busy) refl

  after_agrees : (kept kept' : ℕ → Bool) (s : Configuration) (u : ℕ) → kept u ≡ kept' u → kept_after p g kept s u ≡ kept_after p g kept' s u
  after_agrees kept kept' s u same = ap (λ b. (b || is_signalled s u) && not (is_clear (delta_of p g s u))) same

  -- only the costs and what is kept count
  pub cost_agree : (cost cost' : ℕ → ℕ) → ((u : ℕ) → cost u ≡ cost' u) → (n : ℕ) (kept kept' : ℕ → Bool) (s : Configuration) → ((u : ℕ) → kept u ≡ kept' u)
      → cost_of_rounds p g cost kept s n ≡ cost_of_rounds p g cost' kept' s n
  cost_agree cost cost' costs zero kept kept' s same = cost_none cost kept s ∙ sym (cost_none cost' kept' s)
  cost_agree cost cost' costs (suc m) kept kept' s same = by_quiet (is_quiet g s) refl (cost_agree cost cost' costs m (kept_after p g kept s) (kept_after p g kept' s) (round p g s) (λ u. after_agrees kept kept' s u (same u)))
    where
      by_quiet : (quiet : Bool) → is_quiet g s ≡ quiet → cost_of_rounds p g cost (kept_after p g kept s) (round p g s) m ≡ cost_of_rounds p g cost' (kept_after p g kept' s) (round p g s) m
          → cost_of_rounds p g cost kept s (suc m) ≡ cost_of_rounds p g cost' kept' s (suc m)
      by_quiet true quiet later = cost_stop cost kept s (suc m) quiet ∙ sym (cost_stop cost' kept' s (suc m) quiet)
      by_quiet false quiet later = cost_go cost kept s (suc m) m quiet (omega arith)
          ∙ ap (λ xs. sum_by cost xs + cost_of_rounds p g cost (kept_after p g kept s) (round p g s) m) (filter_agree (λ u. not (kept u)) (λ u. not (kept' u)) (λ u. ap not (same u)) (signalled g s))
          ∙ ap (λ n. n + cost_of_rounds p g cost (kept_after p g kept s) (round p g s) m) (sum_agree cost cost' costs (unkept g kept' s))
          ∙ ap (λ n. sum_by cost' (unkept g kept' s) + n) later
          ∙ sym (cost_go cost' kept' s (suc m) m quiet (omega arith))

  -- what is wanted of a round is at most all of it
  pub wanted_within : (kept : ℕ → Bool) (s : Configuration) → sum_by (gather_degree p g) (unkept g kept s) ≤ gathers_in p g s
  wanted_within kept s = passing_within (gather_degree p g) (λ u. not (kept u)) (signalled g s)

  -- costs that are several workers'
  cost_in_parts : (cost : ℕ → ℕ → ℕ) (ws : List ℕ) (n : ℕ) (kept : ℕ → Bool) (s : Configuration)
      → sum_by (λ w. cost_of_rounds p g (cost w) kept s n) ws ≡ cost_of_rounds p g (λ u. sum_by (λ w. cost w u) ws) kept s n
  cost_in_parts cost ws zero kept s = sum_agree (λ w. cost_of_rounds p g (cost w) kept s 0) (λ w. 0) (λ w. cost_none (cost w) kept s) ws ∙ sum_of_none ws ∙ sym (cost_none (λ u. sum_by (λ w. cost w u) ws) kept s)
  cost_in_parts cost ws (suc m) kept s = by_quiet (is_quiet g s) refl (cost_in_parts cost ws m (kept_after p g kept s) (round p g s))
    where
      by_quiet : (quiet : Bool) → is_quiet g s ≡ quiet → sum_by (λ w. cost_of_rounds p g (cost w) (kept_after p g kept s) (round p g s) m) ws ≡ cost_of_rounds p g (λ u. sum_by (λ w. cost w u) ws) (kept_after p g kept s) (round p g s) m
          → sum_by (λ w. cost_of_rounds p g (cost w) kept s (suc m)) ws ≡ cost_of_rounds p g (λ u. sum_by (λ w. cost w u) ws) kept s (suc m)
      by_quiet true quiet rest = sum_agree (λ w. cost_of_rounds p g (cost w) kept s (suc m)) (λ w. 0) (λ w. cost_stop (cost w) kept s (suc m) quiet) ws ∙ sum_of_none ws ∙ sym (cost_stop (λ u. sum_by (λ w. cost w u) ws) kept s (suc m) quiet)
      by_quiet false quiet rest = let later = kept_after p g kept s in
          sum_agree (λ w. cost_of_rounds p g (cost w) kept s (suc m)) (λ w. sum_by (cost w) (unkept g kept s) + cost_of_rounds p g (cost w) later (round p g s) m) (λ w. cost_go (cost w) kept s (suc m) m quiet (omega arith)) ws
          ∙ sum_of_both (λ w. sum_by (cost w) (unkept g kept s)) (λ w. cost_of_rounds p g (cost w) later (round p g s) m) ws
          ∙ ap (λ n. n + sum_by (λ w. cost_of_rounds p g (cost w) later (round p g s) m) ws) (exchanged cost ws (unkept g kept s))
          ∙ ap (λ n. sum_by (λ u. sum_by (λ w. cost w u) ws) (unkept g kept s) + n) rest
          ∙ sym (cost_go (λ u. sum_by (λ w. cost w u) ws) kept s (suc m) m quiet (omega arith))

module _ {Acc Carry : Type 0} (p : Program Acc Carry) where
  pub are_shared : CachedGathersAreShared p
  are_shared g cut s limit is = cost_in_parts p g (gather_degree_on p g cut) (range_with_len 0 cut.workers) limit (λ u. false) s
      ∙ cost_agree p g (λ u. sum_by (λ w. gather_degree_on p g cut w u) (range_with_len 0 cut.workers)) (gather_degree p g)
      (λ u. parts_count (slice_index cut.place) cut.workers (edges_over p.gather_edges g u) (edges_placed p g cut is u)) limit (λ u. false) (λ u. false) s (λ u. refl)

joined_quiet : {A : Type 0} (sum : A → A → A) (d e : Delta A) → is_clear d ≡ false → is_clear e ≡ false → is_clear (joined sum d e) ≡ false
joined_quiet sum Nothing e od oe = oe
joined_quiet sum (Add x) Nothing od oe = refl
joined_quiet sum (Add x) (Add y) od oe = refl
joined_quiet sum (Add x) Clear od oe = oe
joined_quiet sum Clear e od oe = od

told_quiet : {A : Type 0} (side : Side) (d e : Delta A) → is_clear d ≡ false → is_clear e ≡ false → is_clear (told side d e) ≡ false
told_quiet Source d e od oe = oe
told_quiet Target d e od oe = od

-- a term is taken now or later, and not twice
taken_once : (kept now later : Bool) (n : ℕ) → cond (now && not kept) n 0 + cond (later && not (kept || now)) n 0 ≡ cond ((now || later) && not kept) n 0
taken_once true true true n = refl
taken_once true true false n = refl
taken_once true false true n = refl
taken_once true false false n = refl
taken_once false true true n = omega arith
taken_once false true false n = omega arith
taken_once false false true n = omega arith
taken_once false false false n = refl

nothing_passes : (f : ℕ → ℕ) (q : ℕ → Bool) (xs : List ℕ) → ((u : ℕ) → q u ≡ false) → sum_by f (filter q xs) ≡ 0
nothing_passes f q xs none = sum_passing f q xs ∙ sum_agree (λ u. cond (q u) (f u) 0) (λ u. 0) (λ u. ap (λ b. cond b (f u) 0) (none u)) xs ∙ sum_of_none xs

and_true : (b : Bool) → (b && true) ≡ b
and_true true = refl
and_true false = refl

module _ {Acc Carry : Type 0} (p : Program Acc Carry) (never : NeverClears p) (g : Multigraph) where
  visit_quiet : (values : List Datum) (side : Side) (e word : ℕ) (o : Option (Applied Carry)) → is_clear (delta_in (scatter_by p g values side e word o)) ≡ false
  visit_quiet values side e word None = refl
  visit_quiet values side e word (Some a) = chosen (takes p.scatter_edges side)
    where
      chosen : (t : Bool) → is_clear (delta_in (cond t (Some (p.scatter (near_of g values side e word) a.carry)) None)) ≡ false
      chosen true = never (near_of g values side e word) a.carry
      chosen false = refl

  over_quiet : (s : Configuration) (v e : ℕ) → is_clear (delta_over p g s v e) ≡ false
  over_quiet s v e = let became = outcomes p g s (λ u. true) in
      let values = values_after p g s.values became in
      told_quiet (side_at g v e) (delta_in (from_source p g values s.edges became e)) (delta_in (from_target p g values s.edges became e)) (visit_quiet values Source e _ _) (visit_quiet values Target e _ _)

  all_quiet : (s : Configuration) (v : ℕ) (d : Delta Acc) (edges : List ℕ) → is_clear d ≡ false → is_clear (fold (λ d e. joined p.sum d (delta_over p g s v e)) d edges) ≡ false
  all_quiet s v d [] quiet = quiet
  all_quiet s v d (e ∷ edges) quiet = all_quiet s v (joined p.sum d (delta_over p g s v e)) edges (joined_quiet p.sum d (delta_over p g s v e) quiet (over_quiet s v e))

  -- so what is kept stays
  after_is : (kept : ℕ → Bool) (s : Configuration) (u : ℕ) → kept_after p g kept s u ≡ kept_now kept s u
  after_is kept s u = ap (λ b. kept_now kept s u && not b) (all_quiet s u Nothing (edges_at g u) refl) ∙ and_true (kept_now kept s u)

  -- the costs are those of the distinct vertices that execute and aren't kept at first
  once_each : (cost : ℕ → ℕ) (n : ℕ) (kept : ℕ → Bool) (s : Configuration) → cost_of_rounds p g cost kept s n ≡ sum_by cost (filter (λ u. executes p g s n u && not (kept u)) (vertices g))
  once_each cost zero kept s = cost_none p g cost kept s ∙ sym (nothing_passes cost (λ u. executes p g s 0 u && not (kept u)) (vertices g) (λ u. ap (λ b. b && not (kept u)) (executes_none p g s u)))
  once_each cost (suc m) kept s = by_quiet (is_quiet g s) refl (once_each cost m (kept_now kept s) (round p g s))
    where
      by_quiet : (quiet : Bool) → is_quiet g s ≡ quiet → cost_of_rounds p g cost (kept_now kept s) (round p g s) m ≡ sum_by cost (filter (λ u. executes p g (round p g s) m u && not (kept_now kept s u)) (vertices g))
          → cost_of_rounds p g cost kept s (suc m) ≡ sum_by cost (filter (λ u. executes p g s (suc m) u && not (kept u)) (vertices g))
      by_quiet true quiet rest = cost_stop p g cost kept s (suc m) quiet ∙ sym (nothing_passes cost (λ u. executes p g s (suc m) u && not (kept u)) (vertices g) (λ u. ap (λ b. b && not (kept u)) (executes_stop p g s (suc m) u quiet)))
      by_quiet false quiet rest = let later = executes p g (round p g s) m in
          cost_go p g cost kept s (suc m) m quiet (omega arith)
          ∙ ap (λ n. sum_by cost (unkept g kept s) + n) (cost_agree p g cost cost (λ u. refl) m (kept_after p g kept s) (kept_now kept s) (round p g s) (after_is kept s) ∙ rest)
          ∙ ap (λ xs. sum_by cost xs + sum_by cost (filter (λ u. later u && not (kept_now kept s u)) (vertices g))) (both_tests (is_signalled s) (λ u. not (kept u)) (vertices g))
          ∙ ap (λ n. n + sum_by cost (filter (λ u. later u && not (kept_now kept s u)) (vertices g))) (sum_passing cost (λ u. is_signalled s u && not (kept u)) (vertices g))
          ∙ ap (λ n. sum_by (λ u. cond (is_signalled s u && not (kept u)) (cost u) 0) (vertices g) + n) (sum_passing cost (λ u. later u && not (kept_now kept s u)) (vertices g))
          ∙ sym (sum_of_both (λ u. cond (is_signalled s u && not (kept u)) (cost u) 0) (λ u. cond (later u && not (kept_now kept s u)) (cost u) 0) (vertices g))
          ∙ sum_agree (λ u. cond (is_signalled s u && not (kept u)) (cost u) 0 + cond (later u && not (kept_now kept s u)) (cost u) 0) (λ u. cond (executes p g s (suc m) u && not (kept u)) (cost u) 0)
          (λ u. taken_once (kept u) (is_signalled s u) (later u) (cost u) ∙ ap (λ b. cond (b && not (kept u)) (cost u) 0) (sym (executes_go p g s (suc m) m u quiet (omega arith)))) (vertices g)
          ∙ sym (sum_passing cost (λ u. executes p g s (suc m) u && not (kept u)) (vertices g))

module _ {Acc Carry : Type 0} (p : Program Acc Carry) where
  pub are_distinct : GathersAreDistinct p
  are_distinct never g s limit = let once : cached_gathers p g s limit ≡ sum_by (gather_degree p g) (filter (executes p g s limit) (vertices g)) =
      once_each p never g (gather_degree p g) limit (λ u. false) s ∙ ap (sum_by (gather_degree p g)) (filter_agree (λ u. executes p g s limit u && true) (executes p g s limit) (λ u. and_true (executes p g s limit u)) (vertices g)) in
      record { once = once; at_most = omega (arith, once, passing_within (gather_degree p g) (executes p g s limit) (vertices g)) }
