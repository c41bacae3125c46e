-- Distances that no edge could shorten are least weights.
use Rattle.std.proofs.Common.{◌≡◌, ℕ, zero, suc, ◌+◌, ◌*◌, ◌^◌, ◌<◌, ◌≤◌, ◌⊎◌, Bool, true, false}
use Rattle.std.proofs.Common.{cond, List, [], ◌∷◌, length, refl, sym, ◌∙◌, ap, arith, inl, inr}
use Rattle.std.specs.Prelude.{nat_lt, not, ◌&&◌, slice_index}
use Rattle.std.proofs.lemmas.Bool.{true≢false, cases_order, lt-ltb, ltb-true}
use Rattle.pg_graph.specs.declared.edge.Side.TheVariants.{Source, Target}
use Rattle.pg_graph.specs.Multigraph.{Multigraph, IsMultigraph, edge_at, end_at}
use Rattle.pg_law.specs.Words.{greatest}
use Rattle.pg_steps.proofs.Ends.{ends_within}
use Rattle.pg_paths.specs.Plus.{plus}
use Rattle.pg_paths.specs.Walks.{IsWalk, weight_of, IsWeightTo, IsReachable, IsOutOfReach}
use Rattle.pg_paths.specs.Walks.{IsLeastWeight}
use Rattle.pg_paths.proofs.Sums.{sum_below, sum_ones, sums_within, sums_less}
use Rattle.pg_paths.proofs.Walking.{IsHeardWeight, weight_first}

-- a number that passes, or none does
look : (test : ℕ → Bool) (n : ℕ)
    → ((e : ℕ) × (e < n) × (test e ≡ true)) ⊎ ((e : ℕ) → e < n → test e ≡ false)
look test zero = inr (λ e h. absurd (omega arith))
look test (suc n) = by_last (test n) refl (look test n)
  where
    by_last : (b : Bool) → test n ≡ b
        → ((e : ℕ) × (e < n) × (test e ≡ true)) ⊎ ((e : ℕ) → e < n → test e ≡ false)
        → ((e : ℕ) × (e < suc n) × (test e ≡ true)) ⊎ ((e : ℕ) → e < suc n → test e ≡ false)
    by_last true is before = inl (n, omega arith, is)
    by_last false is (inl (e, h, passes)) = inl (e, omega arith, passes)
    by_last false is (inr none) = inr (λ e h. by_place e h (cases_order e n))
      where
        by_place : (e : ℕ) → e < suc n → (e ≡ n) ⊎ ((e < n) ⊎ (n < e)) → test e ≡ false
        by_place e h (inl same) = ap test same ∙ is
        by_place e h (inr (inl below)) = none e below
        by_place e h (inr (inr above)) = absurd (omega arith)

module _ (g : Multigraph) (graph : IsMultigraph g) (distance : ℕ → ℕ)
    (short : (e : ℕ) → e < length g.edges
    → distance (end_at g Target e) ≤ plus (distance (end_at g Source e)) (edge_at g e).weight) where
  -- no walk is shorter than the distance
  walk_within : (walk : List ℕ) (u v : ℕ) → IsWalk g walk u v
      → distance v ≤ distance u + weight_of g walk
  unfolding IsWalk
  walk_within [] u v is = omega (arith, ap distance is)
  walk_within (e ∷ walk) u v (h, start, rest) = omega (
    arith,
    ap distance start,
    short e h,
    weight_first g walk e,
    walk_within walk (end_at g Target e) v rest,
  )

  -- the vertices that are less than so many times 2^32 away
  abbrev within : ℕ → ℕ → Bool
  within k v = nat_lt (distance v) ((k + 1) * 2 ^ 32)

  abbrev counted : ℕ → ℕ → ℕ
  counted k v = cond (within k v) 1 0

  abbrev count : ℕ → ℕ
  count k = sum_below (counted k) (length g.ids)

  wider : (k v : ℕ) → counted k v ≤ counted (k + 1) v
  wider k v = by_test (within k v) refl
    where
      by_test : (b : Bool) → within k v ≡ b → cond b 1 0 ≤ counted (k + 1) v
      by_test true is = rw (lt-ltb (distance v) ((k + 1 + 1) * 2 ^ 32)
          (omega (arith, ltb-true _ _ is))) (omega arith)
      by_test false is = omega arith

  -- an edge that leaves them
  abbrev leaves : ℕ → ℕ → Bool
  leaves k e = within k (end_at g Source e) && not (within k (end_at g Target e))

  both : (a b : Bool) → (a && not b) ≡ true → (a ≡ true) × (b ≡ false)
  both true true h = absurd (true≢false (sym h))
  both true false h = (refl, refl)
  both false b h = absurd (true≢false (sym h))

  -- it leads to one of the next wider bound
  grows : (k e : ℕ) → e < length g.edges → leaves k e ≡ true → count k < count (k + 1)
  grows k e h out = by_both
      (both (within k (end_at g Source e)) (within k (end_at g Target e)) out)
    where
      by_both : (within k (end_at g Source e) ≡ true) × (within k (end_at g Target e) ≡ false)
          → count k < count (k + 1)
      by_both (src, dst) = sums_less (counted k) (counted (k + 1)) (length g.ids)
          (end_at g Target e) (λ v h. wider k v) (ends_within g graph Target e h)
          (rw (
            dst,
            lt-ltb (distance (end_at g Target e)) ((k + 1 + 1) * 2 ^ 32)
                (omega (arith, ltb-true _ _ src, short e h, (graph.edge e h).weight)),
          ) (omega arith))

  count_within : (k : ℕ) → count k ≤ length g.ids
  count_within k = omega (
    arith,
    sum_ones (length g.ids),
    sums_within (counted k) (λ v. 1) (length g.ids) (λ v h. at_most (within k v)),
  )
    where
      at_most : (b : Bool) → cond b 1 0 ≤ 1
      at_most true = omega arith
      at_most false = omega arith

  -- no edge leaves them
  abbrev IsClosed : ℕ → Type 0
  IsClosed k = (e : ℕ) → e < length g.edges → leaves k e ≡ false

  -- so there is a bound, and not a wide one, that no edge leaves
  climbs : (n k : ℕ) → length g.ids < count k + n → (m : ℕ) × (m ≤ k + n) × IsClosed m
  climbs zero k h = absurd (omega (arith, h, count_within k))
  climbs (suc n) k h = by_look (look (leaves k) (length g.edges))
      (λ more. climbs n (k + 1) (omega (arith, h, more)))
    where
      further : (m : ℕ) × (m ≤ k + 1 + n) × IsClosed m → (m : ℕ) × (m ≤ k + suc n) × IsClosed m
      further (m, low, closed) = (m, omega (arith, low), closed)

      by_look : ((e : ℕ) × (e < length g.edges) × (leaves k e ≡ true)) ⊎ IsClosed k
          → (count k < count (k + 1) → (m : ℕ) × (m ≤ k + 1 + n) × IsClosed m)
          → (m : ℕ) × (m ≤ k + suc n) × IsClosed m
      by_look (inr none) later = (k, omega arith, none)
      by_look (inl (e, h, out)) later = further (later (grows k e h out))

  stays : (m : ℕ) → IsClosed m → (walk : List ℕ) (u v : ℕ) → IsWalk g walk u v
      → within m u ≡ true → within m v ≡ true
  unfolding IsWalk
  stays m closed [] u v is inside = ap (within m) (sym is) ∙ inside
  stays m closed (e ∷ walk) u v (h, start, rest) inside = stays m closed walk (end_at g Target e) v
      rest (kept (within m (end_at g Source e)) (within m (end_at g Target e))
      (ap (within m) start ∙ inside) (closed e h))
    where
      kept : (a b : Bool) → a ≡ true → (a && not b) ≡ false → b ≡ true
      kept true true is none = refl
      kept true false is none = absurd (true≢false none)
      kept false b is none = absurd (true≢false (sym is))

  -- what a walk from distance 0 reaches has less than the greatest word
  reached_small : (walk : List ℕ) (u v : ℕ) → IsWalk g walk u v → distance u ≡ 0
      → distance v < greatest
  reached_small walk u v joins none = by_bound (climbs (length g.ids + 1) 0 (omega arith))
    where
      by_bound : (m : ℕ) × (m ≤ 0 + (length g.ids + 1)) × IsClosed m → distance v < greatest
      by_bound (m, low, closed) = omega (
        arith,
        low,
        graph.vertex_count,
        ltb-true _ _ (stays m closed walk u v joins
            (lt-ltb (distance u) ((m + 1) * 2 ^ 32) (omega (arith, none)))),
      )

  -- so with distance 0 at the source, that is all that can be reached
  pub reachable_small : (source : ℕ)
      → ((u : ℕ) → u < length g.ids → slice_index g.ids u ≡ source → distance u ≡ 0)
      → (v : ℕ) → IsReachable g source v → distance v < greatest
  reachable_small source starts v (weight, (u, inside, is, walk, joins, weighs)) =
      reached_small walk u v joins (starts u inside is)

  -- and distances of walks are least weights
  pub least_distance : (source : ℕ)
      → ((u : ℕ) → u < length g.ids → slice_index g.ids u ≡ source → distance u ≡ 0)
      → (v : ℕ) → IsHeardWeight g source v (distance v)
      → IsLeastWeight g source v (distance v)
  least_distance source starts v heard = record {
    attained = known heard;
    least = λ other way. below other way;
  }
    where
      nowhere : distance v ≡ greatest → IsOutOfReach g source v
      nowhere most = λ reachable. omega (arith, most, reachable_small source starts v reachable)

      known : IsHeardWeight g source v (distance v) → IsWeightTo g source v (distance v)
          ⊎ ((distance v ≡ greatest) × IsOutOfReach g source v)
      known (inr way) = inl way
      known (inl most) = inr (most, nowhere most)

      below : (other : ℕ) → IsWeightTo g source v other → distance v ≤ other
      below other (u, inside, is, walk, joins, weighs) = omega (
        arith,
        weighs,
        starts u inside is,
        walk_within walk u v joins,
      )
