-- Walks that get one edge longer.
use Rattle.std.proofs.Common.{◌≡◌, ℕ, ◌+◌, ◌<◌, ◌⊎◌, List, [], ◌∷◌, ◌++◌, length, refl, sym}
use Rattle.std.proofs.Common.{arith, inl, inr}
use Rattle.std.proofs.lemmas.Bool.{cases_order}
use Rattle.std.proofs.lemmas.List.Sums.{sum_by-append}
use Rattle.pg_graph.specs.declared.edge.Side.TheVariants.{Source, Target}
use Rattle.pg_graph.specs.Multigraph.{Multigraph, edge_at, end_at}
use Rattle.pg_law.specs.Words.{greatest}
use Rattle.pg_paths.specs.Plus.{plus}
use Rattle.pg_paths.specs.Walks.{IsWalk, weight_of, IsWeightTo}

-- the weight of a walk to v, or the greatest word
abbrev pub IsHeardWeight : Multigraph → ℕ → ℕ → ℕ → Type 0
IsHeardWeight g source v weight = (weight ≡ greatest) ⊎ IsWeightTo g source v weight

-- one more edge at the far end
walk_more : (g : Multigraph) (walk : List ℕ) (u e : ℕ) → e < length g.edges
    → IsWalk g walk u (end_at g Source e) → IsWalk g (walk ++ e ∷ []) u (end_at g Target e)
unfolding IsWalk
walk_more g [] u e h is = (h, sym is, refl)
walk_more g (x ∷ walk) u e h (below, start, rest) = (
  below,
  start,
  walk_more g walk (end_at g Target x) e h rest,
)

weight_more : (g : Multigraph) (walk : List ℕ) (e : ℕ)
    → weight_of g (walk ++ e ∷ []) ≡ weight_of g walk + (edge_at g e).weight
weight_more g walk e = omega (arith, sum_by-append (λ e. (edge_at g e).weight) walk (e ∷ []))

pub weight_first : (g : Multigraph) (walk : List ℕ) (e : ℕ)
    → weight_of g (e ∷ walk) ≡ (edge_at g e).weight + weight_of g walk
weight_first g walk e = omega (arith, sum_by-append (λ e. (edge_at g e).weight) (e ∷ []) walk)

pub heard_more : (g : Multigraph) (source e weight : ℕ) → e < length g.edges
    → IsHeardWeight g source (end_at g Source e) weight
    → IsHeardWeight g source (end_at g Target e) (plus weight (edge_at g e).weight)
heard_more g source e weight h (inl most) = inl (omega (arith, most))
heard_more g source e weight h (inr (u, inside, is, walk, joins, weighs)) =
    by_order (cases_order (weight + (edge_at g e).weight) greatest)
  where
    exact : weight + (edge_at g e).weight < greatest
        → IsHeardWeight g source (end_at g Target e) (plus weight (edge_at g e).weight)
    exact small = inr (
      u,
      inside,
      is,
      walk ++ e ∷ [],
      walk_more g walk u e h joins,
      omega (arith, weight_more g walk e, weighs, small),
    )

    by_order : (weight + (edge_at g e).weight ≡ greatest)
        ⊎ ((weight + (edge_at g e).weight < greatest)
        ⊎ (greatest < weight + (edge_at g e).weight))
        → IsHeardWeight g source (end_at g Target e) (plus weight (edge_at g e).weight)
    by_order (inl same) = inl (omega (arith, same))
    by_order (inr (inl below)) = exact below
    by_order (inr (inr above)) = inl (omega (arith, above))
