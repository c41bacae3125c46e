-- Vertices that edges join.
use Rattle.std.proofs.Common.{◌≡◌, ℕ, ◌<◌, ◌⊎◌, List, [], ◌∷◌, ◌++◌, length, refl, sym, subst, ◌^◌}
use Rattle.std.proofs.Common.{arith, inl, inr}
use Rattle.std.specs.Prelude.{min}
use Rattle.std.proofs.lemmas.Bool.{cases_order}
use Rattle.pg_graph.specs.declared.edge.Side.{Side}
use Rattle.pg_graph.specs.Multigraph.{Multigraph, IsMultigraph, end_at, opposite}
use Rattle.pg_paths.specs.Weak.{Joins, AreJoined, IsIdNear}

pub joined_self : (g : Multigraph) (v : ℕ) → AreJoined g v v
unfolding Joins
joined_self g v = ([], refl)

-- one more edge at the far end
joins_more : (g : Multigraph) (edges : List ℕ) (u e : ℕ) (side : Side) → e < length g.edges
    → Joins g edges u (end_at g side e) → Joins g (edges ++ e ∷ []) u (end_at g (opposite side) e)
unfolding Joins
joins_more g [] u e side h is = (h, side, sym is, refl)
joins_more g (x ∷ edges) u e side h (below, way, start, rest) = (
  below,
  way,
  start,
  joins_more g edges (end_at g (opposite way) x) e side h rest,
)

pub near_more : (g : Multigraph) (e : ℕ) (side : Side) (id : ℕ) → e < length g.edges
    → IsIdNear g (end_at g side e) id → IsIdNear g (end_at g (opposite side) e) id
near_more g e side id h (u, below, is, (edges, joins)) = (
  u,
  below,
  is,
  (edges ++ e ∷ [], joins_more g edges u e side h joins),
)

-- an id is a number of 32 bits
pub near_small : (g : Multigraph) → IsMultigraph g → (v id : ℕ) → IsIdNear g v id → id < 2 ^ 32
near_small g graph v id (u, below, is, joined) = let small = graph.id u below in
    omega (arith, small, is)

-- what holds of both holds of the smaller
pub min_either : (Q : ℕ → Type 0) (a b : ℕ) → Q a → Q b → Q (min a b)
min_either Q a b qa qb = by_order (cases_order a b)
  where
    by_order : (a ≡ b) ⊎ ((a < b) ⊎ (b < a)) → Q (min a b)
    by_order (inl same) = let e : min a b ≡ a = omega arith in subst Q (sym e) qa
    by_order (inr (inl below)) = let e : min a b ≡ a = omega arith in subst Q (sym e) qa
    by_order (inr (inr above)) = let e : min a b ≡ b = omega arith in subst Q (sym e) qb
