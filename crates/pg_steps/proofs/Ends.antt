-- The two ends of an edge.
use Rattle.std.proofs.Common.{◌≡◌, ℕ, ◌<◌, Bool, true, false, cond, length, refl, ◌∙◌, ap}
use Rattle.std.specs.Prelude.{◌==◌, ◌||◌}
use Rattle.std.proofs.lemmas.Bool.{eq-eqb, ne_eqb, eqb-true}
use Rattle.pg_graph.specs.declared.edge.Side.{Side}
use Rattle.pg_graph.specs.declared.edge.Side.TheVariants.{Source, Target}
use Rattle.pg_graph.specs.Multigraph.{Multigraph, IsMultigraph, edge_at, end_at, end_of, side_at}
use Rattle.pg_graph.specs.Multigraph.{is_at, opposite}

pub opposite_twice : (side : Side) → opposite (opposite side) ≡ side
opposite_twice Source = refl
opposite_twice Target = refl

module _ (g : Multigraph) (graph : IsMultigraph g) where
  pub ends_within : (side : Side) (e : ℕ) → e < length g.edges → end_at g side e < length g.ids
  ends_within Source e h = (graph.edge e h).src
  ends_within Target e h = (graph.edge e h).dst

  pub at_end : (side : Side) (e : ℕ) → is_at (end_at g side e) (edge_at g e) ≡ true
  at_end Source e = ap (λ b. b || (end_at g Target e == end_at g Source e))
      (eq-eqb (end_at g Source e) (end_at g Source e) refl)
  at_end Target e = either (end_at g Source e == end_at g Target e)
    where
      either : (b : Bool) → (b || (end_at g Target e == end_at g Target e)) ≡ true
      either true = refl
      either false = eq-eqb (end_at g Target e) (end_at g Target e) refl

  -- an end stands at its own side
  pub side_of_end : (side : Side) (e : ℕ) → e < length g.edges
      → side_at g (end_at g side e) e ≡ side
  side_of_end Source e h = ap (λ b. cond b Source Target)
      (eq-eqb (end_at g Source e) (end_at g Source e) refl)
  side_of_end Target e h = ap (λ b. cond b Source Target)
      (ne_eqb (end_at g Source e) (end_at g Target e) (graph.edge e h).apart)

  -- a vertex at an edge is the end at its side
  pub end_of_side : (v e : ℕ) → is_at v (edge_at g e) ≡ true → end_at g (side_at g v e) e ≡ v
  end_of_side v e at = by_source (end_at g Source e == v) refl
    where
      by_source : (b : Bool) → (end_at g Source e == v) ≡ b → end_at g (side_at g v e) e ≡ v
      by_source true src = ap (λ b. end_of (cond b Source Target) (edge_at g e)) src
          ∙ eqb-true (end_at g Source e) v src
      by_source false src = ap (λ b. end_of (cond b Source Target) (edge_at g e)) src
          ∙ eqb-true (end_at g Target e) v (rw src at at)
