-- The fresh gather of a vertex, edge by edge.
use Rattle.std.proofs.Common.{◌≡◌, ℕ, ◌<◌, Bool, true, false, cond, length, refl, sym, ap, ◌∙◌}
use Rattle.std.proofs.Common.{subst}
use Rattle.pg_graph.specs.declared.edge.Side.{Side}
use Rattle.pg_graph.specs.Multigraph.{Multigraph, IsMultigraph, edge_at, edges_at, end_at, side_at}
use Rattle.pg_graph.specs.Multigraph.{is_at, takes}
use Rattle.std.specs.Prelude.{slice_index, fold}
use Rattle.pg_law.specs.Program.{Program}
use Rattle.pg_law.specs.Configuration.{Configuration}
use Rattle.pg_law.specs.Round.{near_of, fresh}
use Rattle.pg_steps.proofs.Ends.{at_end, side_of_end, end_of_side}
use Rattle.pg_steps.proofs.Folds.{fold_over, fold_reaches, fold_same, fold_filter}

module _ {Acc Carry : Type 0} (p : Program Acc Carry) (g : Multigraph) (graph : IsMultigraph g)
    (s : Configuration) where
  -- what comes to the end at this side
  abbrev pub over : Side → ℕ → Acc
  over side e = p.gather (near_of g s.values side e (slice_index s.edges e))

  -- the sum with what comes over the edge, where the side gathers
  abbrev pub summed : Acc → Side → ℕ → Acc
  summed a side e = cond (takes p.gather_edges side) (p.sum a (over side e)) a

  -- the fresh gather as a fold over all edges at the vertex
  pub fresh_folds : (v : ℕ) → fresh p g s v
      ≡ fold (λ a e. summed a (side_at g v e) e) p.empty (edges_at g v)
  fresh_folds v = fold_filter (λ a e. p.sum a (over (side_at g v e) e))
      (λ e. takes p.gather_edges (side_at g v e)) p.empty (edges_at g v)

  -- what each gather keeps holds of the sum
  pub fresh_keeps : (P : Acc → Type 0) (v : ℕ) → P p.empty
      → ((a : Acc) (side : Side) (e : ℕ) → e < length g.edges → end_at g side e ≡ v
      → takes p.gather_edges side ≡ true → P a → P (p.sum a (over side e)))
      → P (fresh p g s v)
  fresh_keeps P v none keeps = subst P (sym (fresh_folds v)) (fold_over P
      (λ a e. summed a (side_at g v e) e) (λ e. is_at v (edge_at g e)) (length g.edges)
      (λ a e h at before. chosen a (side_at g v e) e h (end_of_side g graph v e at)
      (takes p.gather_edges (side_at g v e)) refl before) p.empty none)
    where
      chosen : (a : Acc) (side : Side) (e : ℕ) → e < length g.edges → end_at g side e ≡ v
          → (t : Bool) → takes p.gather_edges side ≡ t → P a → P (cond t (p.sum a (over side e)) a)
      chosen a side e h is true gathers before = keeps a side e h is gathers before
      chosen a side e h is false gathers before = before

  -- what one gather makes true, and all others keep, holds of the sum
  pub fresh_reaches : (P : Acc → Type 0) (side : Side) (e : ℕ) → e < length g.edges
      → takes p.gather_edges side ≡ true → ((a b : Acc) → P a → P (p.sum a b))
      → ((a : Acc) → P (p.sum a (over side e))) → P (fresh p g s (end_at g side e))
  fresh_reaches P side e h gathers keeps makes = let v = end_at g side e in
      subst P (sym (fresh_folds v)) (fold_reaches P (λ a e. summed a (side_at g v e) e)
      (λ e. is_at v (edge_at g e)) e
      (λ a x before. kept (takes p.gather_edges (side_at g v x)) a (over (side_at g v x) x) before)
      (λ a. subst (λ (i : Side). P (summed a i e)) (sym (side_of_end g graph side e h)) (made a))
      (at_end g graph side e) (length g.edges) h p.empty)
    where
      kept : (t : Bool) (a b : Acc) → P a → P (cond t (p.sum a b) a)
      kept true a b before = keeps a b before
      kept false a b before = before

      made : (a : Acc) → P (summed a side e)
      made a = let Q : Bool → Type 0 = λ t. P (cond t (p.sum a (over side e)) a) in
          subst Q (sym gathers) (makes a)

-- two states in which the same comes to a vertex over each of its edges
pub fresh_same : {Acc Carry : Type 0} (p : Program Acc Carry) (g : Multigraph)
    → IsMultigraph g → (s t : Configuration) (v : ℕ)
    → ((side : Side) (e : ℕ) → e < length g.edges → end_at g side e ≡ v
    → takes p.gather_edges side ≡ true
    → p.gather (near_of g s.values side e (slice_index s.edges e))
    ≡ p.gather (near_of g t.values side e (slice_index t.edges e)))
    → fresh p g s v ≡ fresh p g t v
fresh_same {Acc = Acc} p g graph s t v same = fresh_folds p g graph s v
    ∙ fold_same (λ a e. summed p g graph s a (side_at g v e) e)
    (λ a e. summed p g graph t a (side_at g v e) e) (λ e. is_at v (edge_at g e)) (length g.edges)
    (λ a e h at. chosen a (side_at g v e) e h (end_of_side g graph v e at)
    (takes p.gather_edges (side_at g v e)) refl) p.empty
    ∙ sym (fresh_folds p g graph t v)
  where
    chosen : (a : Acc) (side : Side) (e : ℕ) → e < length g.edges → end_at g side e ≡ v
        → (b : Bool) → takes p.gather_edges side ≡ b
        → cond b (p.sum a (over p g graph s side e)) a
        ≡ cond b (p.sum a (over p g graph t side e)) a
    chosen a side e h is true gathers = ap (p.sum a) (same side e h is gathers)
    chosen a side e h is false gathers = refl
