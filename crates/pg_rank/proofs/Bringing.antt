-- What a vertex gathers is what the edges that lead to it bring.
use Rattle.std.proofs.Common.{◌≡◌, ℕ, ◌+◌, ◌%◌, ◌^◌, ◌<◌, Bool, true, false, cond, length, refl}
use Rattle.std.proofs.Common.{sym, ◌∙◌}
use Rattle.std.proofs.Common.{arith}
use Rattle.std.specs.Prelude.{◌==◌, ◌||◌}
use Rattle.std.proofs.lemmas.Bool.{eqb-true}
use Rattle.pg_graph.specs.declared.edge.Side.TheVariants.{Source, Target}
use Rattle.pg_graph.specs.Multigraph.{Multigraph, IsMultigraph, edge_at, end_at, side_at, is_at}
use Rattle.pg_law.specs.Configuration.{Configuration}
use Rattle.pg_law.specs.Round.{fresh}
use Rattle.pg_steps.proofs.Folds.{fold_both}
use Rattle.pg_steps.proofs.Gathering.{fresh_folds, summed}
use Rattle.pg_rank.specs.Shares.{joined}
use Rattle.pg_rank.specs.PageRank.{page_rank}
use Rattle.pg_rank.specs.RankEquation.{brought_over, brought_to}

pub fresh_brought : (tolerance : ℕ) (g : Multigraph) → IsMultigraph g → (s : Configuration) (v : ℕ)
    → fresh (page_rank tolerance) g s v ≡ brought_to g s.values v
fresh_brought tolerance g graph s v = fresh_folds (page_rank tolerance) g graph s v
    ∙ fold_both (λ (a b : ℕ). a ≡ b % 2 ^ 64)
    (λ a e. summed (page_rank tolerance) g graph s a (side_at g v e) e)
    (λ b e. b + brought_over g s.values e) (λ e. is_at v (edge_at g e))
    (λ e. end_at g Target e == v) (length g.edges)
    (λ a b e h same. by_ends a b e h same (end_at g Source e == v) (end_at g Target e == v)
    refl refl) 0 0 refl
  where
    added : (a b x : ℕ) → a ≡ b % 2 ^ 64 → joined a x ≡ (b + x) % 2 ^ 64
    added a b x same = omega (arith, same)

    by_ends : (a b e : ℕ) → e < length g.edges → a ≡ b % 2 ^ 64 → (src dst : Bool)
        → (end_at g Source e == v) ≡ src → (end_at g Target e == v) ≡ dst
        → cond (src || dst) (summed (page_rank tolerance) g graph s a (cond src Source Target) e) a
        ≡ cond dst (b + brought_over g s.values e) b % 2 ^ 64
    by_ends a b e h same true true at_src at_dst = absurd ((graph.edge e h).apart
        (eqb-true _ _ at_src ∙ sym (eqb-true _ _ at_dst)))
    by_ends a b e h same true false at_src at_dst = same
    by_ends a b e h same false true at_src at_dst = added a b (brought_over g s.values e) same
    by_ends a b e h same false false at_src at_dst = same
