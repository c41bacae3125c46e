-- The graph alone determines the meanings.
use Rattle.std.proofs.Common.{◌≡◌, ◌≢◌, ℕ, ◌⊎◌, Bool, true, false, refl, sym, ◌∙◌}
use Rattle.std.proofs.Common.{ap, arith, inl, inr}
use Rattle.std.specs.Prelude.{slice_index, ◌==◌}
use Rattle.std.proofs.lemmas.Bool.{eqb-true, eqb-false}
use Rattle.pg_graph.specs.Multigraph.{Multigraph}
use Rattle.pg_law.specs.declared.values.Datum.{Datum}
use Rattle.pg_law.specs.Values.{two}
use Rattle.pg_law.specs.Words.{greatest}
use Rattle.pg_paths.specs.Weak.{IsLeastId}
use Rattle.pg_paths.specs.Walks.{IsWeightTo, IsOutOfReach, IsLeastWeight}
use Rattle.pg_paths.specs.Tight.{IsLeastIdBefore, IsBranch}

pub id_unique : (g : Multigraph) (v a b : ℕ) → IsLeastId g v a → IsLeastId g v b → a ≡ b
id_unique g v a b la lb = omega (arith, la.least b lb.member, lb.least a la.member)

-- a vertex has one least weight
pub least_unique : (g : Multigraph) (source v a b : ℕ) → IsLeastWeight g source v a
    → IsLeastWeight g source v b → a ≡ b
least_unique g source v a b la lb = by_both la.attained lb.attained
  where
    by_both : IsWeightTo g source v a ⊎ ((a ≡ greatest) × IsOutOfReach g source v)
        → IsWeightTo g source v b ⊎ ((b ≡ greatest) × IsOutOfReach g source v) → a ≡ b
    by_both (inl wa) (inl wb) = omega (arith, la.least b wb, lb.least a wa)
    by_both (inl wa) (inr (most, none)) = absurd (none (a, wa))
    by_both (inr (most, none)) (inl wb) = absurd (none (b, wb))
    by_both (inr (most, none)) (inr (also, nothing)) = most ∙ sym also

before_unique : (g : Multigraph) (source v a b : ℕ) → IsLeastIdBefore g source v a
    → IsLeastIdBefore g source v b → a ≡ b
before_unique g source v a b la lb = omega (arith, la.least b lb.member, lb.least a la.member)

same_pair : (a b : Datum) → a.first ≡ b.first → a.second ≡ b.second → a ≡ b
same_pair a b first second = ap (λ x. two x a.second) first ∙ ap (λ y. two b.first y) second

pub branch_unique : (g : Multigraph) (source v : ℕ) (a b : Datum) → IsBranch g source v a
    → IsBranch g source v b → a ≡ b
branch_unique g source v a b la lb = by_source (slice_index g.ids v == source) refl
  where
    by_attained : slice_index g.ids v ≢ source
        → IsWeightTo g source v a.first ⊎ ((a.first ≡ greatest) × IsOutOfReach g source v) → a ≡ b
    by_attained other (inl way) = same_pair a b
        (least_unique g source v a.first b.first la.weight lb.weight)
        (before_unique g source v a.second b.second (la.before other (a.first, way))
        (lb.before other (a.first, way)))
    by_attained other (inr (most, none)) = la.apart none ∙ sym (lb.apart none)

    by_source : (t : Bool) → (slice_index g.ids v == source) ≡ t → a ≡ b
    by_source true at = la.root (eqb-true _ _ at) ∙ sym (lb.root (eqb-true _ _ at))
    by_source false other = by_attained (eqb-false _ _ other) la.weight.attained
