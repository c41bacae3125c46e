-- Changes over edges, one after another.
use Rattle.std.proofs.Common.{◌≡◌, ℕ, List, [], ◌∷◌, refl, sym, ◌∙◌, ap}
use Rattle.std.specs.Prelude.{fold}
use Rattle.std.specs.List.{AllByRecursion}
use Rattle.pg_law.specs.declared.values.Delta.{Delta}
use Rattle.pg_law.specs.declared.values.Delta.TheVariants.{Nothing, Add, Clear}
use Rattle.pg_law.specs.Program.{Program}
use Rattle.pg_law.specs.Laws.{IsLawful, IsDelta, LeadsTo}
use Rattle.pg_law.specs.Monoid.{IsCommutativeMonoid}
use Rattle.pg_delta.specs.Deltas.{joined, joined_over, summed_over}
use Rattle.pg_delta.specs.Leading.{IsChange, DeltasLead}

-- nothing is joined from the right
pub joined-nothing : {A : Type 0} (sum : A → A → A) (d : Delta A) → joined sum d Nothing ≡ d
joined-nothing sum Nothing = refl
joined-nothing sum (Add a) = refl
joined-nothing sum Clear = refl

module _ {Acc Carry : Type 0} (p : Program Acc Carry) (law : IsLawful p) where
  pub joined_own : (d e : Delta Acc) → IsDelta p.IsAcc d → IsDelta p.IsAcc e → IsDelta p.IsAcc (joined p.sum d e)
  joined_own Nothing e od oe = oe
  joined_own (Add x) Nothing od oe = od
  joined_own (Add x) (Add y) od oe = law.closed.sum x y od oe
  joined_own (Add x) Clear od oe = tt
  joined_own Clear e od oe = tt

  joined_comm : (d e : Delta Acc) → IsDelta p.IsAcc d → IsDelta p.IsAcc e → joined p.sum d e ≡ joined p.sum e d
  joined_comm Nothing e od oe = sym (joined-nothing p.sum e)
  joined_comm (Add x) Nothing od oe = refl
  joined_comm (Add x) (Add y) od oe = ap Add (law.monoidal.sum_comm x y od oe)
  joined_comm (Add x) Clear od oe = refl
  joined_comm Clear Nothing od oe = refl
  joined_comm Clear (Add y) od oe = refl
  joined_comm Clear Clear od oe = refl

  joined_assoc : (d e f : Delta Acc) → IsDelta p.IsAcc d → IsDelta p.IsAcc e → IsDelta p.IsAcc f → joined p.sum (joined p.sum d e) f ≡ joined p.sum d (joined p.sum e f)
  joined_assoc Nothing e f od oe of = refl
  joined_assoc (Add x) Nothing f od oe of = refl
  joined_assoc (Add x) (Add y) Nothing od oe of = refl
  joined_assoc (Add x) (Add y) (Add z) od oe of = ap Add (law.monoidal.sum_assoc x y z od oe of)
  joined_assoc (Add x) (Add y) Clear od oe of = refl
  joined_assoc (Add x) Clear f od oe of = refl
  joined_assoc Clear e f od oe of = refl

  -- deltas don't depend on order or grouping
  pub delta_monoid : IsCommutativeMonoid (IsDelta p.IsAcc) Nothing (joined p.sum)
  delta_monoid = record {
    unit_own = tt;
    closed = joined_own;
    left_unit = λ d own. refl;
    comm = joined_comm;
    assoc = joined_assoc;
  }

  -- a change passes another value
  past : (a b x : Acc) → p.IsAcc a → p.IsAcc b → p.IsAcc x → p.sum (p.sum a b) x ≡ p.sum (p.sum a x) b
  past a b x oa ob ox = law.monoidal.sum_assoc a b x oa ob ox ∙ ap (p.sum a) (law.monoidal.sum_comm b x ob ox) ∙ sym (law.monoidal.sum_assoc a x b oa ox ob)

  -- two changes side by side
  both_lead : (a a' b b' : Acc) (d e : Delta Acc) → p.IsAcc a → p.IsAcc b → IsDelta p.IsAcc d → IsDelta p.IsAcc e
      → LeadsTo p.sum a d a' → LeadsTo p.sum b e b' → LeadsTo p.sum (p.sum a b) (joined p.sum d e) (p.sum a' b')
  both_lead a a' b b' Nothing Nothing oa ob od oe l m = ap (λ x. p.sum x b) l ∙ ap (p.sum a') m
  both_lead a a' b b' Nothing (Add y) oa ob od oe l m = law.monoidal.sum_assoc a b y oa ob oe ∙ ap (p.sum a) m ∙ ap (λ x. p.sum x b') l
  both_lead a a' b b' Nothing Clear oa ob od oe l m = tt
  both_lead a a' b b' (Add x) Nothing oa ob od oe l m = past a b x oa ob od ∙ ap (λ z. p.sum z b) l ∙ ap (p.sum a') m
  both_lead a a' b b' (Add x) (Add y) oa ob od oe l m = sym (law.monoidal.sum_assoc (p.sum a b) x y (law.closed.sum a b oa ob) od oe)
      ∙ ap (λ z. p.sum z y) (past a b x oa ob od) ∙ law.monoidal.sum_assoc (p.sum a x) b y (law.closed.sum a x oa od) ob oe
      ∙ ap (p.sum (p.sum a x)) m ∙ ap (λ z. p.sum z b') l
  both_lead a a' b b' (Add x) Clear oa ob od oe l m = tt
  both_lead a a' b b' Clear e oa ob od oe l m = tt

  module _ (before after : ℕ → Acc) (delta : ℕ → Delta Acc) where
    lead_from : (a : Acc) (d : Delta Acc) (a' : Acc) (edges : List ℕ) → p.IsAcc a → IsDelta p.IsAcc d → LeadsTo p.sum a d a' → AllByRecursion (λ e. IsChange p (before e) (delta e) (after e)) edges
        → LeadsTo p.sum (fold (λ acc e. p.sum acc (before e)) a edges) (fold (λ d e. joined p.sum d (delta e)) d edges) (fold (λ acc e. p.sum acc (after e)) a' edges)
    lead_from a d a' [] oa od l all = l
    lead_from a d a' (e ∷ edges) oa od l all = lead_from (p.sum a (before e)) (joined p.sum d (delta e)) (p.sum a' (after e)) edges (law.closed.sum a (before e) oa all.0.before_own) (joined_own d (delta e) od all.0.delta_own)
        (both_lead a a' (before e) (after e) d (delta e) oa all.0.before_own od all.0.delta_own l all.0.leads) all.1

  pub deltas_lead_is : DeltasLead p
  deltas_lead_is before after delta edges all = lead_from before after delta p.empty Nothing p.empty edges law.closed.empty tt refl all
