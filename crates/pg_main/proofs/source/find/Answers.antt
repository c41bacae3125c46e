use Rattle.std.proofs.Common.{◌≡◌, ℕ, Bool, true, false, refl}
use Rattle.std.specs.Prelude.{Contains, IsSome, Option, Some, None, ◌==◌, if◌then◌else◌}
use Rattle.std.specs.List.{list_any}
use Rattle.std.proofs.lemmas.Bool.{both_ways, eqb-true}
use Rattle.std.proofs.lemmas.Map.Views.{Contains-from_any}
use Rattle.pg_graph.specs.Multigraph.{Multigraph}
use Rattle.pg_main.specs.Jobs.{absent_in}
use Rattle.pg_main.proofs.source.find.Goals as goal

nothing : {A : Type 0} (o : Option A) → o ≡ None → IsSome o → ⊥
nothing None is some = both_ways false refl some
nothing (Some a) is some = absurd (cc)

-- an id that stands nowhere among the ids is absent
absent : (g : Multigraph) (source : ℕ) → (Contains g.ids source → ⊥) → absent_in g (Some source) ≡ Some source
absent g source not = by_test (list_any (λ id. source == id) g.ids) refl
  where
    by_test : (b : Bool) → list_any (λ id. source == id) g.ids ≡ b → (if b then None else Some source) ≡ Some source
    by_test false is = refl
    by_test true is = absurd (not (Contains-from_any {eq = λ a b. a == b} eqb-true source g.ids is))

pub returns-in-None-clause-absent : goal.returns-in-None-clause-absent
returns-in-None-clause-absent c = (c.args.source, refl, absent c.args.graph.now c.args.source (λ h. nothing c.number_of.result c.in-None.is (c.number_of.ensures.found.1 h)))
