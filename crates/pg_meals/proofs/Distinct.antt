-- Lists of edges without repeats, all of them at one vertex.
use Rattle.std.proofs.Common.{ℕ, ◌<◌, ◌≡◌, ◌≢◌, ◌⊎◌, List, [], ◌∷◌}
use Rattle.pg_graph.specs.declared.edge.Side.TheVariants.{Source, Target}
use Rattle.pg_meals.specs.Shape.{Shape}

-- lists without repeats, and what holds of each item
abbrev pub IsNot : ℕ → List ℕ → Type 0
IsNot e [] = Unit {0}
IsNot e (x ∷ xs) = (x ≢ e) × IsNot e xs

abbrev pub Distinct : List ℕ → Type 0
Distinct [] = Unit {0}
Distinct (x ∷ xs) = IsNot x xs × Distinct xs

abbrev pub EdgesOf : Shape → ℕ → List ℕ → Type 0
EdgesOf g u [] = Unit {0}
EdgesOf g u (e ∷ es) = (e < g.edges) × ((g.end Source e ≡ u) ⊎ (g.end Target e ≡ u)) × EdgesOf g u es

-- the edge stands in the list
abbrev pub IsIn : ℕ → List ℕ → Type 0
IsIn e [] = ⊥
IsIn e (x ∷ xs) = (e ≡ x) ⊎ IsIn e xs
