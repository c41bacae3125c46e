-- Changes to a gather, after PowerGraph's delta caching.
use Rattle.std.specs.Prelude.{ℕ, List, fold}
use Rattle.pg_law.specs.declared.values.Delta.{Delta}
use Rattle.pg_law.specs.declared.values.Delta.TheVariants.{Nothing, Add, Clear}
use Rattle.pg_law.specs.declared.values.Near.{Near}
use Rattle.pg_law.specs.Program.{Program}

-- two deltas, one after the other
abbrev pub joined : {A : Type 0} → (A → A → A) → Delta A → Delta A → Delta A
joined sum Nothing delta = delta
joined sum (Add a) Nothing = Add a
joined sum (Add a) (Add b) = Add (sum a b)
joined sum (Add a) Clear = Clear
joined sum Clear delta = Clear

module _ {Acc Carry : Type 0} (p : Program Acc Carry) where
  -- the gather over these edges
  abbrev pub gather_over : List Near → Acc
  gather_over nears = fold (λ acc near. p.sum acc (p.gather near)) p.empty nears

  -- the sum of what a gather has over each of some edges
  abbrev pub summed_over : (ℕ → Acc) → List ℕ → Acc
  summed_over part edges = fold (λ acc e. p.sum acc (part e)) p.empty edges

  -- the deltas of some edges, one after the other
  abbrev pub joined_over : (ℕ → Delta Acc) → List ℕ → Delta Acc
  joined_over delta edges = fold (λ d e. joined p.sum d (delta e)) Nothing edges
