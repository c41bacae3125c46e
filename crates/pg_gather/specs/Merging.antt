-- What the parts of all workers come to.
use Rattle.std.specs.Prelude.{ℕ, ◌==◌, cond, List, slice_index_or, map, fold, All}
use Rattle.pg_law.specs.Program.{Program}

module _ {Acc Carry : Type 0} (p : Program Acc Carry) where
  -- a sum, and each part of a list that is this vertex's
  abbrev pub with_part : ℕ → Acc → ℕ × Acc → Acc
  with_part u acc part = cond (part.0 == u) (p.sum acc part.1) acc

  abbrev pub with_parts : ℕ → Acc → List (ℕ × Acc) → Acc
  with_parts u acc parts = fold (with_part u) acc parts

  -- the sum of a vertex's parts in all lists
  abbrev pub sum_of : ℕ → List (List (ℕ × Acc)) → Acc
  sum_of u lists = fold (with_parts u) p.empty lists

  -- each wanted vertex with that sum, in order
  abbrev pub merged : List ℕ → List (List (ℕ × Acc)) → List (ℕ × Acc)
  merged wanted lists = map (λ u. (u, sum_of u lists)) wanted

  -- all are accumulators of the program
  abbrev pub AreParts : List (ℕ × Acc) → Type 0
  AreParts parts = All (λ part. p.IsAcc part.1) parts

  -- the sum at a place, and all sums with their parts in a list
  abbrev pub sum_at : List (ℕ × Acc) → ℕ → ℕ × Acc
  sum_at sums k = slice_index_or sums k (0, p.empty)

  abbrev pub with_list : List (ℕ × Acc) → List (ℕ × Acc) → List (ℕ × Acc)
  with_list sums parts = map (λ sum. (sum.0, with_parts sum.0 sum.1 parts)) sums
