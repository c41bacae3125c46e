-- Lists, one for each worker.
use Rattle.std.specs.Prelude.{◌≡◌, ℕ, ◌<◌, ◌++◌, List, [], length, slice_index_or, map, Vec}
use Rattle.std.specs.declared.alloc.Global.{Global}

-- what stands in the lists
abbrev pub lists_in : {A : Type 0} → List (Vec A Global) → List (List A)
lists_in lists = map (λ list. list.items) lists

-- as many lists as before, and something appended to each
pub record Appends {A : Type 0} (old new : List (List A)) (more : ℕ → List A) : Type 0 where
  pub count : length new ≡ length old
  pub each : (w : ℕ) → w < length old → slice_index_or new w [] ≡ slice_index_or old w [] ++ more w
