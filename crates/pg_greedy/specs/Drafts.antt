-- Places and cases as they are found.
use Rattle.std.specs.Prelude.{◌≡◌, ℕ, ◌<◌, List, length, slice_index}
use Rattle.pg_greedy.specs.Loaders.{Placing}

-- room for so many edges, with a worker for each
pub record IsDraft (count workers : ℕ) (places cases : List ℕ) : Type 0 where
  pub places_count : length places ≡ count
  pub cases_count : length cases ≡ count
  pub within : (e : ℕ) → e < count → slice_index places e < workers

-- an edge stands in a draft as in a placing
pub record StandsAs (all : Placing) (places cases : List ℕ) (e : ℕ) : Type 0 where
  pub place : slice_index places e ≡ slice_index all.places e
  pub case : slice_index cases e ≡ slice_index all.cases e
