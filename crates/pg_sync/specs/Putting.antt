-- Words of edges, put in their places.
use Rattle.std.specs.Prelude.{◌≡◌, ℕ, ◌<◌, List, length, map, slice_index}
use Rattle.pg_edge_store.specs.Store.{Store}

-- a store has the words that a list has for its edges
abbrev pub HasWordsOf : List ℕ → Store → Type 0
HasWordsOf t s = s.words ≡ map (slice_index t) s.numbers

-- the words of a store are in their places, and what was right stays right
pub record IsPut (s : Store) (old new : List ℕ) : Type 0 where
  pub each : (t : List ℕ) → HasWordsOf t s → (k : ℕ) → k < length s.numbers
      → slice_index new (slice_index s.numbers k) ≡ slice_index t (slice_index s.numbers k)
  pub kept : (t : List ℕ) → HasWordsOf t s → (e : ℕ)
      → slice_index old e ≡ slice_index t e → slice_index new e ≡ slice_index t e
