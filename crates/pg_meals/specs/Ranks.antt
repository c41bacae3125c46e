-- The rank of a vertex: the number of its last entry plus one, or 0, and then its own number.
use Rattle.std.specs.Prelude.{ℕ, ◌+◌, ◌<◌, ◌≡◌, ◌==◌, ◌⊎◌, cond, List, [], ◌∷◌}
use Rattle.pg_law.specs.declared.values.JournalEntry.{JournalEntry}

-- k entries came before these, and `last` is the answer for them
abbrev pub last_from : ℕ → ℕ → List JournalEntry → ℕ → ℕ
last_from k last [] v = last
last_from k last (x ∷ xs) v = last_from (k + 1) (cond (x.vertex == v) (k + 1) last) xs v

-- the number of the last entry of v plus one, or 0
abbrev pub last_entry : List JournalEntry → ℕ → ℕ
last_entry journal v = last_from 0 0 journal v

-- u has the smaller rank
abbrev pub Before : List JournalEntry → ℕ → ℕ → Type 0
Before journal u v =
    (last_entry journal u < last_entry journal v)
    ⊎ ((last_entry journal u ≡ last_entry journal v) × (u < v))

-- how many entries a journal has of v
abbrev pub entries_of : ℕ → List JournalEntry → ℕ
entries_of v [] = 0
entries_of v (x ∷ xs) = cond (x.vertex == v) 1 0 + entries_of v xs
