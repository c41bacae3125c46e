-- A word for each edge, kept in full or once for all, and changes of words.
use Rattle.std.specs.Prelude.{◌≡◌, ◌⊎◌, ℕ, ◌==◌, List, length, replicate, set, fold, if◌then◌else◌}
use Rattle.pg_law.specs.declared.edge_words.Change.{Change}

-- the words: each of a list, or as many as are counted of the one word for all
abbrev pub words_of : ℕ → ℕ → List ℕ → List ℕ
words_of count all each = if length each == 0 then replicate count all else each

-- a list has as many words as are counted, or none
abbrev pub AreCounted : ℕ → List ℕ → Type 0
AreCounted count each = (length each ≡ 0) ⊎ (length each ≡ count)

-- the words with these changes, in order
abbrev pub written : List ℕ → List Change → List ℕ
written words changes = fold (λ ws change. set ws change.edge change.word) words changes
