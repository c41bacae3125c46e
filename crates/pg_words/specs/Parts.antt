-- What the words before the options have to be: names, which have one spelling, and numbers, which have several.
use Rattle.std.specs.Prelude.{◌≡◌, ℕ, List, [], ◌∷◌, Some}
use Rattle.pg_words.specs.Names.{Word}
use Rattle.pg_words.specs.Options.{number_from}

-- what a word has to be: that of a name, or a number within bounds
pub data Part : Type 0 where
  name : Word → Part
  number : ℕ → ℕ → ℕ → Part

-- the word is so
abbrev pub Spells : Word → Part → Type 0
Spells word (name own) = word ≡ own
Spells word (number least most value) = number_from least most word ≡ Some value

-- the words are so, one for each part
abbrev pub SpellAll : List Word → List Part → Type 0
SpellAll [] [] = Unit {0}
SpellAll (word ∷ words) (part ∷ parts) = Spells word part × SpellAll words parts
SpellAll words parts = ⊥
