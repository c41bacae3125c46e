-- A table's words and names fit each other, and what a step of the reading takes.
use Rattle.std.proofs.Common.{◌≡◌, List, [], ◌∷◌, Bool, true, false, cond, Option, Some, None, refl, sym, subst}
use Rattle.std.proofs.lemmas.Option.{cond_some, option_and_then_some}
use Rattle.std.proofs.lemmas.Slice.Eq.{bytes_eq-Decides}
use Rattle.std.specs.Option.{option_map}
use Rattle.std.specs.Str.{bytes_eq}
use Rattle.pg_words.specs.Names.{Word, named, engines, engine_word, first_words, first_word, programs, program_word, options, option_word}
use Rattle.pg_words.specs.Options.{with_flag, with_value}
use Rattle.pg_words.specs.Reading.{next, is_free, behind_option, with_option}
use Rattle.pg_words.specs.declared.choices.Choices.{Choices}
use Rattle.pg_words.specs.declared.head.Head.{Head}
use Rattle.pg_words.specs.declared.names.EngineName.{EngineName}
use Rattle.pg_words.specs.declared.names.EngineName.TheVariants.{Sync, Async}
use Rattle.pg_words.specs.declared.names.FirstWord.{FirstWord}
use Rattle.pg_words.specs.declared.names.FirstWord.TheVariants as first
use Rattle.pg_words.specs.declared.names.OptionName.{OptionName}
use Rattle.pg_words.specs.declared.names.OptionName.TheVariants as option
use Rattle.pg_words.specs.declared.names.ProgramWord.{ProgramWord}
use Rattle.pg_words.specs.declared.names.ProgramWord.TheVariants as program
use Rattle.pg_words.specs.declared.reading.Reading.{Reading}
use Rattle.pg_words.specs.declared.reading.Reading.TheVariants as reading

-- a word that is found in a table is the word of what it names
pub named-word : {X : Type 0} (word_of : X → Word) (xs : List X) (word : Word) (x : X)
    → named word_of xs word ≡ Some x → word ≡ word_of x
named-word word_of [] word x e = cc
named-word {X} word_of (first ∷ xs) word x e =
    let by_test : (b : Bool) → bytes_eq word (word_of first) ≡ b
    → cond b (Some first) (named word_of xs word) ≡ Some x → word ≡ word_of x = λ b. elim b
    as (λ v. bytes_eq word (word_of first) ≡ v → cond v (Some first) (named word_of xs word) ≡ Some x
    → word ≡ word_of x) [
      | true ↦ λ same found. (let one : first ≡ x = cc in
          subst (λ (y : X). word ≡ word_of y) one ((bytes_eq-Decides word (word_of first)).0 same))
      | false ↦ λ _ later. named-word word_of xs word x later
    ] in
    by_test (bytes_eq word (word_of first)) refl e

-- each engine is found by its word
pub engine_word-named : (word : EngineName) → named engine_word engines (engine_word word) ≡ Some word
engine_word-named Sync = refl
engine_word-named Async = refl

-- each first word is found by its word
pub first_word-named : (word : FirstWord) → named first_word first_words (first_word word) ≡ Some word
first_word-named (first.Engine Sync) = refl
first_word-named (first.Engine Async) = refl
first_word-named first.Check = refl
first_word-named first.Cut = refl

-- each program is found by its word
pub program_word-named : (word : ProgramWord) → named program_word programs (program_word word) ≡ Some word
program_word-named program.Components = refl
program_word-named program.Colour = refl
program_word-named program.Sssp = refl
program_word-named program.Rank = refl
program_word-named program.Tree = refl

-- each option is found by its word
pub option_word-named : (option : OptionName) → named option_word options (option_word option) ≡ Some option
option_word-named option.Format = refl
option_word-named option.Workers = refl
option_word-named option.Cut = refl
option_word-named option.Seed = refl
option_word-named option.Rounds = refl
option_word-named option.Fuel = refl
option_word-named option.Serial = refl
option_word-named option.Virtual = refl
option_word-named option.Source = refl
option_word-named option.Tolerance = refl
option_word-named option.Cache = refl

-- the value behind a map of an option
pub mapped : {A B : Type 0} (f : A → B) (o : Option A) (y : B)
    → option_map f o ≡ Some y → (x : A) × (o ≡ Some x) × (f x ≡ y)
mapped f None y e = cc
mapped f (Some x) y e = (x, refl, cc)

-- the word was that of an option that may stand and doesn't yet
pub record IsOption (head : Head) (c : Choices) (word : Word) (more : Reading) : Type 0 where
  pub option : OptionName
  pub same : word ≡ option_word option
  pub free : is_free head c option ≡ true
  pub is : more ≡ behind_option head c option (with_flag c option)

pub option_step : (head : Head) (c : Choices) (word : Word) (more : Reading)
    → next (reading.Options head c) word ≡ Some more → IsOption head c word more
option_step head c word more e =
    option_and_then_some (with_option head c) (named option_word options word) more e (λ option found free.
    (let parts = cond_some (is_free head c option) (behind_option head c option (with_flag c option)) more free in
    record {
      option = option;
      same = named-word option_word options word option found;
      free = parts.0;
      is = sym parts.1;
    }))

-- the word was a value of the option
pub record IsValue (head : Head) (c : Choices) (option : OptionName) (word : Word) (more : Reading) : Type 0 where
  pub chosen : Choices
  pub valued : with_value c option word ≡ Some chosen
  pub is : more ≡ reading.Options head chosen

pub value_step : (head : Head) (c : Choices) (option : OptionName) (word : Word) (more : Reading)
    → next (reading.Value head c option) word ≡ Some more → IsValue head c option word more
value_step head c option word more e =
    let found = mapped (reading.Options head) (with_value c option word) more e in
    let is : more ≡ reading.Options head found.0 = cc in
    record { chosen = found.0; valued = found.1; is = is }
