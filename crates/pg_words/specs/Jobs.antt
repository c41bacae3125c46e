-- Which words name which job, and where words that name none go wrong.
use Rattle.std.specs.Prelude.{◌≡◌, ◌≢◌, ℕ, ◌+◌, ◌<◌, ◌≤◌, false, List, [], ◌∷◌, ◌++◌, length, take, Option, Some, IsTrue, All, AllPairs, flat_map, option_and_then, None}
use Rattle.pg_words.specs.Names.{Word, engine_word, first_word, program_word, option_word}
use Rattle.pg_words.specs.Parts.{Part, name, SpellAll}
use Rattle.pg_words.specs.Options.{takes, excludes, no_choices, with_flag, with_value, job_from}
use Rattle.pg_words.specs.declared.choices.Choices.{Choices}
use Rattle.pg_words.specs.declared.head.Head.{Head}
use Rattle.pg_words.specs.declared.head.Head.TheVariants as heads
use Rattle.pg_words.specs.declared.names.FirstWord.TheVariants as first
use Rattle.pg_words.specs.declared.names.OptionName.{OptionName}
use Rattle.pg_words.specs.declared.job.Job.{Job}

-- what the words before the options have to be, a row for each kind of job
abbrev pub head_parts : Head → List Part
head_parts (heads.Run engine program) =
    name (first_word (first.Engine engine)) ∷ name (program_word program) ∷ []
head_parts (heads.Check engine program) =
    name (first_word first.Check) ∷ name (engine_word engine) ∷ name (program_word program) ∷ []
head_parts heads.Cut = name (first_word first.Cut) ∷ []

-- an option that stands, alone or with a word behind it
pub record Setting : Type 0 where
  pub option : OptionName
  pub value : Option Word

-- the words of a setting
abbrev pub spelling : OptionName → Option Word → List Word
spelling option None = option_word option ∷ []
spelling option (Some value) = option_word option ∷ value ∷ []

-- the words of settings, one after another
abbrev pub setting_words : List Setting → List Word
setting_words settings = flat_map (λ setting. spelling setting.option setting.value) settings

-- the choices with a setting more, or None where the option doesn't stand so
abbrev pub with_setting : Choices → OptionName → Option Word → Option Choices
with_setting c option None = with_flag c option
with_setting c option (Some value) = with_value c option value

-- what settings choose over what was chosen before, or None where an option doesn't stand so
abbrev pub chosen : Choices → List Setting → Option Choices
chosen c [] = Some c
chosen c (setting ∷ settings) =
    option_and_then (λ more. chosen more settings) (with_setting c setting.option setting.value)

-- the job of a head and settings, each of an option that may stand there, none of an option that
-- stands already or that never stands together with one that does
pub record IsJobOf (head : Head) (settings : List Setting) (job : Job) : Type 0 where
  pub taken : All (λ setting. IsTrue (takes head setting.option)) settings
  pub once : AllPairs (λ earlier later. earlier.option ≢ later.option) settings
  pub together : AllPairs (λ earlier later. excludes earlier.option later.option ≡ false) settings
  pub meant : option_and_then (job_from head) (chosen no_choices settings) ≡ Some job

-- the words name the job: they are the words of a head, and of settings in any order
pub record IsJob (words : List Word) (job : Job) : Type 0 where
  pub head : Head
  pub front : List Word
  pub settings : List Setting
  pub fronted : SpellAll front (head_parts head)
  pub spelled : words ≡ front ++ setting_words settings
  pub is : IsJobOf head settings job

-- the words are the first of a job's words
abbrev pub BeginsJob : List Word → Type 0
BeginsJob front = (back : List Word) × (job : Job) × IsJob (front ++ back) job

-- the least number of words of the front that begins no job; or one more than all, where they begin one
pub record IsPlace (words : List Word) (place : ℕ) : Type 0 where
  pub counted : (0 < place) × (place ≤ length words + 1)
  pub before : (k : ℕ) → k < place → BeginsJob (take k words)
  pub here : place ≤ length words → ¬ BeginsJob (take place words)

-- words go wrong at one place
abbrev pub OnePlace : Type 0
OnePlace = (words : List Word) (place other : ℕ)
    → IsPlace words place → IsPlace words other → place ≡ other

-- two settings side by side change places, and the job is the same
abbrev pub OrderIsFree : Type 0
OrderIsFree = (head : Head) (front back : List Setting) (first second : Setting) (job : Job)
    → IsJobOf head (front ++ first ∷ second ∷ back) job
    → IsJobOf head (front ++ second ∷ first ∷ back) job
