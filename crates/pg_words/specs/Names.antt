-- The words that are names, a row each: engines, programs, formats, cuts and options.
use Rattle.std.specs.Prelude.{ℕ, List, [], ◌∷◌, Bool, true, false, Option, Some, None, if◌then◌else◌, codes}
use Rattle.std.specs.Str.{bytes_eq}
use Rattle.pg_readers.specs.declared.line.Format.{Format}
use Rattle.pg_readers.specs.declared.line.Format.TheVariants as format
use Rattle.pg_words.specs.declared.names.CutWord.{CutWord}
use Rattle.pg_words.specs.declared.names.CutWord.TheVariants as cut
use Rattle.pg_words.specs.declared.names.EngineName.{EngineName}
use Rattle.pg_words.specs.declared.names.EngineName.TheVariants.{Sync, Async}
use Rattle.pg_words.specs.declared.names.FirstWord.{FirstWord}
use Rattle.pg_words.specs.declared.names.FirstWord.TheVariants as first
use Rattle.pg_words.specs.declared.names.ProgramWord.{ProgramWord}
use Rattle.pg_words.specs.declared.names.ProgramWord.TheVariants as program
use Rattle.pg_words.specs.declared.names.OptionName.{OptionName}
use Rattle.pg_words.specs.declared.names.OptionName.TheVariants as option

-- a word is its bytes
abbrev pub Word : Type 0
Word = List ℕ

-- the engines
abbrev pub engines : List EngineName
engines = Sync ∷ Async ∷ []

abbrev pub engine_word : EngineName → Word
engine_word Sync = codes "sync"
engine_word Async = codes "async"

-- the first words of jobs: an engine's, which runs, that before the words of a run whose report is checked,
-- and that of a cut
abbrev pub first_words : List FirstWord
first_words = first.Engine Sync ∷ first.Engine Async ∷ first.Check ∷ first.Cut ∷ []

abbrev pub first_word : FirstWord → Word
first_word (first.Engine engine) = engine_word engine
first_word first.Check = codes "check"
first_word first.Cut = codes "cut"

-- the programs
abbrev pub programs : List ProgramWord
programs = program.Components ∷ program.Colour ∷ program.Sssp ∷ program.Rank ∷ program.Tree ∷ []

abbrev pub program_word : ProgramWord → Word
program_word program.Components = codes "components"
program_word program.Colour = codes "colour"
program_word program.Sssp = codes "sssp"
program_word program.Rank = codes "rank"
program_word program.Tree = codes "tree"

-- the formats of a graph text
abbrev pub formats : List Format
formats = format.Snap ∷ format.Tsv ∷ format.Adj ∷ []

abbrev pub format_word : Format → Word
format_word format.Snap = codes "snap"
format_word format.Tsv = codes "tsv"
format_word format.Adj = codes "adj"

-- the cuts
abbrev pub cuts : List CutWord
cuts = cut.Random ∷ cut.Oblivious ∷ cut.Coordinated ∷ []

abbrev pub cut_word : CutWord → Word
cut_word cut.Random = codes "random"
cut_word cut.Oblivious = codes "oblivious"
cut_word cut.Coordinated = codes "coordinated"

-- the options
abbrev pub options : List OptionName
options =
    option.Format
    ∷ option.Workers
    ∷ option.Cut
    ∷ option.Seed
    ∷ option.Rounds
    ∷ option.Fuel
    ∷ option.Serial
    ∷ option.Virtual
    ∷ option.Source
    ∷ option.Tolerance
    ∷ option.Cache
    ∷ []

abbrev pub option_word : OptionName → Word
option_word option.Format = codes "--format"
option_word option.Workers = codes "--workers"
option_word option.Cut = codes "--cut"
option_word option.Seed = codes "--seed"
option_word option.Rounds = codes "--rounds"
option_word option.Fuel = codes "--fuel"
option_word option.Serial = codes "--serial"
option_word option.Virtual = codes "--virtual"
option_word option.Source = codes "--source"
option_word option.Tolerance = codes "--tolerance"
option_word option.Cache = codes "--cache"

-- what the word names among these, or None
abbrev pub named : {X : Type 0} → (X → Word) → List X → Word → Option X
named word_of [] word = None
named word_of (x ∷ xs) word = if bytes_eq word (word_of x) then Some x else named word_of xs word

-- the engines that work in rounds
abbrev pub has_rounds : EngineName → Bool
has_rounds Sync = true
has_rounds Async = false

-- the engines that execute vertex by vertex
abbrev pub has_fuel : EngineName → Bool
has_fuel Sync = false
has_fuel Async = true

-- the programs whose paths begin at a source
abbrev pub has_source : ProgramWord → Bool
has_source program.Sssp = true
has_source program.Tree = true
has_source _ = false

-- the programs that tell no change up to a tolerance
abbrev pub has_tolerance : ProgramWord → Bool
has_tolerance program.Rank = true
has_tolerance _ = false

-- the programs whose gathers can be kept
abbrev pub has_cache : ProgramWord → Bool
has_cache program.Colour = false
has_cache _ = true
