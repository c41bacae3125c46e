-- The options: where each may stand, what its value may be, and what holds where it doesn't stand.
use Rattle.std.specs.Prelude.{ℕ, ◌^◌, ◌-◌, nat_le, Bool, true, false, ◌&&◌, ◌||◌, not, Option, Some, None, is_some, unwrap_or, option_and_then, if◌then◌else◌}
use Rattle.std.specs.Option.{option_map}
use Rattle.pg_base.specs.Numbers.{number_of}
use Rattle.pg_readers.specs.declared.line.Format.TheVariants.{Snap}
use Rattle.pg_words.specs.Names.{Word, named, formats, format_word, cuts, cut_word, has_rounds, has_fuel, has_source, has_tolerance, has_cache}
use Rattle.pg_words.specs.declared.choices.Choices.{Choices}
use Rattle.pg_words.specs.declared.head.Head.{Head}
use Rattle.pg_words.specs.declared.head.Head.TheVariants as heads
use Rattle.pg_words.specs.declared.names.CutWord.{CutWord}
use Rattle.pg_words.specs.declared.names.CutWord.TheVariants as cut
use Rattle.pg_words.specs.declared.names.OptionName.{OptionName}
use Rattle.pg_words.specs.declared.names.OptionName.TheVariants as option
use Rattle.pg_words.specs.declared.names.EngineName.{EngineName}
use Rattle.pg_words.specs.declared.names.EngineName.TheVariants.{Sync, Async}
use Rattle.pg_words.specs.declared.names.ProgramWord.{ProgramWord}
use Rattle.pg_words.specs.declared.names.ProgramWord.TheVariants as word
use Rattle.pg_words.specs.declared.job.CutJob.{CutJob}
use Rattle.pg_words.specs.declared.job.CutKind.{CutKind}
use Rattle.pg_words.specs.declared.job.CutKind.TheVariants as kind
use Rattle.pg_words.specs.declared.job.Engine.{Engine}
use Rattle.pg_words.specs.declared.job.Engine.TheVariants as engine
use Rattle.pg_words.specs.declared.job.ProgramName.{ProgramName}
use Rattle.pg_words.specs.declared.job.ProgramName.TheVariants as program
use Rattle.pg_words.specs.declared.job.RunJob.{RunJob}
use Rattle.pg_words.specs.declared.job.Job.{Job}
use Rattle.pg_words.specs.declared.job.Job.TheVariants as job

-- where an option may stand behind a program by an engine, and behind `check` and these
abbrev pub run_takes : EngineName → ProgramWord → OptionName → Bool
run_takes engine program option.Format = true
run_takes engine program option.Workers = true
run_takes engine program option.Cut = true
run_takes engine program option.Seed = true
run_takes engine program option.Rounds = has_rounds engine
run_takes engine program option.Fuel = has_fuel engine
run_takes engine program option.Serial = has_fuel engine
run_takes engine program option.Virtual = has_fuel engine
run_takes engine program option.Source = has_source program
run_takes engine program option.Tolerance = has_tolerance program
run_takes engine program option.Cache = has_cache program

-- where an option may stand behind `cut`
abbrev pub cut_takes : OptionName → Bool
cut_takes option.Format = true
cut_takes option.Workers = true
cut_takes option.Cut = true
cut_takes option.Seed = true
cut_takes _ = false

-- where an option may stand
abbrev pub takes : Head → OptionName → Bool
takes (heads.Run engine program) option = run_takes engine program option
takes (heads.Check engine program) option = run_takes engine program option
takes heads.Cut option = cut_takes option

-- no option stands
abbrev pub no_choices : Choices
no_choices = record {
  format = None;
  workers = None;
  cut = None;
  seed = None;
  rounds = None;
  fuel = None;
  serial = false;
  virtual_seed = None;
  source = None;
  tolerance = None;
  cache = false;
}

-- whether an option stands
abbrev pub stands : Choices → OptionName → Bool
stands c option.Format = is_some c.format
stands c option.Workers = is_some c.workers
stands c option.Cut = is_some c.cut
stands c option.Seed = is_some c.seed
stands c option.Rounds = is_some c.rounds
stands c option.Fuel = is_some c.fuel
stands c option.Serial = c.serial
stands c option.Virtual = is_some c.virtual_seed
stands c option.Source = is_some c.source
stands c option.Tolerance = is_some c.tolerance
stands c option.Cache = c.cache

-- two options that never stand together: the serial machine has no seed, and keeps no gathers
abbrev pub excludes : OptionName → OptionName → Bool
excludes option.Serial option.Virtual = true
excludes option.Serial option.Cache = true
excludes option.Virtual option.Serial = true
excludes option.Cache option.Serial = true
excludes _ _ = false

-- whether one stands together with which the option never stands
abbrev pub is_excluded : Choices → OptionName → Bool
is_excluded c option.Serial = is_some c.virtual_seed || c.cache
is_excluded c option.Virtual = c.serial
is_excluded c option.Cache = c.serial
is_excluded c _ = false

-- an option may be added that doesn't stand yet and isn't excluded
abbrev pub admits : Choices → OptionName → Bool
admits c option = not (stands c option) && not (is_excluded c option)

-- the choices with an option more that stands alone, or None where a value is to follow it
abbrev pub with_flag : Choices → OptionName → Option Choices
with_flag c option.Serial = Some (record c { serial = true })
with_flag c option.Cache = Some (record c { cache = true })
with_flag c _ = None

-- the number that a word writes, where it is `least` to `most`
abbrev pub number_from : ℕ → ℕ → Word → Option ℕ
number_from least most word =
    option_and_then (λ n. if nat_le least n then Some n else None) (number_of most word)

-- the choices with an option more, or None where the word is no value of it
abbrev pub with_value : Choices → OptionName → Word → Option Choices
with_value c option.Format word =
    option_map (λ x. record c { format = Some x }) (named format_word formats word)
with_value c option.Workers word =
    option_map (λ x. record c { workers = Some x }) (number_from 1 64 word)
with_value c option.Cut word =
    option_map (λ x. record c { cut = Some x }) (named cut_word cuts word)
with_value c option.Seed word =
    option_map (λ x. record c { seed = Some x }) (number_of (2 ^ 64 - 1) word)
with_value c option.Rounds word =
    option_map (λ x. record c { rounds = Some x }) (number_of (2 ^ 32 - 1) word)
with_value c option.Fuel word =
    option_map (λ x. record c { fuel = Some x }) (number_of (2 ^ 32 - 1) word)
with_value c option.Serial word = None
with_value c option.Virtual word =
    option_map (λ x. record c { virtual_seed = Some x }) (number_of (2 ^ 64 - 1) word)
with_value c option.Source word =
    option_map (λ x. record c { source = Some x }) (number_of (2 ^ 32 - 1) word)
with_value c option.Tolerance word =
    option_map (λ x. record c { tolerance = Some x }) (number_of (2 ^ 64 - 1) word)
with_value c option.Cache word = None

-- executions one after another, so many at most: by a seed where it has one, or by the serial machine
abbrev pub executing : ℕ → Option ℕ → Engine
executing fuel None = engine.Serial fuel
executing fuel (Some seed) = engine.Virtual fuel seed

-- the engine with its limit
abbrev pub engine_of : EngineName → Choices → Engine
engine_of Sync c = engine.Sync (unwrap_or c.rounds 1000000)
engine_of Async c = executing (unwrap_or c.fuel 1000000000) c.virtual_seed

-- the cut with this seed, where it has one
abbrev pub kind_of : CutWord → ℕ → CutKind
kind_of cut.Random seed = kind.Random seed
kind_of cut.Oblivious seed = kind.Oblivious
kind_of cut.Coordinated seed = kind.Coordinated

-- the cut that is chosen
abbrev pub cut_of : Choices → CutKind
cut_of c = kind_of (unwrap_or c.cut cut.Random) (unwrap_or c.seed 0)

-- whether the engine can run: `async` does by `--serial` or `--virtual`
abbrev pub can_run : EngineName → Choices → Bool
can_run Sync c = true
can_run Async c = c.serial || is_some c.virtual_seed

-- the program with its number, or None where its source is missing
abbrev pub program_of : ProgramWord → Choices → Option ProgramName
program_of word.Components c = Some program.Components
program_of word.Colour c = Some program.Colour
program_of word.Sssp c = option_map program.Sssp c.source
program_of word.Rank c = Some (program.Rank (unwrap_or c.tolerance 0))
program_of word.Tree c = option_map program.Tree c.source

-- a program by an engine, or None where its source is missing
abbrev pub run_job : EngineName → ProgramWord → Choices → Option RunJob
run_job engine program c = option_map (λ named. record {
  engine = engine_of engine c;
  program = named;
  format = unwrap_or c.format Snap;
  workers = unwrap_or c.workers 1;
  kind = cut_of c;
  cache = c.cache;
}) (program_of program c)

-- the cut by itself
abbrev pub cut_job : Choices → CutJob
cut_job c = record {
  format = unwrap_or c.format Snap;
  workers = unwrap_or c.workers 1;
  kind = cut_of c;
}

-- the job of these words and choices, or None where a required option is missing
abbrev pub job_from : Head → Choices → Option Job
job_from (heads.Run engine program) c =
    if can_run engine c then option_map job.Run (run_job engine program c) else None
job_from (heads.Check engine program) c = option_map job.Check (run_job engine program c)
job_from heads.Cut c = Some (job.Cut (cut_job c))
