-- What stands can be completed: each option that waits has a value, and a required option can be added.
use Rattle.std.proofs.Common.{◌≡◌, ℕ, List, [], ◌∷◌, Bool, true, false, Option, Some, None, option_and_then, refl, sym, subst, codes}
use Rattle.std.specs.Option.{option_map}
use Rattle.pg_words.specs.Names.{Word, has_source}
use Rattle.pg_words.specs.Options.{takes, with_flag, run_job, job_from}
use Rattle.pg_words.specs.Reading.{next, after, job_at}
use Rattle.pg_words.specs.declared.choices.Choices.{Choices}
use Rattle.pg_words.specs.declared.head.Head.{Head}
use Rattle.pg_words.specs.declared.head.Head.TheVariants as heads
use Rattle.pg_words.specs.declared.lead.Lead.{Lead}
use Rattle.pg_words.specs.declared.lead.Lead.TheVariants as leads
use Rattle.pg_words.specs.declared.names.EngineName.{EngineName}
use Rattle.pg_words.specs.declared.names.EngineName.TheVariants.{Sync, Async}
use Rattle.pg_words.specs.declared.names.OptionName.{OptionName}
use Rattle.pg_words.specs.declared.names.OptionName.TheVariants as option
use Rattle.pg_words.specs.declared.names.ProgramWord.{ProgramWord}
use Rattle.pg_words.specs.declared.names.ProgramWord.TheVariants as program
use Rattle.pg_words.specs.declared.job.Job.{Job}
use Rattle.pg_words.specs.declared.job.Job.TheVariants as job
use Rattle.pg_words.specs.declared.job.RunJob.{RunJob}
use Rattle.pg_words.specs.declared.reading.Reading.{Reading}
use Rattle.pg_words.specs.declared.reading.Reading.TheVariants as reading
use Rattle.pg_words.proofs.Counting.{IsFresh}

-- some words make a job of what stands
abbrev pub CanEnd : Reading → Type 0
CanEnd standing = (more : List Word) × (job : Job) × (option_and_then job_at (after standing more) ≡ Some job)

-- a word more, and then an end
then_ends : (standing more : Reading) (word : Word) → next standing word ≡ Some more → CanEnd more → CanEnd standing
then_ends standing more word e (words, job, ends) =
    (word ∷ words, job, subst (λ (o : Option Reading). option_and_then job_at (option_and_then (λ (r : Reading). after r words) o) ≡ Some job) (sym e) ends)

-- a source can be added where it is missing
source_ends : (head : Head) (c : Choices) (source : Option ℕ) → takes head option.Source ≡ true
    → ((id : ℕ) → CanEnd (reading.Options head (record c { source = Some id })))
    → CanEnd (reading.Options head (record c { source = source }))
source_ends head c (Some id) takes ends = ends id
source_ends head c None takes ends =
    then_ends _ (reading.Value head (record c { source = None }) option.Source) (codes "--source") (rw takes refl)
    (then_ends _ _ (codes "0") refl (ends 0))

-- a job stands
stands_whole : (head : Head) (c : Choices) (job : Job) → job_from head c ≡ Some job → CanEnd (reading.Options head c)
stands_whole head c job is = ([], job, is)

-- the head's job is of the program by the engine, whichever source stands
abbrev IsOfProgram : Head → EngineName → ProgramWord → (RunJob → Job) → Choices → Type 0
IsOfProgram head engine program kind c = (source : Option ℕ)
    → job_from head (record c { source = source }) ≡ option_map kind (run_job engine program (record c { source = source }))

-- so its job stands, or a source can be added, a row for each program
program_ends : (head : Head) (engine : EngineName) (program : ProgramWord) (kind : RunJob → Job) (c : Choices)
    → takes head option.Source ≡ has_source program → IsOfProgram head engine program kind c
    → CanEnd (reading.Options head c)
program_ends head engine program.Components kind c sourced is = stands_whole head c _ (is c.source)
program_ends head engine program.Colour kind c sourced is = stands_whole head c _ (is c.source)
program_ends head engine program.Sssp kind c sourced is =
    source_ends head c c.source sourced (λ id. stands_whole head (record c { source = Some id }) _ (is (Some id)))
program_ends head engine program.Rank kind c sourced is = stands_whole head c _ (is c.source)
program_ends head engine program.Tree kind c sourced is =
    source_ends head c c.source sourced (λ id. stands_whole head (record c { source = Some id }) _ (is (Some id)))

-- `--virtual` can be added where neither it nor `--serial` stands
async_ends : (program : ProgramWord) (c : Choices) (serial : Bool) (seed : Option ℕ)
    → CanEnd (reading.Options (heads.Run Async program) (record c { serial = serial; virtual_seed = seed }))
async_ends program c true seed =
    program_ends (heads.Run Async program) Async program job.Run (record c { serial = true; virtual_seed = seed }) refl (λ _. refl)
async_ends program c false (Some seed) =
    program_ends (heads.Run Async program) Async program job.Run (record c { serial = false; virtual_seed = Some seed }) refl (λ _. refl)
async_ends program c false None =
    then_ends _ _ (codes "--virtual") refl
    (then_ends _ _ (codes "0") refl
    (program_ends (heads.Run Async program) Async program job.Run (record c { serial = false; virtual_seed = Some 0 }) refl (λ _. refl)))

-- a job stands or can be made, a row for each kind of job
options_end : (head : Head) (c : Choices) → CanEnd (reading.Options head c)
options_end (heads.Run Sync program) c = program_ends (heads.Run Sync program) Sync program job.Run c refl (λ _. refl)
options_end (heads.Run Async program) c = async_ends program c c.serial c.virtual_seed
options_end (heads.Check engine program) c = program_ends (heads.Check engine program) engine program job.Check c refl (λ _. refl)
options_end heads.Cut c = stands_whole heads.Cut c _ refl

-- each option that waits for a value has one
value_ends : (head : Head) (c : Choices) (option : OptionName) → with_flag c option ≡ None
    → CanEnd (reading.Value head c option)
value_ends head c option.Format waits = then_ends _ _ (codes "snap") refl (options_end head _)
value_ends head c option.Workers waits = then_ends _ _ (codes "1") refl (options_end head _)
value_ends head c option.Cut waits = then_ends _ _ (codes "random") refl (options_end head _)
value_ends head c option.Seed waits = then_ends _ _ (codes "0") refl (options_end head _)
value_ends head c option.Rounds waits = then_ends _ _ (codes "0") refl (options_end head _)
value_ends head c option.Fuel waits = then_ends _ _ (codes "0") refl (options_end head _)
value_ends head c option.Serial waits = cc
value_ends head c option.Virtual waits = then_ends _ _ (codes "0") refl (options_end head _)
value_ends head c option.Source waits = then_ends _ _ (codes "0") refl (options_end head _)
value_ends head c option.Tolerance waits = then_ends _ _ (codes "0") refl (options_end head _)
value_ends head c option.Cache waits = cc

-- words before the options can be added, a row for each lead
lead_ends : (lead : Lead) → CanEnd (reading.Lead lead)
lead_ends leads.Start = then_ends _ _ (codes "sync") refl (then_ends _ _ (codes "components") refl (options_end _ _))
lead_ends leads.Check = then_ends _ _ (codes "sync") refl (then_ends _ _ (codes "components") refl (options_end _ _))
lead_ends (leads.Run engine) = then_ends _ _ (codes "components") refl (options_end _ _)
lead_ends (leads.CheckBy engine) = then_ends _ _ (codes "components") refl (options_end _ _)

-- whatever stands can be completed
pub can_end : (standing : Reading) → IsFresh standing → CanEnd standing
can_end (reading.Lead lead) fresh = lead_ends lead
can_end (reading.Options head c) fresh = options_end head c
can_end (reading.Value head c option) fresh = value_ends head c option fresh.1
