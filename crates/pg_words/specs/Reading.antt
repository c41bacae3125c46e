-- Words read from left to right: what stands tells which word may follow.
use Rattle.std.specs.Prelude.{◌≡◌, ◌↔◌, List, [], ◌∷◌, Bool, ◌&&◌, Option, Some, None, option_and_then, if◌then◌else◌}
use Rattle.std.specs.Option.{option_map}
use Rattle.pg_words.specs.Names.{Word, named, engines, engine_word, first_words, first_word, programs, program_word, options, option_word}
use Rattle.pg_words.specs.Options.{takes, no_choices, admits, with_flag, with_value, job_from}
use Rattle.pg_words.specs.Jobs.{IsJob}
use Rattle.pg_words.specs.declared.choices.Choices.{Choices}
use Rattle.pg_words.specs.declared.head.Head.{Head}
use Rattle.pg_words.specs.declared.head.Head.TheVariants as heads
use Rattle.pg_words.specs.declared.lead.Lead.{Lead}
use Rattle.pg_words.specs.declared.lead.Lead.TheVariants as leads
use Rattle.pg_words.specs.declared.lead.Led.{Led}
use Rattle.pg_words.specs.declared.lead.Led.TheVariants as to
use Rattle.pg_words.specs.declared.names.FirstWord.{FirstWord}
use Rattle.pg_words.specs.declared.names.FirstWord.TheVariants as first
use Rattle.pg_words.specs.declared.names.OptionName.{OptionName}
use Rattle.pg_words.specs.declared.job.Job.{Job}
use Rattle.pg_words.specs.declared.reading.Reading.{Reading}
use Rattle.pg_words.specs.declared.reading.Reading.TheVariants as reading

-- what the first word leads to, a row for each
abbrev pub led_first : FirstWord → Led
led_first (first.Engine engine) = to.Lead (leads.Run engine)
led_first first.Check = to.Lead leads.Check
led_first first.Cut = to.Head heads.Cut

-- what a word more leads to before the options, a row for each lead
abbrev pub led : Lead → Word → Option Led
led leads.Start word = option_map led_first (named first_word first_words word)
led leads.Check word =
    option_map (λ engine. to.Lead (leads.CheckBy engine)) (named engine_word engines word)
led (leads.Run engine) word =
    option_map (λ program. to.Head (heads.Run engine program)) (named program_word programs word)
led (leads.CheckBy engine) word =
    option_map (λ program. to.Head (heads.Check engine program)) (named program_word programs word)

-- no word stands
abbrev pub start : Reading
start = reading.Lead leads.Start

-- what stands behind the words before the options, or the first of them
abbrev pub standing : Led → Reading
standing (to.Lead more) = reading.Lead more
standing (to.Head head) = reading.Options head no_choices

-- behind an option that stands alone options may follow, behind another its value
abbrev pub behind_option : Head → Choices → OptionName → Option Choices → Reading
behind_option head c option None = reading.Value head c option
behind_option head c option (Some more) = reading.Options head more

-- an option may follow where the head takes it and those that stand admit it
abbrev pub is_free : Head → Choices → OptionName → Bool
is_free head c option = takes head option && admits c option

-- what stands with an option more
abbrev pub with_option : Head → Choices → OptionName → Option Reading
with_option head c option =
    if is_free head c option then Some (behind_option head c option (with_flag c option)) else None

-- what stands with a word more, or None where the word may not follow
abbrev pub next : Reading → Word → Option Reading
next (reading.Lead lead) word = option_map standing (led lead word)
next (reading.Options head c) word = option_and_then (with_option head c) (named option_word options word)
next (reading.Value head c option) word = option_map (reading.Options head) (with_value c option word)

-- what stands after these words
abbrev pub after : Reading → List Word → Option Reading
after standing [] = Some standing
after standing (word ∷ words) = option_and_then (λ more. after more words) (next standing word)

-- the job that stands, or None where words are missing
abbrev pub job_at : Reading → Option Job
job_at (reading.Options head c) = job_from head c
job_at _ = None

-- the job of these words, or None where they name none
abbrev pub job_of : List Word → Option Job
job_of words = option_and_then job_at (after start words)

-- the words that are read to a job are those that name it
abbrev pub ReadsTheGrammar : Type 0
ReadsTheGrammar = (words : List Word) (job : Job) → (job_of words ≡ Some job) ↔ IsJob words job
