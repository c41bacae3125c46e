-- The reading answers what the grammar says.
use Rattle.std.proofs.Common.{◌≡◌, List, [], ◌∷◌, ◌++◌, true, Option, Some, None, option_and_then, append_assoc, refl, sym, subst, ap, ◌∙◌}
use Rattle.std.proofs.lemmas.Option.{option_and_then_some}
use Rattle.std.specs.List.{slice_index_or}
use Rattle.pg_words.specs.Names.{Word}
use Rattle.pg_words.specs.Options.{no_choices, with_flag, with_value, job_from}
use Rattle.pg_words.specs.Jobs.{Setting, spelling, setting_words, with_setting, head_parts, chosen, IsJobOf, IsJob}
use Rattle.pg_words.specs.Parts.{SpellAll}
use Rattle.pg_words.specs.Reading.{next, standing, is_free, behind_option, after, job_at, job_of}
use Rattle.pg_words.specs.declared.choices.Choices.{Choices}
use Rattle.pg_words.specs.declared.head.Head.{Head}
use Rattle.pg_words.specs.declared.lead.Lead.{Lead}
use Rattle.pg_words.specs.declared.lead.Lead.TheVariants as leads
use Rattle.pg_words.specs.declared.lead.Led.{Led}
use Rattle.pg_words.specs.declared.lead.Led.TheVariants as to
use Rattle.pg_words.specs.declared.names.OptionName.{OptionName}
use Rattle.pg_words.specs.declared.names.OptionName.TheVariants as option
use Rattle.pg_words.specs.declared.job.Job.{Job}
use Rattle.pg_words.specs.declared.reading.Reading.{Reading}
use Rattle.pg_words.specs.declared.reading.Reading.TheVariants as reading
use Rattle.pg_words.proofs.Leading.{lead_parts, led_parts, lead_step, SpellAll-push, after-head_parts}
use Rattle.pg_words.proofs.Naming.{option_word-named, option_step, value_step}
use Rattle.pg_words.proofs.Choosing.{stands-none, excluded-none}
use Rattle.pg_words.proofs.Settings.{Placed, Placed-MayStand, MayStand-Placed}

-- what stands after words that are more than one stands after the first of them and then the others
record IsAfter (standing : Reading) (word : Word) (words : List Word) (last : Reading) : Type 0 where
  pub more : Reading
  pub follows : next standing word ≡ Some more
  pub behind : after more words ≡ Some last

after-cons : (standing : Reading) (word : Word) (words : List Word) (last : Reading)
    → after standing (word ∷ words) ≡ Some last → IsAfter standing word words last
after-cons standing word words last e =
    option_and_then_some (λ more. after more words) (next standing word) last e
    (λ more follows behind. record { more = more; follows = follows; behind = behind })

-- what stands behind an option: it stands alone, or its value follows
data Behind (head : Head) (c : Choices) (option : OptionName) (more : Reading) : Type 0 where
  alone : (d : Choices) → with_setting c option None ≡ Some d → more ≡ reading.Options head d → Behind head c option more
  waits : more ≡ reading.Value head c option → Behind head c option more

behind : (head : Head) (c : Choices) (option : OptionName) → Behind head c option (behind_option head c option (with_flag c option))
behind head c option =
    let by_flag : (flag : Option Choices) → with_flag c option ≡ flag
    → Behind head c option (behind_option head c option flag) = λ flag. elim flag
    as (λ o. with_flag c option ≡ o → Behind head c option (behind_option head c option o)) [
      | None ↦ λ e. waits refl
      | Some d ↦ λ e. alone d e refl
    ] in
    by_flag (with_flag c option) refl

-- where a job stands, the words behind a head are those of settings that are placed
record IsRest (head : Head) (c : Choices) (words : List Word) (job : Job) : Type 0 where
  pub settings : List Setting
  pub made : Choices
  pub spelled : words ≡ setting_words settings
  pub placed : Placed head c settings made
  pub meant : job_from head made ≡ Some job

-- a setting and the settings behind it
set_first : (head : Head) (c d : Choices) (option : OptionName) (value : Option Word) (words : List Word) (job : Job)
    → is_free head c option ≡ true → with_setting c option value ≡ Some d
    → IsRest head d words job → IsRest head c (spelling option value ++ words) job
set_first head c d option value words job free set rest = record {
  settings = record { option = option; value = value } ∷ rest.settings;
  made = rest.made;
  spelled = ap (λ back. spelling option value ++ back) rest.spelled;
  placed = (d, record { free = free; set = set }, rest.placed);
  meant = rest.meant;
}

rest_is : (head : Head) (c : Choices) (words : List Word) (last : Reading) (job : Job)
    → after (reading.Options head c) words ≡ Some last → job_at last ≡ Some job → IsRest head c words job
rest_is head c [] last job e named =
    let is : reading.Options head c ≡ last = cc in
    record { settings = []; made = c; spelled = refl; placed = refl; meant = rw (← is) at named }
rest_is head c (word ∷ []) last job e named =
    let first = after-cons (reading.Options head c) word [] last e in
    let step = option_step head c word first.more first.follows in
    elim (behind head c step.option) [
      | alone d set is ↦
          let rest = rest_is head d [] last job (rw (step.is, is) at first.behind) named in
          rw step.same (set_first head c d step.option None [] job step.free set rest)
      | waits is ↦
          let is_last : reading.Value head c step.option ≡ last = cc in
          let none : job_at last ≡ None = subst (λ (r : Reading). job_at r ≡ None) is_last refl in
          cc
    ]
rest_is head c (word ∷ value ∷ words) last job e named =
    let first = after-cons (reading.Options head c) word (value ∷ words) last e in
    let step = option_step head c word first.more first.follows in
    elim (behind head c step.option) [
      | alone d set is ↦
          let rest = rest_is head d (value ∷ words) last job (rw (step.is, is) at first.behind) named in
          rw step.same (set_first head c d step.option None (value ∷ words) job step.free set rest)
      | waits is ↦
          let then = after-cons (reading.Value head c step.option) value words last (rw (step.is, is) at first.behind) in
          let put = value_step head c step.option value then.more then.follows in
          let rest = rest_is head put.chosen words last job (rw put.is at then.behind) named in
          rw step.same (set_first head c put.chosen step.option (Some value) words job step.free put.valued rest)
    ]

-- settings that are placed at first, to a job
pub Placed-IsJobOf : (head : Head) (settings : List Setting) (d : Choices) (job : Job)
    → Placed head no_choices settings d → job_from head d ≡ Some job → IsJobOf head settings job
Placed-IsJobOf head settings d job placed meant =
    let may = Placed-MayStand head no_choices settings d placed in
    record { taken = may.taken; once = may.once; together = may.together; meant = rw may.made meant }

pub record IsPlacedJob (head : Head) (settings : List Setting) (job : Job) : Type 0 where
  pub made : Choices
  pub placed : Placed head no_choices settings made
  pub meant : job_from head made ≡ Some job

pub IsJobOf-Placed : (head : Head) (settings : List Setting) (job : Job)
    → IsJobOf head settings job → IsPlacedJob head settings job
IsJobOf-Placed head settings job is =
    option_and_then_some (job_from head) (chosen no_choices settings) job is.meant (λ made chose means. record {
      made = made;
      placed = MayStand-Placed head no_choices settings made (record {
        taken = is.taken;
        once = is.once;
        together = is.together;
        new = λ k x inside. stands-none (slice_index_or settings k x).option;
        allowed = λ k x inside. excluded-none (slice_index_or settings k x).option;
        made = chose;
      });
      meant = means;
    })

-- words behind those before the options, or the first of them
led_job : (led : Led) (front words : List Word) (last : Reading) (job : Job) → SpellAll front (led_parts led)
    → after (standing led) words ≡ Some last → job_at last ≡ Some job
    → ((lead : Lead) → SpellAll front (lead_parts lead) → option_and_then job_at (after (reading.Lead lead) words) ≡ Some job → IsJob (front ++ words) job)
    → IsJob (front ++ words) job
led_job (to.Lead lead) front words last job fronted e named by_lead = by_lead lead fronted (ap (option_and_then job_at) e ∙ named)
led_job (to.Head head) front words last job fronted e named by_lead =
    let rest = rest_is head no_choices words last job e named in
    record {
      head = head;
      front = front;
      settings = rest.settings;
      fronted = fronted;
      spelled = ap (λ (back : List Word). front ++ back) rest.spelled;
      is = Placed-IsJobOf head rest.settings rest.made job rest.placed rest.meant;
    }

-- words that are read to a job behind a lead are that job's, with the words of the lead before them
lead_job : (lead : Lead) (front words : List Word) (job : Job) → SpellAll front (lead_parts lead)
    → option_and_then job_at (after (reading.Lead lead) words) ≡ Some job → IsJob (front ++ words) job
lead_job lead front [] job fronted e = cc
lead_job lead front (word ∷ words) job fronted e =
    option_and_then_some job_at (after (reading.Lead lead) (word ∷ words)) job e (λ last stands_last named.
    (let first = after-cons (reading.Lead lead) word words last stands_last in
    let step = lead_step lead word first.more first.follows in
    let behind : after (standing step.led) words ≡ Some last = rw step.is at first.behind in
    let longer : SpellAll (front ++ word ∷ []) (led_parts step.led) =
    subst (SpellAll (front ++ word ∷ [])) (sym step.next.parts) (SpellAll-push front (lead_parts lead) word step.next.part fronted step.next.spells) in
    let is : IsJob ((front ++ word ∷ []) ++ words) job =
    led_job step.led (front ++ word ∷ []) words last job longer behind named (λ more. lead_job more (front ++ word ∷ []) words job) in
    subst (λ (all : List Word). IsJob all job) (append_assoc front (word ∷ []) words) is))

-- words that are read to a job are that job's
pub IsJob-from_reading : (words : List Word) (job : Job) → job_of words ≡ Some job → IsJob words job
IsJob-from_reading words job e = lead_job leads.Start [] words job tt e

-- a value is read behind the option that waits for it
waits_for : (c : Choices) (option : OptionName) (word : Word) (d : Choices) → with_value c option word ≡ Some d
    → with_flag c option ≡ None
waits_for c option.Serial word d e = cc
waits_for c option.Cache word d e = cc
waits_for c _ word d e = refl

-- a setting that may stand is read, and then the words behind it
after-setting : (head : Head) (c d : Choices) (option : OptionName) (value : Option Word) (words : List Word) (last : Reading)
    → is_free head c option ≡ true → with_setting c option value ≡ Some d → after (reading.Options head d) words ≡ Some last
    → after (reading.Options head c) (spelling option value ++ words) ≡ Some last
after-setting head c d option None words last free set behind =
    let found = option_word-named option in
    rw (found, free, set) behind
after-setting head c d option (Some value) words last free set behind =
    let found = option_word-named option in
    let waits = waits_for c option value d set in
    rw (found, free, waits, set) behind

-- settings that are placed are read
after-setting_words : (head : Head) (c d : Choices) (settings : List Setting) → Placed head c settings d
    → after (reading.Options head c) (setting_words settings) ≡ Some (reading.Options head d)
after-setting_words head c d [] is = ap (λ (x : Choices). Some (reading.Options head x)) is
after-setting_words head c d (setting ∷ settings) (more, first, behind) =
    after-setting head c more setting.option setting.value (setting_words settings) (reading.Options head d) first.free first.set
    (after-setting_words head more d settings behind)

-- the words of a head and settings are read
job_of-head_parts : (head : Head) (front : List Word) (settings : List Setting) (job : Job) → SpellAll front (head_parts head)
    → IsJobOf head settings job → job_of (front ++ setting_words settings) ≡ Some job
job_of-head_parts head front settings job fronted is =
    let placed = IsJobOf-Placed head settings job is in
    let read = after-head_parts head front (setting_words settings) fronted
    ∙ after-setting_words head no_choices placed.made settings placed.placed in
    ap (option_and_then job_at) read ∙ placed.meant

-- words of a job are read to that job
pub job_of-IsJob : (words : List Word) (job : Job) → IsJob words job → job_of words ≡ Some job
job_of-IsJob words job is = rw is.spelled (job_of-head_parts is.head is.front is.settings job is.fronted is.is)
