-- A job has 1 to 64 workers: so many are chosen, or none are and it has 1.
use Rattle.std.proofs.Common.{◌≡◌, ℕ, ◌≤◌, List, [], ◌∷◌, Bool, true, false, ◌&&◌, cond, if◌then◌else◌, Option, Some, None, nat_le, unwrap_or, refl, subst, lit≤}
use Rattle.std.proofs.lemmas.Bool.{and_parts, leb-true}
use Rattle.std.proofs.lemmas.Option.{cond_some, option_and_then_some}
use Rattle.std.specs.Option.{option_map}
use Rattle.pg_base.specs.Numbers.{are_digits, value_from, number_of}
use Rattle.pg_words.specs.Names.{Word}
use Rattle.pg_words.specs.Options.{no_choices, number_from, with_value, can_run, program_of, run_job, cut_job, job_from}
use Rattle.pg_words.specs.Jobs.{Setting, with_setting, IsJob}
use Rattle.pg_words.specs.Workers.{workers_of, HasWorkers}
use Rattle.pg_words.specs.declared.choices.Choices.{Choices}
use Rattle.pg_words.specs.declared.head.Head.{Head}
use Rattle.pg_words.specs.declared.head.Head.TheVariants as heads
use Rattle.pg_words.specs.declared.names.EngineName.{EngineName}
use Rattle.pg_words.specs.declared.names.OptionName.{OptionName}
use Rattle.pg_words.specs.declared.names.OptionName.TheVariants as option
use Rattle.pg_words.specs.declared.names.ProgramWord.{ProgramWord}
use Rattle.pg_words.specs.declared.job.Job.{Job}
use Rattle.pg_words.specs.declared.job.Job.TheVariants as job
use Rattle.pg_words.specs.declared.job.RunJob.{RunJob}
use Rattle.pg_words.proofs.Naming.{mapped}
use Rattle.pg_words.proofs.Parsing.{IsJobOf-Placed}
use Rattle.pg_words.proofs.Settings.{Placed}

-- a number that is read is at most the greatest
number_of-le : (most : ℕ) (word : Word) (n : ℕ) → number_of most word ≡ Some n → n ≤ most
number_of-le most [] n e = cc
number_of-le most (byte ∷ bytes) n e =
    let parts = cond_some (are_digits (byte ∷ bytes) && nat_le (value_from 0 (byte ∷ bytes)) most) (value_from 0 (byte ∷ bytes)) n e in
    let tests = and_parts (are_digits (byte ∷ bytes)) (nat_le (value_from 0 (byte ∷ bytes)) most) parts.0 in
    subst (λ (m : ℕ). m ≤ most) parts.1 (leb-true (value_from 0 (byte ∷ bytes)) most tests.1)

-- and at least the least
number_from-within : (least most : ℕ) (word : Word) (n : ℕ) → number_from least most word ≡ Some n → (least ≤ n) × (n ≤ most)
number_from-within least most word n e =
    option_and_then_some (λ m. if nat_le least m then Some m else None) (number_of most word) n e (λ m read tested.
    (let parts = cond_some (nat_le least m) m n tested in
    (subst (λ (k : ℕ). least ≤ k) parts.1 (leb-true least m parts.0), subst (λ (k : ℕ). k ≤ most) parts.1 (number_of-le most word m read))))

-- the workers that are chosen, or the one where none are, are 1 to 64
abbrev IsWithin : Choices → Type 0
IsWithin c = (1 ≤ unwrap_or c.workers 1) × (unwrap_or c.workers 1 ≤ 64)

-- an option that leaves the workers leaves that
leaves : {X : Type 0} (f : X → Choices) (found : Option X) (c d : Choices) → ((x : X) → (f x).workers ≡ c.workers)
    → IsWithin c → option_map f found ≡ Some d → IsWithin d
leaves f found c d same within e =
    let row = mapped f found d e in
    subst IsWithin row.2 (rw (same row.0) within)

-- a row for each option
with_value-IsWithin : (c d : Choices) (option : OptionName) (word : Word) → IsWithin c
    → with_value c option word ≡ Some d → IsWithin d
with_value-IsWithin c d option.Workers word within e =
    let row = mapped (λ x. record c { workers = Some x }) (number_from 1 64 word) d e in
    subst IsWithin row.2 (number_from-within 1 64 word row.0 row.1)
with_value-IsWithin c d option.Serial word within e = cc
with_value-IsWithin c d option.Cache word within e = cc
with_value-IsWithin c d _ word within e = leaves _ _ c d (λ _. refl) within e

with_setting-IsWithin : (c d : Choices) (option : OptionName) (word : Option Word) → IsWithin c
    → with_setting c option word ≡ Some d → IsWithin d
with_setting-IsWithin c d option.Serial None within e = leaves {X = Unit {0}} (λ _. record c { serial = true }) (Some tt) c d (λ _. refl) within e
with_setting-IsWithin c d option.Cache None within e = leaves {X = Unit {0}} (λ _. record c { cache = true }) (Some tt) c d (λ _. refl) within e
with_setting-IsWithin c d _ None within e = cc
with_setting-IsWithin c d option (Some word) within e = with_value-IsWithin c d option word within e

-- settings keep it
Placed-IsWithin : (head : Head) (c : Choices) (settings : List Setting) (d : Choices) → IsWithin c
    → Placed head c settings d → IsWithin d
Placed-IsWithin head c [] d within is = subst IsWithin is within
Placed-IsWithin head c (setting ∷ settings) d within (more, first, behind) =
    Placed-IsWithin head more settings d (with_setting-IsWithin c more setting.option setting.value within first.set) behind

-- where a test passes, what stands behind it
cond_runs : (b : Bool) (o : Option Job) (named : Job) → cond b o None ≡ Some named → o ≡ Some named
cond_runs true o named e = e
cond_runs false o named e = cc

-- a run has the workers that are chosen
run_job-HasWorkers : (engine : EngineName) (program : ProgramWord) (c : Choices) (named : Job) (of : RunJob → Job)
    → ((run : RunJob) → workers_of (of run) ≡ run.workers) → IsWithin c
    → option_map of (run_job engine program c) ≡ Some named → HasWorkers named
run_job-HasWorkers engine program c named of same within e =
    let row = mapped of (run_job engine program c) named e in
    let run = mapped _ (program_of program c) row.0 row.1 in
    let few : HasWorkers (of row.0) = record {
      least = rw (same row.0, ← run.2) within.0;
      most = rw (same row.0, ← run.2) within.1;
    } in
    subst HasWorkers row.2 few

-- so does a job, a row for each kind
job_from-HasWorkers : (head : Head) (c : Choices) (named : Job) → IsWithin c → job_from head c ≡ Some named → HasWorkers named
job_from-HasWorkers (heads.Run engine program) c named within e =
    run_job-HasWorkers engine program c named job.Run (λ _. refl) within (cond_runs (can_run engine c) _ named e)
job_from-HasWorkers (heads.Check engine program) c named within e =
    run_job-HasWorkers engine program c named job.Check (λ _. refl) within e
job_from-HasWorkers heads.Cut c named within e =
    let is : job.Cut (cut_job c) ≡ named = cc in
    subst HasWorkers is (record { least = within.0; most = within.1 })

-- words that name a job name one of 1 to 64 workers
pub IsJob-HasWorkers : (words : List Word) (named : Job) → IsJob words named → HasWorkers named
IsJob-HasWorkers words named is =
    let placed = IsJobOf-Placed is.head is.settings named is.is in
    job_from-HasWorkers is.head placed.made named
    (Placed-IsWithin is.head no_choices is.settings placed.made (lit≤ tt, lit≤ tt) placed.placed) placed.meant
