-- How many workers a job has.
use Rattle.std.specs.Prelude.{ℕ, ◌≤◌}
use Rattle.pg_words.specs.declared.job.Job.{Job}
use Rattle.pg_words.specs.declared.job.Job.TheVariants as job

-- the workers of a job
abbrev pub workers_of : Job → ℕ
workers_of (job.Run run) = run.workers
workers_of (job.Check run) = run.workers
workers_of (job.Cut cut) = cut.workers

-- they are 1 to 64
pub record HasWorkers (named : Job) : Type 0 where
  pub least : 1 ≤ workers_of named
  pub most : workers_of named ≤ 64
