-- Which jobs keep gathers. Kept gathers change how many are made, and nothing else that a run leaves.
use Rattle.std.specs.Prelude.{Bool, true, false, ◌&&◌}
use Rattle.pg_words.specs.declared.job.Engine.{Engine}
use Rattle.pg_words.specs.declared.job.Engine.TheVariants.{Sync, Serial, Virtual}
use Rattle.pg_words.specs.declared.job.RunJob.{RunJob}
use Rattle.pg_check.specs.Verdicts.{counts_once}

-- the serial machine keeps no gathers
abbrev pub keeps_by : Engine → Bool
keeps_by (Sync limit) = true
keeps_by (Serial fuel) = false
keeps_by (Virtual fuel seed) = true

-- a job keeps gathers where it says so, by rounds or actors of a program whose scatters tell how a gather
-- changes
abbrev pub is_kept : RunJob → Bool
is_kept job = keeps_by job.engine && counts_once job
