use Rattle.pg_sync.proofs.Path.{cached_gathers_are}
use Rattle.pg_sync.proofs.laws.the_cached_path_of_four.Goals as goal

pub returns-clause-first : goal.returns-clause-first
returns-clause-first c = cached_gathers_are 0

pub returns-clause-second : goal.returns-clause-second
returns-clause-second c = cached_gathers_are 1

pub returns-clause-third : goal.returns-clause-third
returns-clause-third c = cached_gathers_are 2
