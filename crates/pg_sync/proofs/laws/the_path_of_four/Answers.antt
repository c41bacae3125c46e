use Rattle.pg_sync.proofs.Path.{path_gathers_are}
use Rattle.pg_sync.proofs.laws.the_path_of_four.Goals as goal

pub returns-clause-first : goal.returns-clause-first
returns-clause-first c = path_gathers_are 0

pub returns-clause-second : goal.returns-clause-second
returns-clause-second c = path_gathers_are 1

pub returns-clause-third : goal.returns-clause-third
returns-clause-third c = path_gathers_are 2
