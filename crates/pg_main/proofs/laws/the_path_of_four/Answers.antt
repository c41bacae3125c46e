use Rattle.std.proofs.Common.{ap, refl, rules}
use Rattle.std.specs.Fmt.{digits}
use Rattle.pg_law.specs.Rounds.{Run}
use Rattle.std.proofs.lemmas.List.Sorted.{IsPermutation-refl}
use Rattle.pg_readers.specs.Tokens.{is_blank}
use Rattle.pg_words.specs.declared.job.ProgramName.TheVariants.{Components}
use Rattle.pg_words.specs.declared.job.Engine.TheVariants.{Sync}
use Rattle.pg_check.specs.Outcomes.{text_of, after_rounds}
use Rattle.pg_main.specs.Rows.{path_graph}
use Rattle.pg_main.proofs.Rows.{path_run}
use Rattle.pg_main.proofs.laws.the_path_of_four.Goals as goal

pub returns-clause-accepted : goal.returns-clause-accepted
unfolding is_blank
returns-clause-accepted c = refl

pub returns-clause-graph : goal.returns-clause-graph
unfolding is_blank
returns-clause-graph c = record { graph = search rules; ids = IsPermutation-refl _; edges = refl; loops = refl }

pub returns-clause-report : goal.returns-clause-report
unfolding digits
returns-clause-report c = ap (λ (r : Run). text_of Components (Sync 1000000) path_graph (after_rounds path_graph r)) path_run
