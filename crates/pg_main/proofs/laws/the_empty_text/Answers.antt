use Rattle.std.proofs.Common.{refl, ap, rules}
use Rattle.std.specs.Fmt.{digits}
use Rattle.std.specs.Prelude.{[]}
use Rattle.pg_graph.specs.Multigraph.{multigraph}
use Rattle.pg_law.specs.Configuration.{start_state}
use Rattle.pg_law.specs.Rounds.{Run}
use Rattle.pg_law.proofs.Repeating.{rounds_stop}
use Rattle.pg_paths.specs.Components.{components}
use Rattle.std.proofs.lemmas.List.Sorted.{IsPermutation-refl}
use Rattle.pg_words.specs.declared.job.ProgramName.TheVariants.{Components}
use Rattle.pg_words.specs.declared.job.Engine.TheVariants.{Sync}
use Rattle.pg_check.specs.Outcomes.{text_of, after_rounds}
use Rattle.pg_main.proofs.laws.the_empty_text.Goals as goal

pub returns-clause-graph : goal.returns-clause-graph
returns-clause-graph c = record { graph = search rules; ids = IsPermutation-refl _; edges = refl; loops = refl }

pub returns-clause-report : goal.returns-clause-report
unfolding digits
returns-clause-report c = let g = multigraph [] [] 0 in
    ap (λ (r : Run). text_of Components (Sync 1000000) g (after_rounds g r)) (rounds_stop components g (start_state components g) 1000000 refl)
