-- The text of a cut that was made.
use Rattle.std.proofs.Common.{◌≡◌, ℕ, List, ap, ◌∙◌, subst}
use Rattle.std.specs.Prelude.{Option}
use Rattle.pg_base.specs.Writing.{SendsFront}
use Rattle.pg_graph.specs.Multigraph.{Multigraph}
use Rattle.pg_cut.specs.Cut.{Division}
use Rattle.pg_words.specs.declared.job.CutJob.{CutJob}
use Rattle.pg_main.specs.Cuts.{cut_by, cases_by}
use Rattle.pg_main.specs.CutTexts.{cut_text, job_cut_text}

module _ (job : CutJob) (g : Multigraph) (cut : Division) (cases : Option (List ℕ)) (cut_is : cut ≡ cut_by job.kind job.workers g) (cases_are : cases ≡ cases_by job.kind job.workers g) where
  -- it is that of the job
  pub text_by : cut_text job.kind g cut cases ≡ job_cut_text job g
  text_by = ap (λ c. cut_text job.kind g c cases) cut_is ∙ ap (cut_text job.kind g (cut_by job.kind job.workers g)) cases_are

  pub front_by : {before after : Option (List ℕ)} → SendsFront before after (cut_text job.kind g cut cases) → SendsFront before after (job_cut_text job g)
  front_by {before} {after} front = let Front : List ℕ → Type 0 = λ text. SendsFront before after text in subst Front text_by front
