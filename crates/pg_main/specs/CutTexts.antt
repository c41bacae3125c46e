-- The text of a cut: what each worker has.
use Rattle.std.specs.Prelude.{ℕ, List, [], ◌++◌, Option, Some, None, slice_index, codes, decimal}
use Rattle.std.specs.List.{flat_map, range_with_len}
use Rattle.pg_graph.specs.Multigraph.{Multigraph}
use Rattle.pg_cut.specs.Cut.{Division, load_of, held_by, replicas_of}
use Rattle.pg_report.specs.Report.{ended, counts_line}
use Rattle.pg_words.specs.declared.job.CutKind.{CutKind}
use Rattle.pg_words.specs.declared.job.CutKind.TheVariants.{Random, Oblivious, Coordinated}
use Rattle.pg_words.specs.declared.job.CutJob.{CutJob}
use Rattle.pg_main.specs.Cuts.{cut_by, cases_by}

abbrev pub kind_word : CutKind → List ℕ
kind_word (Random seed) = codes "random"
kind_word Oblivious = codes "oblivious"
kind_word Coordinated = codes "coordinated"

-- the header
abbrev pub cut_head : CutKind → ℕ → List ℕ
cut_head kind workers =
    codes "# pgcut 1 " ++ (kind_word kind ++ (codes " workers " ++ (decimal workers ++ (codes "\n" ++ []))))

-- the edges and the replicas of a worker
abbrev pub worker_line : Division → ℕ → List ℕ
worker_line cut worker =
    codes "worker " ++ (decimal worker ++ (codes " edges " ++ (decimal (load_of cut worker)
    ++ (codes " replicas " ++ (decimal (held_by cut worker) ++ (codes "\n" ++ []))))))

abbrev pub workers_text : Division → List ℕ
workers_text cut = flat_map (worker_line cut) (range_with_len 0 cut.workers)

-- how many edges went by each case of a greedy cut
abbrev pub cases_text : Option (List ℕ) → List ℕ
cases_text None = []
cases_text (Some counts) =
    codes "cases " ++ (decimal (slice_index counts 0) ++ (codes " " ++ (decimal (slice_index counts 1)
    ++ (codes " " ++ (decimal (slice_index counts 2) ++ (codes " "
    ++ (decimal (slice_index counts 3) ++ (codes "\n" ++ []))))))))

-- the replicas of all workers
abbrev pub replicas_line : Division → List ℕ
replicas_line cut = codes "replicas " ++ (decimal (replicas_of cut) ++ (codes "\n" ++ []))

abbrev pub cut_text : CutKind → Multigraph → Division → Option (List ℕ) → List ℕ
cut_text kind g cut cases = cut_head kind cut.workers ++ (ended (counts_line g)
    ++ (workers_text cut ++ (cases_text cases ++ replicas_line cut)))

-- of a job
abbrev pub job_cut_text : CutJob → Multigraph → List ℕ
job_cut_text job g =
    cut_text job.kind g (cut_by job.kind job.workers g) (cases_by job.kind job.workers g)
