-- The cut of a run, and what each of its workers gathers.
use Rattle.std.specs.Prelude.{ℕ, ◌==◌, nat_lt, Bool, ◌&&◌, not, List, Option, Some, None, if◌then◌else◌}
use Rattle.pg_graph.specs.Multigraph.{Multigraph}
use Rattle.pg_law.specs.Configuration.{start_state}
use Rattle.pg_law.specs.Program.{Program}
use Rattle.pg_law.specs.Rounds.{rounds}
use Rattle.pg_colour.specs.Colouring.{colouring}
use Rattle.pg_paths.specs.Components.{components}
use Rattle.pg_paths.specs.ShortestPaths.{shortest_paths}
use Rattle.pg_paths.specs.Trees.{tree}
use Rattle.pg_rank.specs.PageRank.{page_rank}
use Rattle.pg_cut.specs.Cut.{Division, cut_of}
use Rattle.pg_cut.specs.Mix.{random_places}
use Rattle.pg_greedy.specs.Loaders.{oblivious_places, oblivious_cases, coordinated_places}
use Rattle.pg_greedy.specs.Loaders.{coordinated_cases, case_counts}
use Rattle.pg_serial.specs.Journals.{gathers_over}
use Rattle.pg_sync.specs.Counting.{gathers_by as gathers_over_cut}
use Rattle.pg_words.specs.declared.job.CutKind.{CutKind}
use Rattle.pg_words.specs.declared.job.CutKind.TheVariants.{Random, Oblivious, Coordinated}
use Rattle.pg_words.specs.declared.job.Engine.{Engine}
use Rattle.pg_words.specs.declared.job.Engine.TheVariants.{Sync, Serial, Virtual}
use Rattle.pg_words.specs.declared.job.ProgramName.{ProgramName}
use Rattle.pg_words.specs.declared.job.ProgramName.TheVariants as program
use Rattle.pg_words.specs.declared.job.RunJob.{RunJob}
use Rattle.pg_check.specs.Outcomes.{journal_of}
use Rattle.pg_main.specs.Ways.{is_kept}

-- the cut of a graph, by its kind
abbrev pub cut_by : CutKind → ℕ → Multigraph → Division
cut_by (Random seed) workers g = cut_of g workers (random_places g workers seed)
cut_by Oblivious workers g = cut_of g workers (oblivious_places g workers workers)
cut_by Coordinated workers g = cut_of g workers (coordinated_places g workers workers)

-- how many edges went by each of the four cases, where the cut is a greedy one; it has as many loaders as
-- workers
abbrev pub cases_by : CutKind → ℕ → Multigraph → Option (List ℕ)
cases_by (Random seed) workers g = None
cases_by Oblivious workers g = Some (case_counts (oblivious_cases g workers workers))
cases_by Coordinated workers g = Some (case_counts (coordinated_cases g workers workers))

-- all are made by the first worker
abbrev pub at_first : ℕ → ℕ → ℕ
at_first gathers worker = if worker == 0 then gathers else 0

-- each worker of a cut makes its own
abbrev pub by_workers : Division → (ℕ → ℕ) → ℕ → ℕ
by_workers cut own worker = if nat_lt worker cut.workers then own worker else 0

-- a worker that is alone needs no cut, where no gathers are kept
abbrev pub is_alone : Bool → ℕ → Bool
is_alone kept workers = not kept && (workers == 1)

-- how many gathers each worker makes in a run of the program. In rounds a worker that is alone makes all, and
-- else each makes those over its own edges; one execution after another is made by the first worker. Of actors
-- nothing is said here, but in `Counted`
abbrev pub gathers_by : {Acc Carry : Type 0} → Program Acc Carry → Engine → Bool → Multigraph → Division
    → ℕ → ℕ
gathers_by p (Sync limit) kept g cut worker =
    if is_alone kept cut.workers then at_first (rounds p g (start_state p g) limit).gathers worker
    else by_workers cut (gathers_over_cut p g cut kept (start_state p g) limit) worker
gathers_by p (Serial fuel) kept g cut worker =
    at_first (gathers_over p g (journal_of p g fuel)) worker
gathers_by p (Virtual fuel seed) kept g cut worker = 0

-- the same of the program with this name
abbrev pub worker_gathers : ProgramName → Engine → Bool → Multigraph → Division → ℕ → ℕ
worker_gathers program.Components engine kept g cut worker =
    gathers_by components engine kept g cut worker
worker_gathers program.Colour engine kept g cut worker =
    gathers_by colouring engine kept g cut worker
worker_gathers (program.Sssp source) engine kept g cut worker =
    gathers_by (shortest_paths source) engine kept g cut worker
worker_gathers (program.Rank tolerance) engine kept g cut worker =
    gathers_by (page_rank tolerance) engine kept g cut worker
worker_gathers (program.Tree source) engine kept g cut worker =
    gathers_by (tree source) engine kept g cut worker

-- of a job
abbrev pub job_cut : RunJob → Multigraph → Division
job_cut job g = cut_by job.kind job.workers g

abbrev pub job_gathers : RunJob → Multigraph → ℕ → ℕ
job_gathers job g = worker_gathers job.program job.engine (is_kept job) g (job_cut job g)
