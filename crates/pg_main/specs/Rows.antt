-- Small texts with the graphs and reports that the definitions give them.
use Rattle.std.specs.Prelude.{ℕ, false, List, [], ◌∷◌, codes}
use Rattle.pg_graph.specs.declared.edge.Edge.{Edge}
use Rattle.pg_graph.specs.Multigraph.{Multigraph, multigraph}
use Rattle.pg_readers.specs.declared.line.Format.TheVariants.{Snap}
use Rattle.pg_words.specs.declared.job.CutKind.TheVariants.{Random}
use Rattle.pg_words.specs.declared.job.Engine.TheVariants.{Sync}
use Rattle.pg_words.specs.declared.job.ProgramName.TheVariants.{Components}
use Rattle.pg_words.specs.declared.job.RunJob.{RunJob}

abbrev pub edge : ℕ → ℕ → Edge
edge src dst = record { src = src; dst = dst; weight = 1 }

-- components of a SNAP text by one worker, in a million rounds at most
abbrev pub plain_job : RunJob
plain_job = record {
  engine = Sync 1000000;
  program = Components;
  format = Snap;
  workers = 1;
  kind = Random 0;
  cache = false;
}

-- a path of four vertices
abbrev pub path_text : List ℕ
path_text = codes "1\t2\n2\t3\n3\t4\n"

abbrev pub path_graph : Multigraph
path_graph = multigraph (1 ∷ 2 ∷ 3 ∷ 4 ∷ []) (edge 0 1 ∷ edge 1 2 ∷ edge 2 3 ∷ []) 0

abbrev pub path_report : List ℕ
path_report = codes "# pgreport 1 sync components\n# vertices 4 edges 3 loops 0\n1\t1\n2\t1\n3\t1\n4\t1\n# quiescent rounds 3 executions 7 gathers 10\n"

-- no text at all
abbrev pub empty_report : List ℕ
empty_report = codes "# pgreport 1 sync components\n# vertices 0 edges 0 loops 0\n# quiescent rounds 0 executions 0 gathers 0\n"
