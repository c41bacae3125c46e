-- What values mean where nothing is signalled.
use Rattle.std.specs.Prelude.{◌≡◌, List}
use Rattle.pg_graph.specs.Multigraph.{Multigraph}
use Rattle.pg_law.specs.declared.values.Datum.{Datum}
use Rattle.pg_colour.specs.Proper.{IsProper}
use Rattle.pg_paths.specs.Tight.{HasTree, HasNoZeroWeight, AllLeadBack}
use Rattle.pg_paths.specs.Walks.{HasLeastWeights}
use Rattle.pg_paths.specs.Weak.{HasLeastIds}
use Rattle.pg_rank.specs.RankEquation.{MeetEquations}
use Rattle.pg_words.specs.declared.job.ProgramName.{ProgramName}
use Rattle.pg_words.specs.declared.job.ProgramName.TheVariants.{Components, Colour, Sssp, Rank, Tree}

-- the least ids of weak components; a proper colouring; the least weights of walks from the source; at
-- tolerance 0 ranks that meet their equations; a tree of least walks, which leads back to the source where
-- no weight is 0
abbrev pub Means : ProgramName → Multigraph → List Datum → Type 0
Means Components g values = HasLeastIds g values
Means Colour g values = IsProper g values
Means (Sssp source) g values = HasLeastWeights g source values
Means (Rank tolerance) g values = tolerance ≡ 0 → MeetEquations g values
Means (Tree source) g values =
    HasTree g source values × (HasNoZeroWeight g → AllLeadBack g source values)
