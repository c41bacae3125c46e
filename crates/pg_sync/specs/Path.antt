-- The path of four vertices, each of whose edges lies on a worker of its own.
use Rattle.std.specs.Prelude.{ℕ, [], ◌∷◌}
use Rattle.pg_graph.specs.declared.edge.Edge.{Edge}
use Rattle.pg_graph.specs.Multigraph.{Multigraph, multigraph}
use Rattle.pg_law.specs.Configuration.{start_state}
use Rattle.pg_cut.specs.Cut.{Division, cut_of}
use Rattle.pg_paths.specs.Components.{components}
use Rattle.pg_sync.specs.Counting.{gathers_on}
use Rattle.pg_sync.specs.Kept.{cached_gathers_on}

abbrev pub edge : ℕ → ℕ → Edge
edge src dst = record { src = src; dst = dst; weight = 1 }

abbrev pub path : Multigraph
path = multigraph (1 ∷ 2 ∷ 3 ∷ 4 ∷ []) (edge 0 1 ∷ edge 1 2 ∷ edge 2 3 ∷ []) 0

abbrev pub path_cut : Division
path_cut = cut_of path 3 (0 ∷ 1 ∷ 2 ∷ [])

-- what a worker gathers for the components, in ten rounds at most
abbrev pub path_gathers : ℕ → ℕ
path_gathers w = gathers_on components path path_cut (start_state components path) 10 w

-- the same with kept gathers
abbrev pub cached_path_gathers : ℕ → ℕ
cached_path_gathers w =
    cached_gathers_on components path path_cut (start_state components path) 10 w
