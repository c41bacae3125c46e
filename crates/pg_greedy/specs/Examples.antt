-- Small graphs, at which the definitions can be followed by hand.
use Rattle.std.specs.Prelude.{ℕ, [], ◌∷◌}
use Rattle.pg_graph.specs.declared.edge.Edge.{Edge}
use Rattle.pg_graph.specs.Multigraph.{Multigraph, multigraph}

abbrev pub link : (src dst : ℕ) → Edge
link src dst = record { src = src; dst = dst; weight = 1 }

-- four vertices, one behind another
abbrev pub path : Multigraph
path = multigraph (1 ∷ 2 ∷ 3 ∷ 4 ∷ []) (link 0 1 ∷ link 1 2 ∷ link 2 3 ∷ []) 0

-- one vertex with four others around it
abbrev pub claw : Multigraph
claw = multigraph (0 ∷ 1 ∷ 2 ∷ 3 ∷ 4 ∷ []) (link 0 1 ∷ link 0 2 ∷ link 0 3 ∷ link 0 4 ∷ []) 0

-- two edges apart, and one between their sources
abbrev pub bridge : Multigraph
bridge = multigraph (1 ∷ 2 ∷ 3 ∷ 4 ∷ []) (link 0 1 ∷ link 2 3 ∷ link 0 2 ∷ []) 0

-- the same, and a fourth edge at one of them
abbrev pub longer_bridge : Multigraph
longer_bridge =
    multigraph (1 ∷ 2 ∷ 3 ∷ 4 ∷ 5 ∷ []) (link 0 1 ∷ link 2 3 ∷ link 0 2 ∷ link 2 4 ∷ []) 0
