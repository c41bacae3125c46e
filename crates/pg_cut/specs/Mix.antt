-- The worker that an edge gets at random: a mix of its ids and a seed.
use Rattle.std.specs.Prelude.{ℕ, ◌+◌, ◌*◌, ◌/◌, ◌%◌, ◌^◌, List, map, bit_xor}
use Rattle.pg_graph.specs.declared.edge.EdgeInfo.{EdgeInfo}
use Rattle.pg_graph.specs.Multigraph.{Multigraph, edge_numbers, edge_info}

-- the product with an odd number near 2 ^ 64 over the golden ratio, high half folded into low
unfoldable pub mixed : ℕ → ℕ
mixed x = let product = x * 0x9E3779B97F4A7C15 % 2 ^ 64 in bit_xor product (product / 2 ^ 32)

-- the worker of an edge
abbrev pub random_place : ℕ → ℕ → EdgeInfo → ℕ
random_place workers seed edge =
    mixed (mixed (bit_xor (edge.src.id * 2 ^ 32 + edge.dst.id) seed)) % workers

-- the workers of all edges
abbrev pub random_places : Multigraph → ℕ → ℕ → List ℕ
random_places g workers seed = map (λ e. random_place workers seed (edge_info g e)) (edge_numbers g)
