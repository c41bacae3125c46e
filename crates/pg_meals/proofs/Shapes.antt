-- What the shape of a graph and its cut has.
use Rattle.std.proofs.Common.{ℕ, ◌<◌, ◌≡◌, ◌≢◌, true}
use Rattle.pg_graph.specs.declared.edge.Side.{Side}
use Rattle.pg_graph.specs.declared.edge.Side.TheVariants.{Source, Target}
use Rattle.pg_graph.specs.Multigraph.{IsVertexInfo, IsEdgeInfo}
use Rattle.pg_law.specs.Laws.{info_at}
use Rattle.pg_meals.specs.Shape.{Shape}

pub record Graphlike (g : Shape) : Type 0 where
  pub loopless : (e : ℕ) → e < g.edges → g.end Source e ≢ g.end Target e
  pub info_known : (v : ℕ) → IsVertexInfo (g.info v)
  pub edge_known : (e : ℕ) → IsEdgeInfo (g.edge_info e)
  pub info_of : (s : Side) (e : ℕ) → e < g.edges → info_at s (g.edge_info e) ≡ g.info (g.end s e)
  pub placed : (s : Side) (e : ℕ) → e < g.edges → g.spans (g.end s e) (g.worker e) ≡ true
