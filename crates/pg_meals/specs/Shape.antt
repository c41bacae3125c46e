-- What the core knows of a graph and its cut.
use Rattle.std.specs.Prelude.{ℕ, ◌==◌, Bool, cond}
use Rattle.pg_graph.specs.declared.edge.Side.{Side}
use Rattle.pg_graph.specs.declared.edge.Side.TheVariants.{Source, Target}
use Rattle.pg_graph.specs.declared.edge.VertexInfo.{VertexInfo}
use Rattle.pg_graph.specs.declared.edge.EdgeInfo.{EdgeInfo}

-- so many vertices and edges; of each edge the ends and the worker; of each vertex the workers
-- that it spans; what the graph tells of both; and whether gathers are kept
pub record Shape : Type 0 where
  pub vertices : ℕ
  pub edges : ℕ
  pub end : Side → ℕ → ℕ
  pub info : ℕ → VertexInfo
  pub edge_info : ℕ → EdgeInfo
  pub worker : ℕ → ℕ
  pub spans : ℕ → ℕ → Bool
  pub caches : Bool

-- what f says of the end of e that is v, or none where v is no end
abbrev pub at_end : {X : Type 0} → Shape → ℕ → ℕ → (Side → X) → X → X
at_end g v e f none =
    cond (g.end Source e == v) (f Source) (cond (g.end Target e == v) (f Target) none)
