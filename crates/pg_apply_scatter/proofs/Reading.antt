-- What a worker reads over an edge, and the words and the list as it goes on.
use Rattle.std.proofs.Common.{◌≡◌, ℕ, ◌<◌, ◌+◌, List, [], ◌∷◌, ◌++◌, length, get_or, take, map, subst, ◌∙◌, ap}
use Rattle.std.specs.Prelude.{Contains}
use Rattle.std.proofs.lemmas.List.{get_or_default, take_more, map-append}
use Rattle.pg_graph.specs.declared.edge.Edge.{Edge}
use Rattle.pg_graph.specs.declared.edge.Side.{Side}
use Rattle.pg_graph.specs.Multigraph.{Multigraph, end_of, end_at}
use Rattle.pg_law.specs.Program.{Program}
use Rattle.pg_edge_store.specs.Store.{Store, local_at}
use Rattle.pg_mirrors.specs.Mirrors.{Mirrors, datum_at}
use Rattle.pg_gather.specs.Partials.{IsReadable, replica_of}
use Rattle.pg_gather.proofs.Reading.{replica_at, end_within, end_vertex}
use Rattle.pg_apply_scatter.specs.Sending.{AreReplicas, IsBetweenReplicas}

-- the datum of a vertex with a replica is the program's
pub replica_own : {Acc Carry : Type 0} (p : Program Acc Carry) (m : Mirrors) (v : ℕ) → AreReplicas p m → Contains m.vertices v → p.IsDatum (replica_of m v)
replica_own p m v replicas has = let is = replica_at m v has.0 replicas.ascending has.1 (get_or_default m.vertices has.0 0 v has.1 ∙ has.2) in
    subst p.IsDatum is (replicas.values has.0 has.1)

-- an end of an edge, read at the place of its replica
module _ {Acc Carry : Type 0} (p : Program Acc Carry) (g : Multigraph) (m : Mirrors) (e : ℕ) (local : Edge) (replicas : AreReplicas p m) (between : IsBetweenReplicas g m e local) (side : Side) where
  pub end_datum : datum_at m.values (end_of side local) ≡ replica_of m (end_at g side e)
  end_datum = replica_at m (end_at g side e) (end_of side local) replicas.ascending (between.within side) (between.ends side)

  pub end_own : p.IsDatum (datum_at m.values (end_of side local))
  end_own = replicas.values (end_of side local) (between.within side)

-- a store's edge is between the replicas of its ends
pub replicas_here : {Acc Carry : Type 0} (p : Program Acc Carry) (g : Multigraph) (s : Store) (m : Mirrors) (i : ℕ) → IsReadable p g s m → i < length s.numbers → IsBetweenReplicas g m (get_or s.numbers i 0) (local_at s i)
replicas_here p g s m i readable h = record { within = end_within p g s m readable i h; ends = end_vertex p g s m readable i h }

-- a map over one item more
pub map_more : {X Y : Type 0} (f : X → Y) (xs : List X) (i : ℕ) (d : X) → i < length xs → map f (take (i + 1) xs) ≡ map f (take i xs) ++ f (get_or xs i d) ∷ []
map_more f xs i d h = ap (map f) (take_more xs i d h) ∙ map-append f (take i xs) (get_or xs i d ∷ [])
