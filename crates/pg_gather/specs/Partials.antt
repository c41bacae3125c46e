-- What one worker gathers: over the edges of its own store, through its own replicas.
use Rattle.std.specs.Prelude.{◌≡◌, ℕ, ◌<◌, Bool, ◌==◌, List, length, slice_index, map, filter, fold, sum_by, All, Contains}
use Rattle.std.specs.List.{list_any, position_or_len}
use Rattle.std.specs.List.Sorted.{IsStrictlyIncreasing}
use Rattle.pg_graph.specs.declared.edge.Side.{Side}
use Rattle.pg_graph.specs.Multigraph.{Multigraph, end_at, side_at, opposite, edge_info}
use Rattle.pg_law.specs.declared.values.Datum.{Datum}
use Rattle.pg_law.specs.declared.values.Near.{Near}
use Rattle.pg_law.specs.Program.{Program}
use Rattle.pg_edge_store.specs.Store.{Store, IsOver, places_around}
use Rattle.pg_mirrors.specs.Mirrors.{Mirrors, datum_at}

-- whether a vertex has a replica here, and the datum of its replica
abbrev pub has_replica : Mirrors → ℕ → Bool
has_replica m v = list_any (λ u. u == v) m.vertices

abbrev pub replica_of : Mirrors → ℕ → Datum
replica_of m v = datum_at m.values (position_or_len (λ u. u == v) m.vertices)

-- the edge at a place of the store, as its end at this side sees it from here
abbrev pub near_at : Multigraph → Store → Mirrors → Side → ℕ → Near
near_at g s m side place = let e = slice_index s.numbers place in
    record {
      side = side;
      edge = edge_info g e;
      word = slice_index s.words place;
      centre = replica_of m (end_at g side e);
      other = replica_of m (end_at g (opposite side) e);
    }

-- an edge of the store, and each end of it has a replica here
pub record IsReadableAt (g : Multigraph) (m : Mirrors) (e : ℕ) : Type 0 where
  pub edge : e < length g.edges
  pub ends : (side : Side) → Contains m.vertices (end_at g side e)

-- the store is of this graph, its edges stand between these replicas, and all values are those of
-- the program
pub record IsReadable {Acc Carry : Type 0} (p : Program Acc Carry) (g : Multigraph)
    (s : Store) (m : Mirrors) : Type 0 where
  pub over : IsOver g s
  pub vertices : s.vertices ≡ m.vertices
  pub edges : All (IsReadableAt g m) s.numbers
  pub words : (i : ℕ) → i < length s.numbers → p.IsWord (slice_index s.words i)
  pub ascending : IsStrictlyIncreasing m.vertices
  pub values : (i : ℕ) → i < length m.vertices → p.IsDatum (datum_at m.values i)

module _ {Acc Carry : Type 0} (p : Program Acc Carry) (g : Multigraph) (s : Store) (m : Mirrors) where
  -- what a vertex gathers over the edge at a place, and over those at a list of places
  abbrev pub gathered_at : ℕ → ℕ → Acc
  gathered_at u place = p.gather (near_at g s m (side_at g u (slice_index s.numbers place)) place)

  abbrev pub sum_at : ℕ → List ℕ → Acc
  sum_at u places = fold (λ acc place. p.sum acc (gathered_at u place)) p.empty places

  -- the part of a vertex's gather that this worker has
  abbrev pub partial_sum : ℕ → Acc
  partial_sum u = sum_at u (places_around g s.numbers u p.gather_edges)

  -- the parts of the wanted vertices that have a replica here, in order
  abbrev pub partial_sums : List ℕ → List (ℕ × Acc)
  partial_sums wanted = map (λ u. (u, partial_sum u)) (filter (has_replica m) wanted)

  -- over how many edges the wanted vertices gather here
  abbrev pub gathers_here : List ℕ → ℕ
  gathers_here wanted =
      sum_by (λ u. length (places_around g s.numbers u p.gather_edges)) wanted
