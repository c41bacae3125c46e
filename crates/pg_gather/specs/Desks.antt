-- The desks of a worker: for each replica its datum, and the sum of its vertex so far.
use Rattle.std.specs.Prelude.{◌≡◌, ℕ, ◌<◌, ◌==◌, Bool, cond, Option, Some, None, List, length, slice_index, slice_index_or, filter, IfSome}
use Rattle.std.specs.List.{list_any, range_with_len}
use Rattle.std.specs.Option.{option_map}
use Rattle.pg_graph.specs.declared.edge.Side.{Side}
use Rattle.pg_graph.specs.Multigraph.{Multigraph, edge_at, end_at, end_of, takes}
use Rattle.pg_law.specs.declared.values.Datum.{Datum}
use Rattle.pg_law.specs.Values.{one}
use Rattle.pg_law.specs.Program.{Program}
use Rattle.pg_edge_store.specs.Store.{Store, local_at, is_around}
use Rattle.pg_mirrors.specs.Mirrors.{Mirrors, datum_at}
use Rattle.pg_gather.specs.declared.desk.Desk.{Desk}
use Rattle.pg_gather.specs.Partials.{near_at, sum_at}

abbrev pub desk : {Acc : Type 0} → Datum → Option Acc → Desk Acc
desk datum sum = record { datum = datum; sum = sum }

abbrev pub desk_at : {Acc : Type 0} → List (Desk Acc) → ℕ → Desk Acc
desk_at desks r = slice_index_or desks r (desk (one 0) None)

-- each replica has a desk, with its datum and a sum of the program, if any
pub record AreDesks {Acc Carry : Type 0} (p : Program Acc Carry) (m : Mirrors)
    (desks : List (Desk Acc)) : Type 0 where
  pub count : length desks ≡ length m.vertices
  pub datum : (r : ℕ) → r < length m.vertices → (desk_at desks r).datum ≡ datum_at m.values r
  pub own : (r : ℕ) → r < length m.vertices → IfSome (desk_at desks r).sum p.IsAcc

-- whether a vertex is wanted
abbrev pub is_wanted : List ℕ → ℕ → Bool
is_wanted wanted u = list_any (λ v. v == u) wanted

module _ {Acc Carry : Type 0} (p : Program Acc Carry) (g : Multigraph) (s : Store) (m : Mirrors) where
  -- what a vertex gathers over the places below a number
  abbrev pub sum_below : ℕ → ℕ → Acc
  sum_below count u = sum_at p g s m u
      (filter (λ i. is_around u p.gather_edges (edge_at g (slice_index s.numbers i)))
      (range_with_len 0 count))

  -- each desk whose vertex is wanted has that sum, and the others have none
  abbrev pub HaveSums : List ℕ → ℕ → List (Desk Acc) → Type 0
  HaveSums wanted count desks = (r : ℕ) → r < length m.vertices → (desk_at desks r).sum
      ≡ (let u = slice_index m.vertices r in
      cond (is_wanted wanted u) (Some (sum_below count u)) None)

  -- a sum at a desk, once the end of the edge at a place is gone over
  abbrev pub end_sum : Side → ℕ → ℕ → Option Acc → Option Acc
  end_sum side place r sum = cond (end_of side (local_at s place) == r)
      (cond (takes p.gather_edges side)
      (option_map (λ acc. p.sum acc (p.gather (near_at g s m side place))) sum) sum) sum

  -- how many gathers that is
  abbrev pub end_count : List ℕ → Side → ℕ → ℕ
  end_count wanted side place =
      cond (is_wanted wanted (end_at g side (slice_index s.numbers place))) (cond (takes p.gather_edges side) 1 0) 0
