-- The gathers of all signalled vertices at once: each edge goes on with those of its ends.
use Rattle.std.specs.Prelude.{◌≡◌, ℕ, ◌<◌, ◌==◌, cond, List, length, slice_index_or}
use Rattle.pg_graph.specs.declared.edge.Side.{Side}
use Rattle.pg_graph.specs.Multigraph.{Multigraph, edge_at, end_at, is_at, side_at, takes}
use Rattle.pg_law.specs.Program.{Program}
use Rattle.pg_law.specs.Configuration.{Configuration, is_signalled}
use Rattle.pg_law.specs.Round.{gathered}

module _ {Acc Carry : Type 0} (p : Program Acc Carry) (g : Multigraph) where
  abbrev pub acc_at : List Acc → ℕ → Acc
  acc_at accs v = slice_index_or accs v p.empty

  module _ (s : Configuration) where
    -- the gather of v goes on over an edge at v, where it is a gather edge
    abbrev pub gather_step : ℕ → Acc → ℕ → Acc
    gather_step v acc e = cond (is_at v (edge_at g e)) (cond (takes p.gather_edges (side_at g v e))
        (p.sum acc (gathered p g s.values s.edges v e)) acc) acc

    -- the same at one end of the edge, where v is that end and signalled
    abbrev pub gather_end : Side → ℕ → ℕ → Acc → Acc
    gather_end side e v acc = cond (end_at g side e == v) (cond (is_signalled s v) (cond (takes p.gather_edges side)
        (p.sum acc (gathered p g s.values s.edges v e)) acc) acc) acc

    -- how many gathers that is
    abbrev pub count_end : Side → ℕ → ℕ
    count_end side e = cond (is_signalled s (end_at g side e)) (cond (takes p.gather_edges side) 1 0) 0

-- a gather of the program for each vertex
pub record AreAccs {Acc Carry : Type 0} (p : Program Acc Carry) (g : Multigraph) (accs : List Acc) : Type 0 where
  pub count : length accs ≡ length g.ids
  pub each : (v : ℕ) → v < length g.ids → p.IsAcc (acc_at p g accs v)
