-- A board at the start is the core at the start.
use Rattle.std.specs.Prelude.{ℕ, ◌≡◌, List, [], slice_index_or, true, Option, Some, None, Vec}
use Rattle.std.specs.declared.alloc.Global.{Global}
use Rattle.pg_graph.specs.Multigraph.{Multigraph}
use Rattle.pg_law.specs.declared.values.Datum.{Datum}
use Rattle.pg_law.specs.Configuration.{Configuration, message_in}
use Rattle.pg_delta.specs.declared.cell.CacheCell.{CacheCell}
use Rattle.pg_cut.specs.Cut.{Division, span_in}
use Rattle.pg_meals.specs.declared.board.Board.{Board}
use Rattle.pg_meals.specs.Serial.{Serial}
use Rattle.pg_meals.specs.Listed.{Cut}
use Rattle.pg_meals.specs.Setting.{cell_at}
use Rattle.pg_meals.specs.Runs.{opened}
use Rattle.pg_meals.specs.Once.{is_among}
use Rattle.pg_meals.specs.Entries.{replicas_at, replica_in}
use Rattle.pg_meals.specs.Shown.{half_in, core_of, cut_of, shape_on}

-- a state as families, with any word and datum beyond the ends of its lists
abbrev pub serial_with : ℕ → Datum → Configuration → Serial
serial_with w d s = record {
  value = λ v. slice_index_or s.values v d;
  word = λ e. slice_index_or s.edges e w;
  message = λ v. message_in s.messages v;
}

-- the cells that were handed in, or none
abbrev pub cells_in : {A : Type 0} → Option (Vec (CacheCell A) Global) → List (CacheCell A)
cells_in None = []
cells_in (Some cells) = cells.items

-- a division as the core sees it
abbrev pub cut_in : Division → Cut
cut_in cut = record {
  worker = λ e. slice_index_or cut.place e 0;
  spans = λ v k. is_among k (span_in cut v);
}

-- the replicas of a board as families
abbrev pub copies_in : {A : Type 0} → Board A → ℕ → ℕ → ℕ → ℕ
copies_in b v k h = half_in h (replica_in (replicas_at b.replicas.items v) k).datum

-- the board is the core at the start over this state, each replica with the datum of its vertex
pub record IsOpened {A : Type 0} (g : Multigraph) (cut : Division) (s : Configuration)
    (cells : List (CacheCell A)) (b : Board A) : Type 0 where
  pub core : (w : ℕ) (d : Datum)
      → core_of w d b ≡ opened (shape_on g b) (serial_with w d s) (copies_in b) (cell_at cells)
  pub placed : cut_of b ≡ cut_in cut
  pub copies : (d : Datum) (v k : ℕ) → is_among k (span_in cut v) ≡ true
      → (replica_in (replicas_at b.replicas.items v) k).datum ≡ slice_index_or s.values v d
