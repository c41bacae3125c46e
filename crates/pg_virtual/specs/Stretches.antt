-- What a stretch of a run makes.
use Rattle.std.specs.Prelude.{ℕ, ◌≡◌, ◌<◌, ◌≤◌, ◌⊎◌, length, [], Bool, true, false, Option, Some, None, Vec}
use Rattle.std.specs.declared.alloc.Global.{Global}
use Rattle.pg_graph.specs.Multigraph.{Multigraph}
use Rattle.pg_law.specs.Program.{Program}
use Rattle.pg_law.specs.Configuration.{Configuration, IsFit, is_quiet}
use Rattle.pg_law.specs.Journal.{replay, IsLegal}
use Rattle.pg_cut.specs.Cut.{Division}
use Rattle.pg_delta.specs.declared.cell.CacheCell.{CacheCell}
use Rattle.pg_meals.specs.declared.table.Closed.{Closed}
use Rattle.pg_meals.specs.declared.board.Board.{Board}
use Rattle.pg_meals.specs.Once.{is_among}
use Rattle.pg_meals.specs.Entries.{replicas_at, homes}
use Rattle.pg_meals.specs.Boards.{Frame}
use Rattle.pg_meals.specs.Tables.{Table, AreCaches, IsSameTable}

-- no replica is on a worker beyond those that a cut may have
abbrev pub HasFewWorkers : {A : Type 0} → Board A → Type 0
HasFewWorkers b = (v k : ℕ) → is_among k (homes (replicas_at b.replicas.items v)) ≡ true → k < 64

-- a table over this graph, with so many actors
pub record IsSeated {Prog Acc : Type 0} (g : Multigraph) (count : ℕ) (t : Table Prog Acc)
    : Type 0 where
  pub graph : t.graph ≡ g
  pub actors : length t.board.actors.items ≡ count
  pub workers : HasFewWorkers t.board

-- only the board is another, with as many actors, as much fuel and the same cut
pub record IsPlayed {Prog Acc : Type 0} (t t' : Table Prog Acc) : Type 0 where
  pub same : IsSameTable t t'
  pub frame : Frame t.board t'.board

-- a legal journal of so many entries at most, the state after it, and cells that are true of it
pub record IsStretch {Acc Carry : Type 0} (p : Program Acc Carry) (g : Multigraph)
    (s : Configuration) (fuel : ℕ) (closed : Closed Acc) : Type 0 where
  pub legal : IsLegal p g s closed.journal.items
  pub within : length closed.journal.items ≤ fuel
  pub state : closed.state ≡ replay p g s closed.journal.items
  pub fit : IsFit p g closed.state
  pub caches : (cut : Division) → AreCaches p g cut closed.state closed.caches

-- it has an entry where something is signalled
abbrev pub GoesOn : {Acc : Type 0} → Multigraph → Closed Acc → Type 0
GoesOn g closed = (is_quiet g closed.state ≡ true) ⊎ (0 < length closed.journal.items)

-- no cell is known any more, where there are cells
abbrev pub AreForgotten : {Acc : Type 0} → Option (Vec (CacheCell Acc) Global)
    → Option (Vec (CacheCell Acc) Global) → Type 0
AreForgotten None after = after ≡ None
AreForgotten (Some cells) None = ⊥
AreForgotten (Some cells) (Some after) = after.items ≡ []

-- no cells, or none that is known
abbrev pub AreFirst : {Acc : Type 0} → Bool → Option (Vec (CacheCell Acc) Global) → Type 0
AreFirst kept None = kept ≡ false
AreFirst kept (Some cells) = (kept ≡ true) × (cells.items ≡ [])
