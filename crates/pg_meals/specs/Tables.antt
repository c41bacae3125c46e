-- What a table of actors is.
use Rattle.std.specs.Prelude.{ℕ, ◌≡◌, ◌<◌, ◌≤◌, length, IsTrue, false, Option, Some, None, is_some, Vec}
use Rattle.std.specs.declared.alloc.Global.{Global}
use Rattle.pg_graph.specs.Multigraph.{Multigraph}
use Rattle.pg_law.specs.Program.{Program}
use Rattle.pg_law.specs.Configuration.{Configuration, is_signalled}
use Rattle.pg_law.specs.Journal.{replay}
use Rattle.pg_delta.specs.declared.cell.CacheCell.{CacheCell}
use Rattle.pg_cut.specs.Cut.{Division}
use Rattle.pg_meals.specs.declared.board.Board.{Board}
use Rattle.pg_meals.specs.Setting.{AreCells}
use Rattle.pg_meals.specs.Opened.{cut_in}
use Rattle.pg_meals.specs.Stuck.{IsFirst}
use Rattle.pg_meals.specs.Carrying.{setting_of}

-- a program, a graph, the state at the start, and a board
pub record Table (Prog Acc : Type 0) : Type 0 where
  pub program : Prog
  pub graph : Multigraph
  pub opening : Configuration
  pub board : Board Acc

-- no cells, or for a program that keeps deltas one for each vertex, true of the state
abbrev pub AreCaches : {Acc Carry : Type 0} → Program Acc Carry → Multigraph → Division
    → Configuration → Option (Vec (CacheCell Acc) Global) → Type 0
AreCaches p g cut s None = Unit {0}
AreCaches p g cut s (Some cells) =
    IsTrue p.keeps_deltas × (length cells.items ≤ length g.ids)
    × AreCells p (record {
      graph = g;
      cut = cut_in cut;
      caches = is_some (Some cells);
      fuel = 0;
      opening = s;
    }) cells.items

-- the state for which a board stands, which began from a state
abbrev pub state_of_board : {Acc Carry : Type 0} → Program Acc Carry → Multigraph → Configuration
    → Board Acc → Configuration
state_of_board p g s b = replay p g s b.journal.items

-- the state for which a table stands
abbrev pub state_of : {Prog Acc Carry : Type 0} → Program Acc Carry → Table Prog Acc → Configuration
state_of p t = state_of_board p t.graph t.opening t.board

-- nothing is signalled there
abbrev pub IsQuietTable : {Prog Acc Carry : Type 0} → Program Acc Carry → Table Prog Acc → Type 0
IsQuietTable p t = (v : ℕ) → v < length t.graph.ids → is_signalled (state_of p t) v ≡ false

-- of all that are, the vertex has the least rank
abbrev pub IsFirstOf : {Prog Acc Carry : Type 0} → Program Acc Carry → Table Prog Acc → ℕ → Type 0
IsFirstOf p t u =
    IsFirst (setting_of t.graph t.opening t.board) (state_of p t) t.board.journal.items u

-- all but the board is as before, and there are as many actors
pub record IsSameTable {Prog Acc : Type 0} (t t' : Table Prog Acc) : Type 0 where
  pub program : t'.program ≡ t.program
  pub graph : t'.graph ≡ t.graph
  pub opening : t'.opening ≡ t.opening
  pub actors : length t'.board.actors.items ≡ length t.board.actors.items
