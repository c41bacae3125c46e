-- A board whose core keeps its promise can act, and its acts keep the promise.
use Rattle.std.specs.Prelude.{ℕ, ◌≡◌, ◌≤◌, ◌^◌, length, List, IsTrue, true}
use Rattle.std.specs.Vec.{vec_capacity}
use Rattle.pg_graph.specs.Multigraph.{Multigraph, IsMultigraph}
use Rattle.pg_law.specs.Program.{Program}
use Rattle.pg_law.specs.Configuration.{Configuration, IsFit}
use Rattle.pg_delta.specs.declared.cell.CacheCell.{CacheCell}
use Rattle.pg_cut.specs.Cut.{Division, IsCutOf}
use Rattle.pg_meals.specs.declared.board.Board.{Board}
use Rattle.pg_meals.specs.Core.{Core}
use Rattle.pg_meals.specs.Acts.{Act, Outcome}
use Rattle.pg_meals.specs.Listed.{any_word, any_datum}
use Rattle.pg_meals.specs.Setting.{Setting, IsSetting, Stands, AreCells}
use Rattle.pg_meals.specs.Once.{Once}
use Rattle.pg_meals.specs.Entries.{replicas_at, homes}
use Rattle.pg_meals.specs.Shown.{core_of, cut_of}
use Rattle.pg_meals.specs.Opened.{IsOpened}
use Rattle.pg_meals.specs.Tallies.{IsTallied}
use Rattle.pg_meals.specs.Boards.{IsBoard, Acts, ActsByHalves, Frame}

-- what of a board its core doesn't show: as many entries as the graph has, one replica at most of a
-- vertex for each worker, the journal's room, and what is counted
pub record IsLaid {A : Type 0} (g : Multigraph) (b : Board A) : Type 0 where
  pub few : length g.ids ≤ 2 ^ 22
  pub seats : length b.seats.items ≡ length g.ids
  pub forks : length b.forks.items ≡ length g.edges
  pub workers : length b.workers.items ≡ length g.edges
  pub replicas : length b.replicas.items ≡ length g.ids
  pub once : (v : ℕ) → Once (homes (replicas_at b.replicas.items v))
  pub room : b.fuel ≤ vec_capacity b.journal
  pub tallied : IsTallied b

-- the setting of a board over a graph and the state at the start
abbrev pub setting_of : {A : Type 0} → Multigraph → Configuration → Board A → Setting
setting_of g s b = record {
  graph = g;
  cut = cut_of b;
  caches = b.caches;
  fuel = b.fuel;
  opening = s;
}

module _ {A C : Type 0} (p : Program A C) where
  -- the core of a board, with the program's own values beyond the ends of its lists
  abbrev pub core_by : Board A → Core A
  core_by b = core_of (any_word p) (any_datum p) b

  -- the board is laid for the graph, and its core keeps its promise
  pub record IsKept (g : Multigraph) (s : Configuration) (b : Board A) : Type 0 where
    pub setting : IsSetting p (setting_of g s b)
    pub laid : IsLaid g b
    pub stands : Stands p (setting_of g s b) (core_by b)

  -- such a board can act
  abbrev pub KeptCanAct : Type 0
  KeptCanAct = (g : Multigraph) (s : Configuration) (b : Board A) → IsKept g s b → IsBoard g b

  -- and is such a board after each act, where what is counted is still true
  abbrev pub ActsCarry : Type 0
  ActsCarry = (g : Multigraph) (s : Configuration) (b : Board A) (a : ℕ) (act : Act) (b' : Board A)
      (out : Outcome) → IsKept g s b → Acts g b a act b' out → Frame b b' → IsTallied b'
      → IsKept g s b'

  abbrev pub HalvesCarry : Type 0
  HalvesCarry = (g : Multigraph) (s : Configuration) (b : Board A) (a : ℕ) (act : ℕ → Act)
      (b' : Board A) (out : ℕ → Outcome)
      → IsKept g s b → ActsByHalves g b a act b' out → Frame b b' → IsTallied b'
      → IsKept g s b'

  -- a board at the start is one, where the state fits the graph and the cells are true of it
  abbrev pub StartIsKept : Type 0
  StartIsKept = (g : Multigraph) (cut : Division) (s : Configuration) (cells : List (CacheCell A))
      (b : Board A) → IsMultigraph g → IsCutOf g cut → IsFit p g s
      → (b.caches ≡ true → IsTrue p.keeps_deltas) → AreCells p (setting_of g s b) cells
      → IsOpened g cut s cells b → IsBoard g b → IsKept g s b
