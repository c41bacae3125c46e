-- What a core promises of a graph, a cut and the state from which it was opened.
use Rattle.std.specs.Prelude.{ℕ, ◌<◌, ◌≡◌, List, slice_index_or, IsTrue, Bool, true, false, Some}
use Rattle.pg_graph.specs.Multigraph.{Multigraph, IsMultigraph}
use Rattle.pg_law.specs.Program.{Program}
use Rattle.pg_law.specs.Configuration.{Configuration, IsFit}
use Rattle.pg_law.specs.Round.{fresh}
use Rattle.pg_law.specs.Journal.{IsLegal, replay}
use Rattle.pg_delta.specs.declared.cell.CacheCell.{CacheCell}
use Rattle.pg_delta.specs.Cell.{IsCell, cleared}
use Rattle.pg_delta.specs.Truth.{IsTrueOf}
use Rattle.pg_meals.specs.Shape.{Shape}
use Rattle.pg_meals.specs.Core.{Core, Prepared, half_of}
use Rattle.pg_meals.specs.Standing.{stands}
use Rattle.pg_meals.specs.StandsFor.{Invariant, IsPrepared}
use Rattle.pg_meals.specs.Listed.{Cut, IsCut, shape_of, serial_of, configuration_of}

-- what a core is opened over: a graph and its cut, whether gathers are kept, how many entries there
-- may be at most, and the state at the start
pub record Setting : Type 0 where
  pub graph : Multigraph
  pub cut : Cut
  pub caches : Bool
  pub fuel : ℕ
  pub opening : Configuration

abbrev pub shape_in : Setting → Shape
shape_in x = shape_of x.graph x.cut x.caches

abbrev pub cell_at : {Acc : Type 0} → List (CacheCell Acc) → ℕ → CacheCell Acc
cell_at cells v = slice_index_or cells v cleared

module _ {Acc Carry : Type 0} (p : Program Acc Carry) where
  -- the state fits the graph, and gathers are kept only for a program that keeps deltas
  pub record IsSetting (x : Setting) : Type 0 where
    pub graph : IsMultigraph x.graph
    pub cut : IsCut x.graph x.cut
    pub fit : IsFit p x.graph x.opening
    pub deltas : x.caches ≡ true → IsTrue p.keeps_deltas

  -- the journal is legal, the core stands for the state after its replay, the invariant holds, and
  -- what is prepared and not committed are values of the program
  pub record Stands (x : Setting) (c : Core Acc) : Type 0 where
    pub legal : IsLegal p x.graph x.opening c.words.journal
    pub fit : IsFit p x.graph (replay p x.graph x.opening c.words.journal)
    pub replayed : configuration_of x.graph (stands p (shape_in x) c)
        ≡ replay p x.graph x.opening c.words.journal
    pub kept : Invariant p (shape_in x) x.fuel (serial_of p x.opening) c
    pub prepared : (a v : ℕ) (q : Prepared Acc)
        → (c.words.grip a).vertex ≡ Some v → (c.words.grip a).committed ≡ false
        → (c.notes a).prepared ≡ Some q → IsPrepared p (shape_in x) v q

  -- a cell for each vertex, true of its fresh gather; of nothing, where there are no caches
  pub record AreCells (x : Setting) (cells : List (CacheCell Acc)) : Type 0 where
    pub own : (v : ℕ) → IsCell p (cell_at cells v)
    pub kept : (v : ℕ) (a : Acc) → (cell_at cells v).acc ≡ Some a → x.caches ≡ true
    pub true_of : (v : ℕ) → IsTrueOf p.sum (cell_at cells v) (fresh p x.graph x.opening v)

  -- each half of each replica is that half of the vertex's datum
  abbrev pub AreReplicas : Setting → (ℕ → ℕ → ℕ → ℕ) → Type 0
  AreReplicas x replica = (v k h : ℕ) → x.cut.spans v k ≡ true → h < 2
      → replica v k h ≡ half_of h ((serial_of p x.opening).value v)
