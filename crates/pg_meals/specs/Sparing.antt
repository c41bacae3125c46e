-- How many calls of gather kept gathers spare.
use Rattle.std.specs.Prelude.{ℕ, ◌+◌, ◌≡◌, ◌≢◌, ◌≤◌, ◌&&◌, not, length, sum_by, List, [], ◌∷◌, Bool, true, false, cond, Option, Some, None, is_some}
use Rattle.pg_graph.specs.Multigraph.{takes, vertices}
use Rattle.pg_law.specs.declared.values.Near.{Near}
use Rattle.pg_law.specs.declared.values.Delta.{Delta}
use Rattle.pg_law.specs.declared.values.Delta.TheVariants.{Nothing, Add, Clear}
use Rattle.pg_law.specs.Program.{Program}
use Rattle.pg_law.specs.Laws.{IsNear}
use Rattle.pg_law.specs.Round.{edges_over}
use Rattle.pg_meals.specs.Families.{total}
use Rattle.pg_meals.specs.Shape.{Shape, at_end}
use Rattle.pg_meals.specs.Core.{Core, Prepared}
use Rattle.pg_meals.specs.Standing.{waiting}
use Rattle.pg_meals.specs.Acts.{Commit}
use Rattle.pg_meals.specs.Setting.{Setting, shape_in, IsSetting, Stands}
use Rattle.pg_meals.specs.Runs.{Deed, Acts, Does, Runs}

module _ {A C : Type 0} (p : Program A C) where
  -- over how many edges v gathers
  abbrev pub gather_degree : Shape → ℕ → ℕ
  gather_degree g v =
      total ◌+◌ 0 (λ e. at_end g v e (λ s. cond (takes p.gather_edges s) 1 0) 0) g.edges

  abbrev pub is_clear : Delta A → Bool
  is_clear Nothing = false
  is_clear (Add a) = false
  is_clear Clear = true

  -- v has a gather that can be used
  abbrev pub has_gather : Shape → Core A → ℕ → Bool
  has_gather g c v = is_some (c.place v).cell.acc && not (is_clear (waiting p g c v))

  -- what preparing v takes in calls of gather
  abbrev pub cost : Shape → Core A → ℕ → ℕ
  cost g c v = cond (has_gather g c v) 0 (gather_degree g v)

  abbrev pub cost_of : Shape → Core A → Option ℕ → ℕ
  cost_of g c None = 0
  cost_of g c (Some v) = cost g c v

  -- what was spent for an entry: the cost stays from the preparing to the entry (CostsStay)
  abbrev pub spent_by : Shape → Core A → ℕ → Deed → ℕ
  spent_by g c a (Acts Commit) = cost_of g c (c.words.grip a).vertex
  spent_by g c a _ = 0

  -- what was spent for all entries of a run
  abbrev pub spent : (g : Shape) (fuel : ℕ) (c : Core A) (ds : List (ℕ × Deed)) (c' : Core A)
      → Runs p g fuel c ds c' → ℕ
  spent g fuel c [] c' r = 0
  spent g fuel c (d ∷ ds) c' r = spent_by g c d.0 d.1 + spent g fuel r.0 ds c' r.2

  -- on values of the program its scatter never answers Clear
  abbrev pub NeverClears : Type 0
  NeverClears = (near : Near) (carry : C) → IsNear p near → p.IsCarry carry
      → (p.scatter near carry).delta ≢ Clear

  -- with caches and a program that never clears, each vertex is gathered in full at most once
  abbrev pub GathersSpared : Type 0
  GathersSpared = (x : Setting) → IsSetting p x → x.caches ≡ true → NeverClears
      → (c : Core A) → Stands p x c
      → (ds : List (ℕ × Deed)) (c' : Core A) (r : Runs p (shape_in x) x.fuel c ds c')
      → spent (shape_in x) x.fuel c ds c' r
      ≤ sum_by (λ v. length (edges_over p.gather_edges x.graph v)) (vertices x.graph)

  -- the deed isn't an entry of the actor a
  abbrev pub IsNoEntryOf : ℕ → ℕ → Deed → Type 0
  IsNoEntryOf a b (Acts Commit) = b ≢ a
  IsNoEntryOf a b _ = Unit {0}

  -- while what is prepared for v stands, no deed changes what v takes, but its own entry
  abbrev pub CostsStay : Type 0
  CostsStay = (x : Setting) → IsSetting p x
      → (c : Core A) (a v : ℕ) (q : Prepared A) → Stands p x c
      → (c.words.grip a).vertex ≡ Some v → (c.words.grip a).committed ≡ false
      → (c.notes a).prepared ≡ Some q
      → (b : ℕ) (d : Deed) (c' : Core A) → Does p (shape_in x) x.fuel c b d c' → IsNoEntryOf a b d
      → cost (shape_in x) c' v ≡ cost (shape_in x) c v
