-- What preparing on a board is.
use Rattle.std.specs.Prelude.{ℕ, ◌≡◌, map}
use Rattle.pg_graph.specs.Multigraph.{Multigraph, edges_at}
use Rattle.pg_law.specs.declared.values.Applied.{Applied}
use Rattle.pg_law.specs.Program.{Program}
use Rattle.pg_meals.specs.declared.board.Board.{Board}
use Rattle.pg_meals.specs.declared.preparing.Draft.{Draft}
use Rattle.pg_meals.specs.Core.{Prepared}
use Rattle.pg_meals.specs.Preparing.{MayPrepare, applied_noted, gather_noted, prepared_by}
use Rattle.pg_meals.specs.Runs.{Prepares, Does}
use Rattle.pg_meals.specs.Sparing.{cost, cost_of}
use Rattle.pg_meals.specs.Entries.{actor_at}
use Rattle.pg_meals.specs.Shown.{shape_on}
use Rattle.pg_meals.specs.Carrying.{core_by}
use Rattle.pg_meals.specs.Plans.{planned_over}

module _ {A C : Type 0} (p : Program A C) (g : Multigraph) where
  -- the actor may prepare v with the message m, or may prepare nothing
  abbrev pub MayPrepareOn : Board A → ℕ → ℕ → ℕ → Type 0
  MayPrepareOn b a v m = MayPrepare p (shape_on g b) (core_by p b) a v m

  abbrev pub MayNotPrepare : Board A → ℕ → Type 0
  MayNotPrepare b a = (v m : ℕ) → MayPrepareOn b a v m → ⊥

  -- what it gathers then, what it becomes, and what is prepared
  abbrev pub gather_on : Board A → ℕ → ℕ → A
  gather_on b a v = gather_noted p (shape_on g b) (core_by p b) a v

  abbrev pub applied_on : Board A → ℕ → ℕ → ℕ → Applied C
  applied_on b a v m = applied_noted p (shape_on g b) (core_by p b) a v m

  abbrev pub prepared_on : Board A → ℕ → ℕ → ℕ → Prepared A
  prepared_on b a v m = prepared_by p (shape_on g b) (core_by p b) a v m

  -- how many calls of gather it takes
  abbrev pub cost_on : Board A → ℕ → ℕ
  cost_on b v = cost p (shape_on g b) (core_by p b) v

  abbrev pub cost_by : Board A → ℕ → ℕ
  cost_by b a = cost_of p (shape_on g b) (core_by p b) (actor_at b.actors.items a).vertex

  -- the actor has prepared
  abbrev pub PreparesOn : Board A → ℕ → Board A → Type 0
  PreparesOn b a b' = Does p (shape_on g b) b.fuel (core_by p b) a Prepares (core_by p b')

  -- the draft is what is prepared, with a plan for each fork of v
  pub record IsDraft (b : Board A) (a v m : ℕ) (draft : Draft A) : Type 0 where
    pub datum : draft.ready.datum ≡ (prepared_on b a v m).datum
    pub again : draft.ready.again ≡ (prepared_on b a v m).again
    pub cell : draft.cell ≡ (prepared_on b a v m).cell
    pub plans : draft.plans.items
        ≡ map (planned_over p g b.forks.items v (applied_on b a v m)) (edges_at g v)
