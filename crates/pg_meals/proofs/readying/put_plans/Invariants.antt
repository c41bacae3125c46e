use Rattle.std.proofs.Common.{ℕ, ◌≡◌, ◌≤◌, take, length, slice_index_or}
use Rattle.std.specs.Prelude.{map}
use Rattle.pg_meals.specs.declared.fork.Carried.{Carried}
use Rattle.pg_meals.specs.Readied.{ArePlanned}
use Rattle.pg_meals.proofs.readying.put_plans.Given as goal

-- the forks so far have their plans, and the other plans are still there
abbrev pub invariant-loop-place : goal.invariant-loop-place
invariant-loop-place g l = record {
  done : (plan : ℕ → Carried g.row.A.Denot) → l.fn.plans.items ≡ map plan l.edges → ArePlanned l.fn.forks.items plan (take l.place l.edges) l.forks.items;
  same : length l.forks.items ≡ length l.fn.forks.items;
  rest : (i : ℕ) (d : Carried g.row.A.Denot) → l.place ≤ i → slice_index_or l.plans.items i d ≡ slice_index_or l.fn.plans.items i d;
  count : length l.plans.items ≡ length l.fn.plans.items;
}
