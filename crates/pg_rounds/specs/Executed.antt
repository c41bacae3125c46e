-- Which vertices execute in rounds.
use Rattle.std.specs.Prelude.{ℕ, zero, suc, Bool, false, cond, ◌||◌, List, filter}
use Rattle.pg_graph.specs.Multigraph.{Multigraph, vertices}
use Rattle.pg_law.specs.Configuration.{Configuration, is_signalled, is_quiet}
use Rattle.pg_law.specs.Program.{Program}
use Rattle.pg_law.specs.Round.{round}

module _ {Acc Carry : Type 0} (p : Program Acc Carry) (g : Multigraph) where
  -- whether a vertex executes in rounds until nothing is signalled, or so many
  unfoldable pub executes : Configuration → ℕ → ℕ → Bool
  executes s zero u = false
  executes s (suc limit) u = cond (is_quiet g s) false
      (is_signalled s u || executes (round p g s) limit u)

  -- the distinct vertices that execute, ascending
  abbrev pub executed : Configuration → ℕ → List ℕ
  executed s limit = filter (executes s limit) (vertices g)
