-- A step: of the signalled vertices, those that a test names execute at once. A round is the step
-- of all, and a serial execution the step of one.
use Rattle.std.specs.Prelude.{◌≡◌, ℕ, Bool, None, Some, Option, ◌⊎◌}
use Rattle.pg_graph.specs.declared.edge.Side.{Side}
use Rattle.pg_graph.specs.declared.edge.Side.TheVariants.{Source, Target}
use Rattle.pg_graph.specs.Multigraph.{Multigraph, info}
use Rattle.pg_law.specs.declared.values.Applied.{Applied}
use Rattle.pg_law.specs.Program.{Program}
use Rattle.pg_law.specs.Configuration.{Configuration, datum_in, message_in}
use Rattle.pg_law.specs.Round.{fresh, outcome, outcomes, scatter_after, signal_in}
use Rattle.pg_law.specs.Round.{from_source, from_target}

module _ {Acc Carry : Type 0} (p : Program Acc Carry) (g : Multigraph) (s : Configuration) where
  abbrev pub step : (ℕ → Bool) → Configuration
  step executes = scatter_after p g s (outcomes p g s executes)

  -- what a vertex becomes by this message
  abbrev pub applied_by : ℕ → ℕ → Applied Carry
  applied_by v m = p.apply (info g v) (datum_in s.values v) (fresh p g s v) m

  -- it executes, by a message that waited for it
  abbrev pub Executes : (ℕ → Bool) → ℕ → Type 0
  Executes executes v = (m : ℕ) × (message_in s.messages v ≡ Some m)
      × (outcome p g s executes v ≡ Some (applied_by v m))

  abbrev pub Turn : (ℕ → Bool) → ℕ → Type 0
  Turn executes v = (outcome p g s executes v ≡ None) ⊎ Executes executes v

  -- what an edge sends from its end at this side to the other end
  abbrev pub sent : (ℕ → Bool) → Side → ℕ → Option ℕ
  sent executes Source e = let became = outcomes p g s executes in
      signal_in (from_source p g (step executes).values s.edges became e)
  sent executes Target e = let became = outcomes p g s executes in
      signal_in (from_target p g (step executes).values s.edges became e)
