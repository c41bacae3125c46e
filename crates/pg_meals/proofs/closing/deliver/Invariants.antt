use Rattle.std.proofs.Common.{ℕ, ◌≡◌, ◌<◌, length}
use Rattle.pg_law.specs.Configuration.{message_in}
use Rattle.pg_meals.specs.Closing.{delivered}
use Rattle.pg_meals.proofs.closing.deliver.Given as goal

-- what rides on the forks so far is delivered
abbrev pub invariant-loop-e : goal.invariant-loop-e
invariant-loop-e g l = record {
  len : length l.messages.items ≡ length l.graph.ids;
  joined : (v : ℕ) → v < length l.graph.ids
      → message_in l.messages.items v ≡ delivered (g.P.VertexProgram.meaning l.program).combine l.graph l.forks v l.e (message_in l.fn.messages.items v);
}
