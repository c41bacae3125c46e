use Rattle.std.proofs.Common.{ℕ, ◌≡◌, ◌<◌, false}
use Rattle.std.specs.Prelude.{is_some}
use Rattle.pg_meals.specs.Entries.{actor_at}
use Rattle.pg_meals.proofs.board.Board.is_free.Given as goal

-- the actors so far have no vertex in hand
abbrev pub invariant-loop-actor : goal.invariant-loop-actor
invariant-loop-actor g l = (a : ℕ) → a < l.actor-index → is_some (actor_at l.self.actors.items a).vertex ≡ false
