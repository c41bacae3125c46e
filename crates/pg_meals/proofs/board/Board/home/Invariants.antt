use Rattle.std.proofs.Common.{ℕ, ◌≡◌, ◌<◌, slice_index_or}
use Rattle.pg_meals.specs.declared.seat.Replica.{Replica}
use Rattle.pg_meals.specs.Entries.{replicas_at}
use Rattle.pg_meals.proofs.board.Board.home.Given as goal

-- the replicas so far are of other workers
abbrev pub invariant-loop-place : goal.invariant-loop-place
invariant-loop-place g l = (i : ℕ) (d : Replica) → i < l.place → (slice_index_or (replicas_at l.self.replicas.items l.vertex) i d).worker ≡ l.worker → ⊥
