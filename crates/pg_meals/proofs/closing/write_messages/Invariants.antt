use Rattle.std.proofs.Common.{length}
use Rattle.pg_law.specs.Values.{two}
use Rattle.pg_meals.specs.Entries.{seat_at}
use Rattle.pg_meals.proofs.Left.{IsFilled}
use Rattle.pg_meals.proofs.closing.write_messages.Given as goal

-- the messages so far are written
abbrev pub invariant-loop-v : goal.invariant-loop-v
invariant-loop-v g l = IsFilled (λ v. (seat_at (two 0 0) l.seats v).message) l.v (length l.seats) l.messages.items
