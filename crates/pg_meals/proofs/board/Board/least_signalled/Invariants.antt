use Rattle.pg_meals.proofs.Firsts.{IsFound}
use Rattle.pg_meals.proofs.board.Board.least_signalled.Given as goal

-- the first of the signalled vertices so far
abbrev pub invariant-loop-vertex : goal.invariant-loop-vertex
invariant-loop-vertex g l = IsFound l.graph l.self l.vertex l.first
