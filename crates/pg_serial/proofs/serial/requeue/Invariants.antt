use Rattle.std.proofs.Common.{◌≡◌, ℕ, ◌==◌, cond, length, take}
use Rattle.std.specs.Prelude.{◌||◌}
use Rattle.pg_serial.specs.Bits.{has}
use Rattle.pg_serial.specs.Sending.{reaches}
use Rattle.pg_serial.proofs.serial.requeue.Given as goal

-- those to whom was sent so far
abbrev pub invariant-loop-sent : goal.invariant-loop-sent
invariant-loop-sent l = record {
  has : (v : ℕ) → has l.queue v ≡ (cond (v == l.u) l.again (has l.fn.queue v) || reaches v (take l.sent-index l.sents));
  room : length l.queue ≡ length l.fn.queue;
}
