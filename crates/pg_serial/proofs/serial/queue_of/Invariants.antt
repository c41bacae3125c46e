use Rattle.std.proofs.Common.{◌≡◌, ℕ, ◌≤◌, ◌*◌, false, cond, nat_lt, length}
use Rattle.pg_law.specs.Configuration.{is_signalled}
use Rattle.pg_serial.specs.Bits.{has}
use Rattle.pg_serial.proofs.serial.queue_of.Given as goal

-- those of the vertices so far
abbrev pub invariant-loop-v : goal.invariant-loop-v
invariant-loop-v l = record {
  has : (q : ℕ) → has l.queue q ≡ cond (nat_lt q l.v) (is_signalled l.state q) false;
  room : length l.graph.ids ≤ 64 * length l.queue;
}
