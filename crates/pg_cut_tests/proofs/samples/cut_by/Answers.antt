use Rattle.std.proofs.Common.{ap, length, arith}
use Rattle.pg_cut_tests.proofs.samples.cut_by.Goals as goal

pub of-requires : goal.of-requires
of-requires g c = record {
  some = omega arith;
  few = omega arith;
  count = omega (arith, ap length c.edges.ensures.value, c.loop-worker.invariant.count);
  each = λ e h. c.loop-worker.invariant.each e 0 h;
}
