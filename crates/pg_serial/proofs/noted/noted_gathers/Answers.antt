use Rattle.std.proofs.Common.{length, get_or, false, arith}
use Rattle.pg_graph.proofs.Numbers.{summed_more}
use Rattle.pg_law.specs.Round.{edges_over}
use Rattle.pg_serial.proofs.noted.noted_gathers.Goals as goal

pub loop-v-preserved : goal.loop-v-preserved
loop-v-preserved c = record {
  sum = summed_more (λ v. length (edges_over c.args.dir c.args.graph.now v)) (λ v. get_or c.args.noted.now v false) c.loop-v.v _ _ c.loop-v.invariant.sum c.noted_degree-sum.ensures.value;
  few = omega (arith, c.loop-v.invariant.few, c.noted_degree-sum.ensures.few);
}
