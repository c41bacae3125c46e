use Rattle.std.proofs.Common.{length, ap, arith}
use Rattle.pg_greedy.proofs.Stepping.{degree_within}
use Rattle.pg_greedy.proofs.table.GreedyTable.target_has_more.Goals as goal

pub overflow_cast-of_src : goal.overflow_cast-of_src
overflow_cast-of_src c = omega (arith, ap length c.edges_of.ensures.value, degree_within c.self.inside.graph.now c.args.edge.src, c.self.invariant.graph.edge_count)

pub overflow_cast-of_dst : goal.overflow_cast-of_dst
overflow_cast-of_dst c = omega (arith, ap length c.edges_of-2.ensures.value, degree_within c.self.inside.graph.now c.args.edge.dst, c.self.invariant.graph.edge_count)
