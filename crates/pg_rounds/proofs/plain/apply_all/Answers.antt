use Rattle.std.proofs.Common.{◌≡◌, ◌^◌, ◌≤◌, true, length, ap, arith, ◌∙◌}
use Rattle.std.specs.Prelude.{filter, sum_by}
use Rattle.std.specs.List.{range_with_len}
use Rattle.pg_graph.specs.Multigraph.{takes, side_at}
use Rattle.pg_graph.proofs.Numbers.{grown, counted_more, summed_more, cond_within}
use Rattle.pg_graph.proofs.Stored.{edges_passing_within}
use Rattle.pg_law.specs.Configuration.{is_signalled}
use Rattle.pg_law.specs.Round.{outcome, edges_over}
use Rattle.pg_rounds.proofs.plain.apply_all.Goals as goal

-- a turn gathers over no more edges than the graph has
few_gathers : (g : _) (c : goal.In_ok-push g) → c.in_ok-turn.turn.gathers ≤ 2 ^ 24
few_gathers g c = let dir = (g.P.VertexProgram.meaning c.args.program.now).gather_edges in
    let few = edges_passing_within c.args.graph.now (λ e. takes dir (side_at c.args.graph.now c.loop-v.v e)) c.loop-v.v in
    let most : length (edges_over dir c.args.graph.now c.loop-v.v) ≤ 2 ^ 24 = omega (arith, few, c.vertices-v-end.ensures.graph.edge_count) in
    rw c.in_ok-turn.ensures.gathers (cond_within (is_signalled c.args.state.now c.loop-v.v) (length (edges_over dir c.args.graph.now c.loop-v.v)) (2 ^ 24) most)

pub overflow_add-gathers : goal.overflow_add-gathers
overflow_add-gathers g c = omega (arith, few_gathers g c, c.vertices-v-end.ensures.graph.vertex_count)

pub loop-v-preserved : goal.loop-v-preserved
loop-v-preserved g c = let p = g.P.VertexProgram.meaning c.args.program.now in
    let graph = c.args.graph.now in
    let state = c.args.state.now in
    let invariant = c.loop-v.invariant in
    let one : c.in_ok-turn.turn.executions ≤ 1 = rw c.in_ok-turn.ensures.executions (cond_within (is_signalled state c.loop-v.v) 1 1 (omega arith)) in
    record {
      became = c.in_ok-push.ensures.items ∙ grown (outcome p graph state (λ v. true)) c.loop-v.v c.loop-v.became.items _ invariant.became c.in_ok-turn.ensures.became;
      executions = counted_more (is_signalled state) c.loop-v.v _ _ invariant.executions c.in_ok-turn.ensures.executions;
      gathers = summed_more (λ u. length (edges_over p.gather_edges graph u)) (is_signalled state) c.loop-v.v _ _ invariant.gathers c.in_ok-turn.ensures.gathers;
      counted = omega (arith, invariant.counted, c.in_ok-turn.ensures.counted);
      few = omega (arith, one, invariant.few);
      few_gathers = omega (arith, few_gathers g c, invariant.few_gathers);
    }

pub returns-clause-gathers : goal.returns-clause-gathers
returns-clause-gathers g c = let all : c.loop-v.v ≡ length c.args.graph.now.ids = omega arith in
    c.loop-v.invariant.gathers ∙ ap (λ n. sum_by (λ u. length (edges_over (g.P.VertexProgram.meaning c.args.program.now).gather_edges c.args.graph.now u)) (filter (is_signalled c.args.state.now) (range_with_len 0 n))) all
