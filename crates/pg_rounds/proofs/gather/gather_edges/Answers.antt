use Rattle.std.proofs.Common.{◌≡◌, ◌∙◌, ℕ, length, sym, ap, arith}
use Rattle.std.specs.Prelude.{fold, sum_by}
use Rattle.std.specs.List.{range_with_len}
use Rattle.pg_graph.specs.declared.edge.Side.TheVariants.{Source, Target}
use Rattle.pg_law.specs.Configuration.{signalled}
use Rattle.pg_rounds.specs.Gathers.{gather_step}
use Rattle.pg_rounds.proofs.Gathering.{below, gathers_more, gathers_all, counts_more, counts_none, count_few}
use Rattle.pg_rounds.proofs.gather.gather_edges.Goals as goal

pub loop-e-init : goal.loop-e-init
loop-e-init g c = let p = g.P.VertexProgram.meaning c.args.program.now in
    record {
      accs = λ v h runs. c.requires.empty v h;
      own = c.requires.accs;
      count = sym (counts_none p c.args.graph.now c.args.state.now);
      few = omega arith;
      counted = omega arith;
    }

pub gather_edge-requires-clause-accs : goal.gather_edge-requires-clause-accs
gather_edge-requires-clause-accs g c κs within = c.loop-e.invariant.own

pub loop-e-preserved : goal.loop-e-preserved
loop-e-preserved g c = let p = g.P.VertexProgram.meaning c.args.program.now in
    let graph = c.args.graph.now in
    let state = c.args.state.now in
    let e = c.loop-e.e in
    let invariant = c.loop-e.invariant in
    let one = c.in_ok-count.ensures in
    let more = counts_more p graph state c.vertices.ensures.graph e (omega (arith, ap length c.edges.ensures.value)) in
    record {
      accs = λ v h runs. one.accs v h runs ∙ ap (λ acc. gather_step p graph state v acc e) (invariant.accs v h runs) ∙ sym (gathers_more p graph state v e);
      own = one.own;
      count = omega (arith, invariant.count, one.count, more);
      few = omega (arith, invariant.few, one.count, count_few p graph state Source e, count_few p graph state Target e);
      counted = omega (arith, invariant.counted, one.counted);
    }

pub returns-clause-accs : goal.returns-clause-accs
returns-clause-accs g c = let p = g.P.VertexProgram.meaning c.args.program.now in
    let all : c.loop-e.e ≡ length c.args.graph.now.edges = omega (arith, ap length c.edges.ensures.value) in
    λ v h runs. c.loop-e.invariant.accs v h runs ∙ ap (λ n. fold (gather_step p c.args.graph.now c.args.state.now v) p.empty (range_with_len 0 n)) all ∙ gathers_all p c.args.graph.now c.args.state.now v

pub returns-clause-count : goal.returns-clause-count
returns-clause-count g c = let p = g.P.VertexProgram.meaning c.args.program.now in
    let all : c.loop-e.e ≡ length c.args.graph.now.edges = omega (arith, ap length c.edges.ensures.value) in
    c.loop-e.invariant.count ∙ ap (λ (n : ℕ). sum_by (below p c.args.graph.now c.args.state.now n) (signalled c.args.graph.now c.args.state.now)) all
