use Rattle.std.proofs.Common.{◌+◌, ◌≤◌, ◌^◌, ℕ, length, get_or, sym, ◌∙◌, ap, arith}
use Rattle.std.proofs.lemmas.List.Sums.{sum_by_more}
use Rattle.pg_graph.proofs.Stored.{edges_passing_within}
use Rattle.pg_graph.specs.Multigraph.{Multigraph, IsMultigraph, side_at, takes}
use Rattle.pg_graph.specs.declared.edge.Dir.{Dir}
use Rattle.pg_law.specs.Round.{edges_over}
use Rattle.pg_sync.proofs.degree.gathers_of.Goals as goal

few_over : (dir : Dir) (g : Multigraph) (v : ℕ) → IsMultigraph g → length (edges_over dir g v) ≤ 2 ^ 24
few_over dir g v ok = omega (arith, edges_passing_within g (λ e. takes dir (side_at g v e)) v, ok.edge_count)

pub overflow_add-gathers : goal.overflow_add-gathers
overflow_add-gathers g c = let few = few_over c.gather_edges-dir.result c.args.graph.now (get_or c.args.wanted.now c.loop-i.i 0) c.vertices.ensures.graph in
    omega (arith, few, c.degree_over-gathers.ensures, c.loop-i.invariant.few, c.loop-i-test.true, c.requires.few)

pub loop-i-preserved : goal.loop-i-preserved
loop-i-preserved g c = let dir = c.gather_edges-dir.result in
    let v = get_or c.args.wanted.now c.loop-i.i 0 in
    let few = few_over dir c.args.graph.now v c.vertices.ensures.graph in
    let over = λ (d : Dir) (u : ℕ). length (edges_over d c.args.graph.now u) in
    let meant = (g.P.VertexProgram.meaning c.args.program.now).gather_edges in
    record {
      gathers = ap (λ n. c.loop-i.gathers + n) (c.degree_over-gathers.ensures ∙ ap (λ d. over d v) c.gather_edges-dir.ensures)
          ∙ ap (λ n. n + over meant v) c.loop-i.invariant.gathers
          ∙ sym (sum_by_more (over meant) c.args.wanted.now c.loop-i.i 0 c.loop-i-test.true);
      few = omega (arith, few, c.degree_over-gathers.ensures, c.loop-i.invariant.few);
    }
