use Rattle.std.proofs.Common.{ℕ, ◌<◌, ◌≡◌, length, cond, slice_index_or, slice_set, arith, ap, ◌∙◌}
use Rattle.std.proofs.lemmas.List.{length-set}
use Rattle.pg_graph.specs.declared.edge.Side.TheVariants.{Source, Target}
use Rattle.pg_graph.specs.Multigraph.{end_at, no_edge}
use Rattle.pg_delta.specs.Cell.{cleared}
use Rattle.pg_meals.specs.declared.fork.Fork.{Fork}
use Rattle.pg_meals.specs.Setting.{cell_at}
use Rattle.pg_meals.specs.Entries.{no_fork, fork_at}
use Rattle.pg_meals.specs.Closing.{is_delta}
use Rattle.pg_meals.proofs.ListReads.{read_any}
use Rattle.pg_meals.proofs.Left.{clear_more, other_end}
use Rattle.pg_meals.proofs.closing.clear_waiting.Goals as goal

pub loop-e-preserved : goal.loop-e-preserved
loop-e-preserved g c =
    let graph = c.args.graph.now in
    let forks = c.args.forks.now in
    let e : ℕ = c.loop-e.e in
    let xs = c.loop-e.cells.items in
    let ok = c.edges.ensures.graph in
    let i : e < length graph.edges = omega (arith, c.requires.forks) in
    let i_fork : e < length forks = omega (arith, i, c.requires.forks) in
    let fork_is = read_any forks e c.index-forks-e.result (no_fork 0) i_fork in
    let at = c.edges.ensures.value in
    let source : (slice_index_or c.edges.result.now e no_edge).src ≡ end_at graph Source e = ap (λ es. (slice_index_or es e no_edge).src) at in
    let target : (slice_index_or c.edges.result.now e no_edge).dst ≡ end_at graph Target e = ap (λ es. (slice_index_or es e no_edge).dst) at in
    let s_in : end_at graph Source e < length xs = omega (arith, (ok.edge e i).src, c.loop-e.invariant.len) in
    let t_in : end_at graph Target e < length (slice_set xs (end_at graph Source e) c.clear_where.new.cell) = omega (arith, (ok.edge e i).dst, c.loop-e.invariant.len, length-set xs (end_at graph Source e) c.clear_where.new.cell) in
    let was_source : c.index_mut.result.now ≡ cell_at xs (end_at graph Source e) = c.index_mut.ensures.value ∙ (ap (λ n. slice_index_or xs n c.index_mut.result.now) source ∙ read_any xs (end_at graph Source e) c.index_mut.result.now cleared s_in) in
    let was_target : c.index_mut-in-loop-e.result.now ≡ cell_at xs (end_at graph Target e)
    = c.index_mut-in-loop-e.ensures.value ∙ ((λ j. slice_index_or (slice_set xs (source j) c.clear_where.new.cell) (target j) c.index_mut-in-loop-e.result.now)
    ∙ (read_any (slice_set xs (end_at graph Source e) c.clear_where.new.cell) (end_at graph Target e) c.index_mut-in-loop-e.result.now cleared t_in ∙ other_end graph ok e i xs cleared c.clear_where.new.cell c.loop-e.invariant.len)) in
    let x_is : c.clear_where.new.cell ≡ cond (is_delta (fork_at 0 forks e).content.source.delta) cleared (cell_at xs (end_at graph Source e))
    = c.clear_where.ensures ∙ (λ j. cond ((c.says.ensures ∙ ap (λ (f : Fork _). is_delta f.content.source.delta) fork_is) j) cleared (was_source j)) in
    let y_is : c.clear_where-in-loop-e.new.cell ≡ cond (is_delta (fork_at 0 forks e).content.target.delta) cleared (cell_at xs (end_at graph Target e))
    = c.clear_where-in-loop-e.ensures ∙ (λ j. cond ((c.says-in-loop-e.ensures ∙ ap (λ (f : Fork _). is_delta f.content.target.delta) fork_is) j) cleared (was_target j)) in
    record {
      len = length-set _ _ _ ∙ (length-set _ _ _ ∙ c.loop-e.invariant.len);
      cleared = λ v l. (λ j. cell_at (slice_set (slice_set xs (source j) c.clear_where.new.cell) (target j) c.clear_where-in-loop-e.new.cell) v)
          ∙ clear_more graph ok forks c.args.cells.now.items xs e i c.loop-e.invariant.len c.loop-e.invariant.cleared c.clear_where.new.cell c.clear_where-in-loop-e.new.cell x_is y_is v l;
    }
