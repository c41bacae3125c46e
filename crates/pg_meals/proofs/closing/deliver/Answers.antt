use Rattle.std.proofs.Common.{ℕ, ◌<◌, ◌≡◌, None, length, slice_index_or, slice_set, arith, sym, ap, subst, ◌∙◌}
use Rattle.std.proofs.lemmas.List.{length-set}
use Rattle.pg_graph.specs.declared.edge.Side.TheVariants.{Source, Target}
use Rattle.pg_graph.specs.Multigraph.{end_at, no_edge}
use Rattle.pg_law.specs.Laws.{IsOptional}
use Rattle.pg_law.specs.Round.{join}
use Rattle.pg_law.specs.Configuration.{message_in}
use Rattle.pg_meals.specs.declared.fork.Fork.{Fork}
use Rattle.pg_meals.specs.Entries.{no_fork}
use Rattle.pg_meals.specs.Closing.{delivered}
use Rattle.pg_meals.proofs.ListReads.{read_any}
use Rattle.pg_meals.proofs.Left.{so_far_own, deliver_more, other_end}
use Rattle.pg_meals.proofs.closing.deliver.Goals as goal

pub join_messages-requires-clause-a : goal.join_messages-requires-clause-a
join_messages-requires-clause-a g c κs within =
    let graph = c.args.graph.now in
    let forks = c.args.forks.now in
    let p = g.P.VertexProgram.meaning c.args.program.now in
    let e : ℕ = c.loop-e.e in
    let xs = c.loop-e.messages.items in
    let ok = c.edges.ensures.graph in
    let i : e < length graph.edges = omega (arith, c.requires.forks) in
    let source : (slice_index_or c.edges.result.now e no_edge).src ≡ end_at graph Source e = ap (λ es. (slice_index_or es e no_edge).src) c.edges.ensures.value in
    let s_in : end_at graph Source e < length xs = omega (arith, (ok.edge e i).src, c.loop-e.invariant.len) in
    let was : c.index-source.result.now ≡ message_in xs (end_at graph Source e) = c.index-source.ensures ∙ (ap (λ n. slice_index_or xs n c.index-source.result.now) source ∙ read_any xs (end_at graph Source e) c.index-source.result.now None s_in) in
    subst (IsOptional p.IsMessage) (sym was) (so_far_own p c.laws_of.ensures graph forks c.requires.rides ok c.args.messages.now.items xs e i c.loop-e.invariant.len c.requires.own c.loop-e.invariant.joined (end_at graph Source e) (ok.edge e i).src)

pub join_messages-requires-clause-b : goal.join_messages-requires-clause-b
join_messages-requires-clause-b g c κs within =
    let forks = c.args.forks.now in
    let p = g.P.VertexProgram.meaning c.args.program.now in
    let e : ℕ = c.loop-e.e in
    subst (λ (f : Fork _). IsOptional p.IsMessage f.content.source.message) (sym (read_any forks e c.index-forks-e.result (no_fork 0) (omega arith))) (c.requires.rides Source e)

pub index_mut-requires : goal.index_mut-requires
index_mut-requires g c =
    let graph = c.args.graph.now in
    let e : ℕ = c.loop-e.e in
    let source : (slice_index_or c.edges.result.now e no_edge).src ≡ end_at graph Source e = ap (λ es. (slice_index_or es e no_edge).src) c.edges.ensures.value in
    let i : e < length graph.edges = omega (arith, c.requires.forks) in
    omega (arith, source, (c.edges.ensures.graph.edge e i).src, c.loop-e.invariant.len)

pub index-target-requires : goal.index-target-requires
index-target-requires g c =
    let graph = c.args.graph.now in
    let e : ℕ = c.loop-e.e in
    let target : (slice_index_or c.edges.result.now e no_edge).dst ≡ end_at graph Target e = ap (λ es. (slice_index_or es e no_edge).dst) c.edges.ensures.value in
    let i : e < length graph.edges = omega (arith, c.requires.forks) in
    omega (arith, target, (c.edges.ensures.graph.edge e i).dst, c.loop-e.invariant.len)

pub join_messages-requires-in-loop-e-clause-a : goal.join_messages-requires-in-loop-e-clause-a
join_messages-requires-in-loop-e-clause-a g c κs within =
    let graph = c.args.graph.now in
    let forks = c.args.forks.now in
    let p = g.P.VertexProgram.meaning c.args.program.now in
    let e : ℕ = c.loop-e.e in
    let xs = c.loop-e.messages.items in
    let x = c.join_messages.result in
    let ok = c.edges.ensures.graph in
    let i : e < length graph.edges = omega (arith, c.requires.forks) in
    let source : (slice_index_or c.edges.result.now e no_edge).src ≡ end_at graph Source e = ap (λ es. (slice_index_or es e no_edge).src) c.edges.ensures.value in
    let target : (slice_index_or c.edges.result.now e no_edge).dst ≡ end_at graph Target e = ap (λ es. (slice_index_or es e no_edge).dst) c.edges.ensures.value in
    let t_in : end_at graph Target e < length (slice_set xs (end_at graph Source e) x) = omega (arith, (ok.edge e i).dst, c.loop-e.invariant.len, length-set xs (end_at graph Source e) x) in
    let was : c.index-target.result.now ≡ message_in xs (end_at graph Target e)
    = c.index-target.ensures ∙ ((λ j. slice_index_or (slice_set xs (source j) x) (target j) c.index-target.result.now)
    ∙ (read_any (slice_set xs (end_at graph Source e) x) (end_at graph Target e) c.index-target.result.now None t_in ∙ other_end graph ok e i xs None x c.loop-e.invariant.len)) in
    subst (IsOptional p.IsMessage) (sym was) (so_far_own p c.laws_of.ensures graph forks c.requires.rides ok c.args.messages.now.items xs e i c.loop-e.invariant.len c.requires.own c.loop-e.invariant.joined (end_at graph Target e) (ok.edge e i).dst)

pub join_messages-requires-in-loop-e-clause-b : goal.join_messages-requires-in-loop-e-clause-b
join_messages-requires-in-loop-e-clause-b g c κs within =
    let forks = c.args.forks.now in
    let p = g.P.VertexProgram.meaning c.args.program.now in
    let e : ℕ = c.loop-e.e in
    subst (λ (f : Fork _). IsOptional p.IsMessage f.content.target.message) (sym (read_any forks e c.index-forks-e.result (no_fork 0) (omega arith))) (c.requires.rides Target e)

pub index_mut-requires-in-loop-e : goal.index_mut-requires-in-loop-e
index_mut-requires-in-loop-e g c =
    let graph = c.args.graph.now in
    let e : ℕ = c.loop-e.e in
    let target : (slice_index_or c.edges.result.now e no_edge).dst ≡ end_at graph Target e = ap (λ es. (slice_index_or es e no_edge).dst) c.edges.ensures.value in
    let i : e < length graph.edges = omega (arith, c.requires.forks) in
    omega (arith, target, (c.edges.ensures.graph.edge e i).dst, c.loop-e.invariant.len)

pub loop-e-preserved : goal.loop-e-preserved
loop-e-preserved g c =
    let graph = c.args.graph.now in
    let forks = c.args.forks.now in
    let p = g.P.VertexProgram.meaning c.args.program.now in
    let e : ℕ = c.loop-e.e in
    let xs = c.loop-e.messages.items in
    let x = c.join_messages.result in
    let y = c.join_messages-in-loop-e.result in
    let ok = c.edges.ensures.graph in
    let i : e < length graph.edges = omega (arith, c.requires.forks) in
    let fork_is = read_any forks e c.index-forks-e.result (no_fork 0) (omega arith) in
    let source : (slice_index_or c.edges.result.now e no_edge).src ≡ end_at graph Source e = ap (λ es. (slice_index_or es e no_edge).src) c.edges.ensures.value in
    let target : (slice_index_or c.edges.result.now e no_edge).dst ≡ end_at graph Target e = ap (λ es. (slice_index_or es e no_edge).dst) c.edges.ensures.value in
    let s_in : end_at graph Source e < length xs = omega (arith, (ok.edge e i).src, c.loop-e.invariant.len) in
    let t_in : end_at graph Target e < length (slice_set xs (end_at graph Source e) x) = omega (arith, (ok.edge e i).dst, c.loop-e.invariant.len, length-set xs (end_at graph Source e) x) in
    let was_source : c.index-source.result.now ≡ message_in xs (end_at graph Source e) = c.index-source.ensures ∙ (ap (λ n. slice_index_or xs n c.index-source.result.now) source ∙ read_any xs (end_at graph Source e) c.index-source.result.now None s_in) in
    let was_target : c.index-target.result.now ≡ message_in xs (end_at graph Target e)
    = c.index-target.ensures ∙ ((λ j. slice_index_or (slice_set xs (source j) x) (target j) c.index-target.result.now)
    ∙ (read_any (slice_set xs (end_at graph Source e) x) (end_at graph Target e) c.index-target.result.now None t_in ∙ other_end graph ok e i xs None x c.loop-e.invariant.len)) in
    record {
      len = length-set _ _ _ ∙ (length-set _ _ _ ∙ c.loop-e.invariant.len);
      joined = λ v l. (λ j. message_in (slice_set (slice_set xs (source j) x) (target j) y) v)
          ∙ deliver_more p c.laws_of.ensures graph forks c.requires.rides ok c.args.messages.now.items xs e i c.loop-e.invariant.len c.requires.own c.loop-e.invariant.joined x y
          (c.join_messages.ensures.value ∙ (λ j. join p.combine (was_source j) (fork_is j).content.source.message))
          (c.join_messages-in-loop-e.ensures.value ∙ (λ j. join p.combine (was_target j) (fork_is j).content.target.message)) v l;
    }

pub returns-clause-joined : goal.returns-clause-joined
returns-clause-joined g c = λ v l.
    let all : c.loop-e.e ≡ length c.args.graph.now.edges = omega (arith, c.requires.forks) in
    c.loop-e.invariant.joined v l ∙ ap (λ n. delivered (g.P.VertexProgram.meaning c.args.program.now).combine c.args.graph.now c.args.forks.now v n (message_in c.args.messages.now.items v)) all
