use Rattle.std.proofs.Common.{◌∙◌}
use Rattle.pg_sync.specs.Held.{IsKept}
use Rattle.pg_sync.proofs.Keeping.{caches_follow, keeps_follow}
use Rattle.pg_sync.proofs.round.one_round.Goals as goal

pub returns-clause-kept : goal.returns-clause-kept
returns-clause-kept g c = λ s kept.
    let at : IsKept (g.P.VertexProgram.meaning c.args.program.now) c.args.graph.now c.args.cut.now s c.args.workers.now c.args.mirrors.now c.as_slice-values.result.now c.as_slice-messages.result.now c.args.cells.now = rw (c.as_slice-values.ensures.value, c.as_slice-messages.ensures.value) kept in
    let applies = c.as_slice-became.ensures.value ∙ c.in_ok-applied.ensures.applied s at in
    let gathered = c.in_ok-applied.ensures.caches s at in
    record {
      held = c.in_ok-scatter_part.ensures.held s kept.held applies;
      caches = caches_follow (g.P.VertexProgram.meaning c.args.program.now) c.laws_of.ensures c.args.graph.now c.vertices.ensures.graph s kept.held.fit c.cells_stay_true.ensures.posted_is c.args.cells.now c.apply_part.new.cells c.scatter_part.new.cells c.apply_part.auto.cells c.scatter_part.auto.cells gathered
          (λ some. c.in_ok-scatter_part.ensures.caches s kept.held applies (gathered.caches.speaks some)) c.in_ok-scatter_part.ensures.own;
    }

pub returns-clause-keeps : goal.returns-clause-keeps
returns-clause-keeps g c = λ s kept any.
    let at : IsKept (g.P.VertexProgram.meaning c.args.program.now) c.args.graph.now c.args.cut.now s c.args.workers.now c.args.mirrors.now c.as_slice-values.result.now c.as_slice-messages.result.now c.args.cells.now = rw (c.as_slice-values.ensures.value, c.as_slice-messages.ensures.value) kept in
    let applies = c.as_slice-became.ensures.value ∙ c.in_ok-applied.ensures.applied s at in
    let gathered = c.in_ok-applied.ensures.caches s at in
    keeps_follow (g.P.VertexProgram.meaning c.args.program.now) c.laws_of.ensures c.args.graph.now c.vertices.ensures.graph s kept.held.fit c.cells_stay_true.ensures.posted_is c.args.cells.now c.apply_part.new.cells c.scatter_part.new.cells c.apply_part.auto.cells c.scatter_part.auto.cells gathered
    (λ some. c.in_ok-scatter_part.ensures.caches s kept.held applies (gathered.caches.speaks some)) c.in_ok-scatter_part.ensures.own any

pub returns-clause-gathers : goal.returns-clause-gathers
returns-clause-gathers g c = λ s kept.
    let at : IsKept (g.P.VertexProgram.meaning c.args.program.now) c.args.graph.now c.args.cut.now s c.args.workers.now c.args.mirrors.now c.as_slice-values.result.now c.as_slice-messages.result.now c.args.cells.now = rw (c.as_slice-values.ensures.value, c.as_slice-messages.ensures.value) kept in
    c.in_ok-applied.ensures.gathers s at

pub returns-clause-counted : goal.returns-clause-counted
returns-clause-counted g c = λ s kept.
    let at : IsKept (g.P.VertexProgram.meaning c.args.program.now) c.args.graph.now c.args.cut.now s c.args.workers.now c.args.mirrors.now c.as_slice-values.result.now c.as_slice-messages.result.now c.args.cells.now = rw (c.as_slice-values.ensures.value, c.as_slice-messages.ensures.value) kept in
    c.in_ok-applied.ensures.counted s at
