use Rattle.std.proofs.Common.{ℕ, List, not, ◌<◌, ◌∙◌, ap, arith, subst, sym, length}
use Rattle.std.specs.Prelude.{All, sum_by}
use Rattle.pg_law.proofs.Bounds.{executions_within}
use Rattle.pg_law.specs.Configuration.{signalled}
use Rattle.pg_law.specs.Round.{fresh}
use Rattle.pg_graph.proofs.Numbers.{length_filter_within}
use Rattle.pg_sync.specs.Kept.{gather_degree, gather_degree_on}
use Rattle.pg_sync.specs.Cells.{keeps}
use Rattle.pg_sync.specs.Counting.{counters_of, AreRaised}
use Rattle.pg_sync.proofs.Holding.{shared_of}
use Rattle.pg_sync.proofs.Keeping.{cells_own}
use Rattle.pg_sync.proofs.Readying.{pairs_apart, pairs_below, listed_apart, wanted_are, wanted_apart, all_below, wanted_below, gathered, there, mastered, applied_all}
use Rattle.pg_sync.proofs.half.apply_kept.Goals as goal

pub settle_all-requires-clause-apart : goal.settle_all-requires-clause-apart
settle_all-requires-clause-apart g c κs within = listed_apart (g.P.VertexProgram.meaning c.args.program.now) c.laws_of.ensures c.args.graph.now c.vertices.ensures.graph c.args.cut.now c.requires.cut c.requires.kept.state c.args.workers.now c.args.mirrors.now c.args.values.now c.args.messages.now c.args.cells.now c.requires.kept.kept c.args.listed.now c.requires.listed

pub settle_all-requires-clause-vertices : goal.settle_all-requires-clause-vertices
settle_all-requires-clause-vertices g c κs within = all_below (g.P.VertexProgram.meaning c.args.program.now) c.laws_of.ensures c.args.graph.now c.vertices.ensures.graph c.args.cut.now c.requires.cut c.requires.kept.state c.args.workers.now c.args.mirrors.now c.args.values.now c.args.messages.now c.args.cells.now c.requires.kept.kept c.args.listed.now c.requires.listed c.requires.some

pub settle_all-requires-clause-cells : goal.settle_all-requires-clause-cells
settle_all-requires-clause-cells g c κs within = cells_own (g.P.VertexProgram.meaning c.args.program.now) c.args.graph.now c.requires.kept.state c.args.cells.now c.requires.kept.kept.caches

pub gather_part-requires-clause-shared : goal.gather_part-requires-clause-shared
gather_part-requires-clause-shared g c κs within = record {
  state = c.requires.kept.state;
  shared = shared_of (g.P.VertexProgram.meaning c.args.program.now) c.args.graph.now c.args.cut.now c.requires.kept.state c.args.workers.now c.args.mirrors.now c.args.values.now c.args.messages.now c.requires.kept.kept.held;
}

pub gather_part-requires-clause-apart : goal.gather_part-requires-clause-apart
gather_part-requires-clause-apart g c κs within = wanted_apart (g.P.VertexProgram.meaning c.args.program.now) c.laws_of.ensures c.args.graph.now c.vertices.ensures.graph c.args.cut.now c.requires.cut c.requires.kept.state c.args.workers.now c.args.mirrors.now c.args.values.now c.args.messages.now c.args.cells.now c.requires.kept.kept c.args.listed.now c.requires.listed c.as_slice-wanted.result.now (c.as_slice-wanted.ensures.value ∙ c.in_ok-unkept.ensures.wanted)

pub fill_all-requires-clause-apart : goal.fill_all-requires-clause-apart
fill_all-requires-clause-apart g c = let s = c.requires.kept.state in
    rw (c.in_ok-sums.ensures.sums s (shared_of (g.P.VertexProgram.meaning c.args.program.now) c.args.graph.now c.args.cut.now s c.args.workers.now c.args.mirrors.now c.args.values.now c.args.messages.now c.requires.kept.kept.held))
    (pairs_apart (fresh (g.P.VertexProgram.meaning c.args.program.now) c.args.graph.now s) c.as_slice-wanted.result.now (wanted_apart (g.P.VertexProgram.meaning c.args.program.now) c.laws_of.ensures c.args.graph.now c.vertices.ensures.graph c.args.cut.now c.requires.cut c.requires.kept.state c.args.workers.now c.args.mirrors.now c.args.values.now c.args.messages.now c.args.cells.now c.requires.kept.kept c.args.listed.now c.requires.listed c.as_slice-wanted.result.now (c.as_slice-wanted.ensures.value ∙ c.in_ok-unkept.ensures.wanted)))

pub fill_all-requires-clause-vertices : goal.fill_all-requires-clause-vertices
fill_all-requires-clause-vertices g c = let s = c.requires.kept.state in
    let Below : ℕ → Type 0 = λ n. All (λ sum. sum.0 < n) c.in_ok-sums.sums.items in
    subst Below (sym c.settle_all.auto.cells) (rw (c.in_ok-sums.ensures.sums s (shared_of (g.P.VertexProgram.meaning c.args.program.now) c.args.graph.now c.args.cut.now s c.args.workers.now c.args.mirrors.now c.args.values.now c.args.messages.now c.requires.kept.kept.held))
    (pairs_below (fresh (g.P.VertexProgram.meaning c.args.program.now) c.args.graph.now s) c.as_slice-wanted.result.now (length c.args.cells.now) (wanted_below (g.P.VertexProgram.meaning c.args.program.now) c.laws_of.ensures c.args.graph.now c.vertices.ensures.graph c.args.cut.now c.requires.cut c.requires.kept.state c.args.workers.now c.args.mirrors.now c.args.values.now c.args.messages.now c.args.cells.now c.requires.kept.kept c.args.listed.now c.requires.listed c.requires.some c.as_slice-wanted.result.now (c.as_slice-wanted.ensures.value ∙ c.in_ok-unkept.ensures.wanted))))

pub apply_cells-requires-clause-values : goal.apply_cells-requires-clause-values
apply_cells-requires-clause-values g c κs within = rw c.requires.kept.kept.held.values c.requires.kept.kept.held.fit.values

pub apply_cells-requires-clause-messages : goal.apply_cells-requires-clause-messages
apply_cells-requires-clause-messages g c κs within = rw c.requires.kept.kept.held.messages c.requires.kept.kept.held.fit.messages

pub apply_cells-requires-clause-vertices : goal.apply_cells-requires-clause-vertices
apply_cells-requires-clause-vertices g c κs within = λ k d h. omega (arith, c.fill_all.auto.cells, c.settle_all.auto.cells, all_below (g.P.VertexProgram.meaning c.args.program.now) c.laws_of.ensures c.args.graph.now c.vertices.ensures.graph c.args.cut.now c.requires.cut c.requires.kept.state c.args.workers.now c.args.mirrors.now c.args.values.now c.args.messages.now c.args.cells.now c.requires.kept.kept c.args.listed.now c.requires.listed c.requires.some k d h)

pub apply_cells-requires-clause-kept : goal.apply_cells-requires-clause-kept
apply_cells-requires-clause-kept g c κs within = there (g.P.VertexProgram.meaning c.args.program.now) c.laws_of.ensures c.args.graph.now c.vertices.ensures.graph c.args.cut.now c.requires.cut c.requires.kept.state c.args.workers.now c.args.mirrors.now c.args.values.now c.args.messages.now c.args.cells.now c.requires.kept.kept c.args.listed.now c.requires.listed c.requires.some c.settle_all.new.cells c.fill_all.new.cells c.settle_all.auto.cells c.fill_all.auto.cells c.in_ok-unkept.ensures.settled c.in_ok-unkept.ensures.own c.as_slice-wanted.result.now (c.as_slice-wanted.ensures.value ∙ c.in_ok-unkept.ensures.wanted) c.in_ok-sums.sums.items (c.in_ok-sums.ensures.sums c.requires.kept.state (shared_of (g.P.VertexProgram.meaning c.args.program.now) c.args.graph.now c.args.cut.now c.requires.kept.state c.args.workers.now c.args.mirrors.now c.args.values.now c.args.messages.now c.requires.kept.kept.held)) c.fill_all.ensures

pub apply_cells-requires-clause-sums : goal.apply_cells-requires-clause-sums
apply_cells-requires-clause-sums g c κs within = mastered (g.P.VertexProgram.meaning c.args.program.now) c.laws_of.ensures c.args.graph.now c.vertices.ensures.graph c.args.cut.now c.requires.cut c.requires.kept.state c.args.workers.now c.args.mirrors.now c.args.values.now c.args.messages.now c.args.cells.now c.requires.kept.kept c.args.listed.now c.requires.listed c.requires.some c.settle_all.new.cells c.fill_all.new.cells c.settle_all.auto.cells c.fill_all.auto.cells c.in_ok-unkept.ensures.settled c.in_ok-unkept.ensures.own c.as_slice-wanted.result.now (c.as_slice-wanted.ensures.value ∙ c.in_ok-unkept.ensures.wanted) c.in_ok-sums.sums.items (c.in_ok-sums.ensures.sums c.requires.kept.state (shared_of (g.P.VertexProgram.meaning c.args.program.now) c.args.graph.now c.args.cut.now c.requires.kept.state c.args.workers.now c.args.mirrors.now c.args.values.now c.args.messages.now c.requires.kept.kept.held)) c.fill_all.ensures

pub gathers_of-requires-clause-within : goal.gathers_of-requires-clause-within
gathers_of-requires-clause-within g c κs within = λ k d h. omega (arith, wanted_below (g.P.VertexProgram.meaning c.args.program.now) c.laws_of.ensures c.args.graph.now c.vertices.ensures.graph c.args.cut.now c.requires.cut c.requires.kept.state c.args.workers.now c.args.mirrors.now c.args.values.now c.args.messages.now c.args.cells.now c.requires.kept.kept c.args.listed.now c.requires.listed c.requires.some c.as_slice-wanted.result.now (c.as_slice-wanted.ensures.value ∙ c.in_ok-unkept.ensures.wanted) k d h, c.requires.kept.kept.caches.all c.requires.some)

pub gathers_of-requires-clause-few : goal.gathers_of-requires-clause-few
gathers_of-requires-clause-few g c κs within = omega (
  arith,
  ap length (wanted_are (g.P.VertexProgram.meaning c.args.program.now) c.laws_of.ensures c.args.graph.now c.vertices.ensures.graph c.args.cut.now c.requires.cut c.requires.kept.state c.args.workers.now c.args.mirrors.now c.args.values.now c.args.messages.now c.args.cells.now c.requires.kept.kept c.args.listed.now c.requires.listed c.as_slice-wanted.result.now (c.as_slice-wanted.ensures.value ∙ c.in_ok-unkept.ensures.wanted)),
  length_filter_within (λ v. not (keeps (g.P.VertexProgram.meaning c.args.program.now) c.args.cells.now v)) (signalled c.args.graph.now c.requires.kept.state),
  executions_within (g.P.VertexProgram.meaning c.args.program.now) c.args.graph.now c.vertices.ensures.graph c.requires.kept.state,
)

pub returns-clause-applied : goal.returns-clause-applied
returns-clause-applied g c = λ s kept. c.in_ok-applied.ensures ∙ applied_all (g.P.VertexProgram.meaning c.args.program.now) c.laws_of.ensures c.args.graph.now c.vertices.ensures.graph c.args.cut.now c.requires.cut s c.args.workers.now c.args.mirrors.now c.args.values.now c.args.messages.now c.args.cells.now kept c.args.listed.now c.requires.listed c.requires.some c.settle_all.new.cells c.fill_all.new.cells c.settle_all.auto.cells c.fill_all.auto.cells c.in_ok-unkept.ensures.settled c.in_ok-unkept.ensures.own c.as_slice-wanted.result.now (c.as_slice-wanted.ensures.value ∙ c.in_ok-unkept.ensures.wanted) c.in_ok-sums.sums.items (c.in_ok-sums.ensures.sums s (shared_of (g.P.VertexProgram.meaning c.args.program.now) c.args.graph.now c.args.cut.now s c.args.workers.now c.args.mirrors.now c.args.values.now c.args.messages.now kept.held)) c.fill_all.ensures

pub returns-clause-gathers : goal.returns-clause-gathers
returns-clause-gathers g c = λ s kept. c.gathers_of.ensures ∙ ap (sum_by (gather_degree (g.P.VertexProgram.meaning c.args.program.now) c.args.graph.now)) (wanted_are (g.P.VertexProgram.meaning c.args.program.now) c.laws_of.ensures c.args.graph.now c.vertices.ensures.graph c.args.cut.now c.requires.cut s c.args.workers.now c.args.mirrors.now c.args.values.now c.args.messages.now c.args.cells.now kept c.args.listed.now c.requires.listed c.as_slice-wanted.result.now (c.as_slice-wanted.ensures.value ∙ c.in_ok-unkept.ensures.wanted))

pub returns-clause-caches : goal.returns-clause-caches
returns-clause-caches g c = λ s kept. gathered (g.P.VertexProgram.meaning c.args.program.now) c.laws_of.ensures c.args.graph.now c.vertices.ensures.graph c.args.cut.now c.requires.cut s c.args.workers.now c.args.mirrors.now c.args.values.now c.args.messages.now c.args.cells.now kept c.args.listed.now c.requires.listed c.requires.some c.settle_all.new.cells c.fill_all.new.cells c.settle_all.auto.cells c.fill_all.auto.cells c.in_ok-unkept.ensures.settled c.in_ok-unkept.ensures.own c.as_slice-wanted.result.now (c.as_slice-wanted.ensures.value ∙ c.in_ok-unkept.ensures.wanted) c.in_ok-sums.sums.items (c.in_ok-sums.ensures.sums s (shared_of (g.P.VertexProgram.meaning c.args.program.now) c.args.graph.now c.args.cut.now s c.args.workers.now c.args.mirrors.now c.args.values.now c.args.messages.now kept.held)) c.fill_all.ensures

pub returns-clause-counted : goal.returns-clause-counted
returns-clause-counted g c = λ s kept.
    let Raised : List ℕ → Type 0 = λ us. AreRaised (λ w. sum_by (gather_degree_on (g.P.VertexProgram.meaning c.args.program.now) c.args.graph.now c.args.cut.now w) us) c.args.cut.now.workers (counters_of c.args.seats.now) (counters_of c.gather_part.new.seats) in
    subst Raised (wanted_are (g.P.VertexProgram.meaning c.args.program.now) c.laws_of.ensures c.args.graph.now c.vertices.ensures.graph c.args.cut.now c.requires.cut s c.args.workers.now c.args.mirrors.now c.args.values.now c.args.messages.now c.args.cells.now kept c.args.listed.now c.requires.listed c.as_slice-wanted.result.now (c.as_slice-wanted.ensures.value ∙ c.in_ok-unkept.ensures.wanted)) c.in_ok-sums.ensures.counted
