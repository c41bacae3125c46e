use Rattle.std.proofs.Common.{ℕ, List, ◌∙◌, ap, arith, refl, subst, sym, map}
use Rattle.std.specs.Prelude.{sum_by}
use Rattle.pg_law.proofs.Bounds.{executions_within}
use Rattle.pg_law.specs.Round.{fresh}
use Rattle.pg_sync.specs.Kept.{gather_degree, gather_degree_on}
use Rattle.pg_sync.specs.Counting.{counters_of, AreRaised}
use Rattle.pg_sync.proofs.Holding.{wanted_distinct, shared_of, applied_is, sums_mastered}
use Rattle.pg_sync.proofs.Costs.{all_wanted}
use Rattle.pg_sync.proofs.Runs.{waits_below, waits_count}
use Rattle.pg_sync.proofs.Readying.{listed_is}
use Rattle.pg_sync.proofs.half.apply_fresh.Goals as goal

pub gather_part-requires-clause-shared : goal.gather_part-requires-clause-shared
gather_part-requires-clause-shared g c κs within = record {
  state = c.requires.kept.state;
  shared = shared_of (g.P.VertexProgram.meaning c.args.program.now) c.args.graph.now c.args.cut.now c.requires.kept.state c.args.workers.now c.args.mirrors.now c.args.values.now c.args.messages.now c.requires.kept.kept.held;
}

pub gather_part-requires-clause-apart : goal.gather_part-requires-clause-apart
gather_part-requires-clause-apart g c κs within = wanted_distinct (g.P.VertexProgram.meaning c.args.program.now) c.laws_of.ensures c.args.graph.now c.vertices.ensures.graph c.args.cut.now c.requires.cut c.requires.kept.state c.args.workers.now c.args.mirrors.now c.args.values.now c.args.messages.now c.requires.kept.kept.held c.args.listed.now c.requires.listed

pub apply_masters-requires-clause-values : goal.apply_masters-requires-clause-values
apply_masters-requires-clause-values g c κs within = rw c.requires.kept.kept.held.values c.requires.kept.kept.held.fit.values

pub apply_masters-requires-clause-messages : goal.apply_masters-requires-clause-messages
apply_masters-requires-clause-messages g c κs within = rw c.requires.kept.kept.held.messages c.requires.kept.kept.held.fit.messages

pub apply_masters-requires-clause-sums : goal.apply_masters-requires-clause-sums
apply_masters-requires-clause-sums g c κs within = let s = c.requires.kept.state in
    sums_mastered (g.P.VertexProgram.meaning c.args.program.now) c.laws_of.ensures c.args.graph.now c.vertices.ensures.graph c.args.cut.now c.requires.cut c.requires.kept.state c.args.workers.now c.args.mirrors.now c.args.values.now c.args.messages.now c.requires.kept.kept.held c.as_slice.result.now
    (c.as_slice.ensures.value ∙ c.in_ok-sums.ensures.sums s (shared_of (g.P.VertexProgram.meaning c.args.program.now) c.args.graph.now c.args.cut.now s c.args.workers.now c.args.mirrors.now c.args.values.now c.args.messages.now c.requires.kept.kept.held)
    ∙ ap (map (λ u. (u, fresh (g.P.VertexProgram.meaning c.args.program.now) c.args.graph.now s u))) (listed_is (g.P.VertexProgram.meaning c.args.program.now) c.laws_of.ensures c.args.graph.now c.vertices.ensures.graph c.args.cut.now c.requires.cut s c.args.workers.now c.args.mirrors.now c.args.values.now c.args.messages.now _ c.requires.kept.kept c.args.listed.now c.requires.listed))

pub gathers_of-requires-clause-within : goal.gathers_of-requires-clause-within
gathers_of-requires-clause-within g c κs inside = waits_below c.args.graph.now c.args.messages.now c.args.listed.now c.requires.listed

pub gathers_of-requires-clause-few : goal.gathers_of-requires-clause-few
gathers_of-requires-clause-few g c κs inside = omega (
  arith,
  waits_count c.args.graph.now c.args.messages.now c.requires.kept.state c.args.listed.now c.requires.kept.kept.held.messages c.requires.listed,
  executions_within (g.P.VertexProgram.meaning c.args.program.now) c.args.graph.now c.vertices.ensures.graph c.requires.kept.state,
)

pub returns-clause-applied : goal.returns-clause-applied
returns-clause-applied g c = λ s kept. c.in_ok-applied.ensures ∙ applied_is (g.P.VertexProgram.meaning c.args.program.now) c.laws_of.ensures c.args.graph.now c.vertices.ensures.graph c.args.cut.now c.requires.cut s c.args.workers.now c.args.mirrors.now c.args.values.now c.args.messages.now kept.held c.as_slice.result.now
    (c.as_slice.ensures.value ∙ c.in_ok-sums.ensures.sums s (shared_of (g.P.VertexProgram.meaning c.args.program.now) c.args.graph.now c.args.cut.now s c.args.workers.now c.args.mirrors.now c.args.values.now c.args.messages.now kept.held)
    ∙ ap (map (λ u. (u, fresh (g.P.VertexProgram.meaning c.args.program.now) c.args.graph.now s u))) (listed_is (g.P.VertexProgram.meaning c.args.program.now) c.laws_of.ensures c.args.graph.now c.vertices.ensures.graph c.args.cut.now c.requires.cut s c.args.workers.now c.args.mirrors.now c.args.values.now c.args.messages.now _ kept c.args.listed.now c.requires.listed))

pub returns-clause-gathers : goal.returns-clause-gathers
returns-clause-gathers g c = λ s kept. c.gathers_of.ensures
    ∙ ap (sum_by (gather_degree (g.P.VertexProgram.meaning c.args.program.now) c.args.graph.now)) (listed_is (g.P.VertexProgram.meaning c.args.program.now) c.laws_of.ensures c.args.graph.now c.vertices.ensures.graph c.args.cut.now c.requires.cut s c.args.workers.now c.args.mirrors.now c.args.values.now c.args.messages.now _ kept c.args.listed.now c.requires.listed ∙ sym (all_wanted c.args.graph.now _ s (λ u. refl)))

pub returns-clause-counted : goal.returns-clause-counted
returns-clause-counted g c = λ s kept.
    let Raised : List ℕ → Type 0 = λ us. AreRaised (λ w. sum_by (gather_degree_on (g.P.VertexProgram.meaning c.args.program.now) c.args.graph.now c.args.cut.now w) us) c.args.cut.now.workers (counters_of c.args.seats.now) (counters_of c.gather_part.new.seats) in
    subst Raised (listed_is (g.P.VertexProgram.meaning c.args.program.now) c.laws_of.ensures c.args.graph.now c.vertices.ensures.graph c.args.cut.now c.requires.cut s c.args.workers.now c.args.mirrors.now c.args.values.now c.args.messages.now _ kept c.args.listed.now c.requires.listed ∙ sym (all_wanted c.args.graph.now _ s (λ u. refl))) c.in_ok-sums.ensures.counted
