use Rattle.std.proofs.Common.{◌≡◌, ℕ, List, length, ◌∙◌, ap, arith, subst}
use Rattle.std.specs.Prelude.{All}
use Rattle.pg_law.specs.declared.values.Datum.{Datum}
use Rattle.pg_law.specs.Configuration.{Configuration}
use Rattle.pg_law.proofs.Fitting.{execution_fits}
use Rattle.pg_serial.specs.declared.scatter.Sent.{Sent}
use Rattle.pg_serial.specs.Sending.{sents_around, IsAddressed}
use Rattle.pg_serial.proofs.Touching.{outcome_here}
use Rattle.pg_serial.proofs.Signals.{degree_few, signals_after}
use Rattle.pg_serial.proofs.execution.execute_beside.Goals as goal

pub commit-requires-clause-applied : goal.commit-requires-clause-applied
commit-requires-clause-applied g c κs within = outcome_here (g.P.VertexProgram.meaning c.args.program.now) c.args.graph.now c.args.state.now
    c.args.u c.args.message c.in_ok-turn.turn.applied c.requires.message c.in_ok-turn.ensures.applied

pub returns-clause-few : goal.returns-clause-few
returns-clause-few g c = omega (
  arith,
  c.in_ok-turn.ensures.gathers,
  degree_few (g.P.VertexProgram.meaning c.args.program.now) c.args.graph.now c.vertices.ensures.graph c.args.u,
)

pub returns-clause-fit : goal.returns-clause-fit
returns-clause-fit g c = rw c.in_ok-commit.ensures.ok (execution_fits (g.P.VertexProgram.meaning c.args.program.now) c.args.graph.now
    c.laws_of.ensures c.vertices.ensures.graph c.args.state.now c.args.u c.requires.fit)

pub returns-clause-signals : goal.returns-clause-signals
returns-clause-signals g c = let p = g.P.VertexProgram.meaning c.args.program.now in
    let graph = c.args.graph.now in
    let s = c.args.state.now in
    let applied = c.in_ok-turn.turn.applied in
    let is = outcome_here p graph s c.args.u c.args.message applied c.requires.message c.in_ok-turn.ensures.applied in
    let values : c.as_slice.result.now ≡ s.values = c.as_slice.ensures.value ∙ ap (λ (s : Configuration). s.values) c.state.view_is in
    let words : c.state.inside.edges ≡ s.edges = ap (λ (s : Configuration). s.edges) c.state.view_is in
    let sents : c.scatter_around.new.sents.items ≡ sents_around p graph s.values s.edges c.args.u applied = c.in_ok-scatter_around.ensures.value
    ∙ ap (λ (values : List Datum). sents_around p graph values c.state.inside.edges c.args.u applied) values
    ∙ ap (λ (words : List ℕ). sents_around p graph s.values words c.args.u applied) words in
    let Own : List Sent → Type 0 = λ sents. All (IsAddressed p (length graph.edges) (length graph.ids)) sents in
    let own = subst Own sents c.in_ok-scatter_around.ensures.own in
    let fits = execution_fits p graph c.laws_of.ensures c.vertices.ensures.graph s c.args.u c.requires.fit in
    λ v. rw (c.in_ok-commit.ensures.ok, sents) (signals_after p graph c.vertices.ensures.graph s c.args.u c.requires.u applied is c.requires.fit fits own v)
