use Rattle.std.proofs.Common.{ℕ, List, [], ◌∷◌, get_or, take, cond, ap, sym, subst, ◌∙◌}
use Rattle.std.specs.Prelude.{◌==◌, filter}
use Rattle.std.proofs.lemmas.List.{take_all}
use Rattle.std.proofs.lemmas.List.Elements.{filter_more}
use Rattle.pg_rounds.specs.Carries.{outcomes_with}
use Rattle.pg_rounds.specs.Visits.{visitor, IsVisited}
use Rattle.pg_rounds.proofs.Steps.{visited_none, visited_then}
use Rattle.pg_rounds.proofs.sweep.visit_around.Goals as goal

pub visit_from-requires-clause-messages : goal.visit_from-requires-clause-messages
visit_from-requires-clause-messages g c κs within = c.loop-e.invariant.own

pub visit_from-requires-clause-e : goal.visit_from-requires-clause-e
visit_from-requires-clause-e g c κs within = (c.edges_of-around.ensures.within c.loop-e.e-index 0 c.loop-e-test.true).0

pub visit_from-requires-clause-at : goal.visit_from-requires-clause-at
visit_from-requires-clause-at g c κs within = (c.edges_of-around.ensures.within c.loop-e.e-index 0 c.loop-e-test.true).1

pub loop-e-init : goal.loop-e-init
loop-e-init g c = record {
  visited = visited_none (g.P.VertexProgram.meaning c.args.program.now) c.args.graph.now c.args.values.now c.args.words.now (outcomes_with (g.P.VertexProgram.meaning c.args.program.now) c.args.graph.now c.args.carries.now) c.args.messages.now c.args.changes.now.items;
  own = c.requires.messages;
}

pub loop-e-preserved : goal.loop-e-preserved
loop-e-preserved g c = let p = g.P.VertexProgram.meaning c.args.program.now in
    let graph = c.args.graph.now in
    let became = (outcomes_with (g.P.VertexProgram.meaning c.args.program.now) c.args.graph.now c.args.carries.now) in
    let around = c.edges_of-around.result.now in
    let mine = λ (e : ℕ). visitor graph became e == c.args.v in
    let e = get_or around c.loop-e.e-index 0 in
    let more = filter_more mine around c.loop-e.e-index 0 c.loop-e-test.true in
    let Q = λ (es : List ℕ). IsVisited p graph c.args.values.now c.args.words.now became es c.args.messages.now c.visit_from.new.messages c.args.changes.now.items c.visit_from.new.changes.items in
    record {
      visited = subst Q (sym more) (visited_then p graph c.args.values.now c.args.words.now became (filter mine (take c.loop-e.e-index around)) (cond (mine e) (e ∷ []) []) c.args.messages.now c.loop-e.messages c.visit_from.new.messages c.args.changes.now.items c.loop-e.changes.items c.visit_from.new.changes.items
          c.loop-e.invariant.visited c.in_ok-visit_from.ensures.visited);
      own = c.in_ok-visit_from.ensures.own;
    }

pub returns-clause-visited : goal.returns-clause-visited
returns-clause-visited g c = let p = g.P.VertexProgram.meaning c.args.program.now in
    let graph = c.args.graph.now in
    let became = (outcomes_with (g.P.VertexProgram.meaning c.args.program.now) c.args.graph.now c.args.carries.now) in
    let around = c.edges_of-around.result.now in
    let all = ap (filter (λ e. visitor graph became e == c.args.v)) (take_all c.loop-e.e-index around c.loop-e-test.false ∙ c.edges_of-around.ensures.value) in
    let Q = λ (es : List ℕ). IsVisited p graph c.args.values.now c.args.words.now became es c.args.messages.now c.loop-e.messages c.args.changes.now.items c.loop-e.changes.items in
    subst Q all c.loop-e.invariant.visited

pub returns-clause-own : goal.returns-clause-own
returns-clause-own g c = c.loop-e.invariant.own
