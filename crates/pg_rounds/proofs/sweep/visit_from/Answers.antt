use Rattle.std.proofs.Common.{List, [], ◌∷◌, get_or, ℕ, ap, sym, subst, ◌∙◌}
use Rattle.std.specs.Prelude.{◌==◌, OnOk}
use Rattle.std.proofs.lemmas.Bool.{cond-true, cond-false}
use Rattle.pg_graph.specs.declared.edge.Edge.{Edge}
use Rattle.pg_graph.specs.Multigraph.{no_edge, edge_at}
use Rattle.pg_rounds.specs.Carries.{outcomes_with}
use Rattle.pg_rounds.specs.Visits.{visitor, visitor_of, IsVisited}
use Rattle.pg_rounds.proofs.Carrying.{runs_with, visitor_with}
use Rattle.pg_rounds.proofs.Steps.{visited_none}
use Rattle.pg_rounds.proofs.sweep.visit_from.Goals as goal

pub is_visitor-requires-clause-runs : goal.is_visitor-requires-clause-runs
is_visitor-requires-clause-runs g c = sym (runs_with (g.P.VertexProgram.meaning c.args.program.now) c.args.graph.now c.args.carries.now c.requires.carries.count c.args.v) ∙ c.requires.runs

pub returns-then-not-is_visitor-clause-visited : goal.returns-then-not-is_visitor-clause-visited
returns-then-not-is_visitor-clause-visited g c = let p = g.P.VertexProgram.meaning c.args.program.now in
    let graph = c.args.graph.now in
    let became = (outcomes_with (g.P.VertexProgram.meaning c.args.program.now) c.args.graph.now c.args.carries.now) in
    let carried = ap (λ v. v == c.args.v) (visitor_with p graph c.args.carries.now c.requires.carries.count (edge_at graph c.args.e)) in
    let is = ap (λ (edges : List Edge). visitor_of c.args.carries.now (get_or edges c.args.e no_edge) == c.args.v) c.edges.ensures.value ∙ sym carried in
    let other = sym is ∙ sym c.is_visitor.ensures ∙ c.if-not-is_visitor.true in
    let none = cond-false (visitor graph became c.args.e == c.args.v) (c.args.e ∷ []) [] other in
    let Q = λ (es : List ℕ). IsVisited p graph c.args.values.now c.args.words.now became es c.args.messages.now c.args.messages.now c.args.changes.now.items c.args.changes.now.items in
    subst Q (sym none) (visited_none p graph c.args.values.now c.args.words.now became c.args.messages.now c.args.changes.now.items)

pub returns-clause-visited : goal.returns-clause-visited
returns-clause-visited g c = let p = g.P.VertexProgram.meaning c.args.program.now in
    let graph = c.args.graph.now in
    let became = (outcomes_with (g.P.VertexProgram.meaning c.args.program.now) c.args.graph.now c.args.carries.now) in
    let carried = ap (λ v. v == c.args.v) (visitor_with p graph c.args.carries.now c.requires.carries.count (edge_at graph c.args.e)) in
    let is = ap (λ (edges : List Edge). visitor_of c.args.carries.now (get_or edges c.args.e no_edge) == c.args.v) c.edges.ensures.value ∙ sym carried in
    let here = sym is ∙ sym c.is_visitor.ensures ∙ c.if-not-is_visitor.false in
    let one = cond-true (visitor graph became c.args.e == c.args.v) (c.args.e ∷ []) [] here in
    let Q = λ (es : List ℕ). OnOk c.visit_here.result (IsVisited p graph c.args.values.now c.args.words.now became es c.args.messages.now c.visit_here.new.messages c.args.changes.now.items c.visit_here.new.changes.items) in
    subst Q (sym one) c.visit_here.ensures.visited
