use Rattle.std.proofs.Common.{◌≡◌, ◌<◌, true, ℕ, List, [], ◌∷◌, ◌++◌, length, get_or, take, ap, sym, subst, ◌∙◌}
use Rattle.std.specs.Prelude.{filter}
use Rattle.std.specs.List.{All}
use Rattle.std.proofs.lemmas.List.{take_all, take_more, append-nil}
use Rattle.std.proofs.lemmas.List.Concat.{flat_map-append}
use Rattle.std.proofs.lemmas.List.Elements.{All-nil}
use Rattle.pg_graph.proofs.Numbers.{filter_numbers_each}
use Rattle.pg_graph.specs.Multigraph.{vertices}
use Rattle.pg_law.specs.declared.edge_words.Change.{Change}
use Rattle.pg_rounds.specs.Carries.{outcomes_with}
use Rattle.pg_rounds.specs.Visits.{executes_in, visits_of, visits, IsVisited}
use Rattle.pg_rounds.proofs.Carrying.{with_own}
use Rattle.pg_rounds.proofs.Steps.{visited_none, visited_then}
use Rattle.pg_rounds.proofs.Visiting.{messages_all, words_all}
use Rattle.pg_rounds.proofs.sweep.visit_frontier.Goals as goal

-- each of the frontier is a vertex that executes
each_runs : (g : _) (c : goal.After-visit_around-arg-in-loop-v-1 g) → (get_or c.args.frontier.now c.loop-v.v-index 0 < length c.args.graph.now.ids) × (executes_in (outcomes_with (g.P.VertexProgram.meaning c.args.program.now) c.args.graph.now c.args.carries.now) (get_or c.args.frontier.now c.loop-v.v-index 0) ≡ true)
each_runs g c = let runs = filter_numbers_each (executes_in (outcomes_with (g.P.VertexProgram.meaning c.args.program.now) c.args.graph.now c.args.carries.now)) (length c.args.graph.now.ids) in
    let P = λ (v : ℕ). (v < length c.args.graph.now.ids) × (executes_in (outcomes_with (g.P.VertexProgram.meaning c.args.program.now) c.args.graph.now c.args.carries.now) v ≡ true) in
    let Q = λ (vs : List ℕ). All P vs in
    subst Q (sym c.requires.frontier) runs c.loop-v.v-index 0 c.loop-v-test.true

pub visit_around-requires-clause-messages : goal.visit_around-requires-clause-messages
visit_around-requires-clause-messages g c κs within = c.loop-v.invariant.own

pub visit_around-requires-clause-v : goal.visit_around-requires-clause-v
visit_around-requires-clause-v g c κs within = (each_runs g c).0

pub visit_around-requires-clause-runs : goal.visit_around-requires-clause-runs
visit_around-requires-clause-runs g c κs within = (each_runs g c).1

pub loop-v-init : goal.loop-v-init
loop-v-init g c = record {
  visited = visited_none (g.P.VertexProgram.meaning c.args.program.now) c.args.graph.now c.args.values.now c.args.words.now (outcomes_with (g.P.VertexProgram.meaning c.args.program.now) c.args.graph.now c.args.carries.now) c.args.messages.now c.args.changes.now.items;
  own = c.requires.messages;
}

pub loop-v-preserved : goal.loop-v-preserved
loop-v-preserved g c = let p = g.P.VertexProgram.meaning c.args.program.now in
    let graph = c.args.graph.now in
    let became = (outcomes_with (g.P.VertexProgram.meaning c.args.program.now) c.args.graph.now c.args.carries.now) in
    let frontier = c.args.frontier.now in
    let v = get_or frontier c.loop-v.v-index 0 in
    let so_far = visits graph became (take c.loop-v.v-index frontier) in
    let more = ap (visits graph became) (take_more frontier c.loop-v.v-index 0 c.loop-v-test.true) ∙ flat_map-append (visits_of graph became) (take c.loop-v.v-index frontier) (v ∷ []) ∙ ap (λ es. so_far ++ es) (append-nil (visits_of graph became v)) in
    let Q = λ (es : List ℕ). IsVisited p graph c.args.values.now c.args.words.now became es c.args.messages.now c.visit_around.new.messages c.args.changes.now.items c.visit_around.new.changes.items in
    record {
      visited = subst Q (sym more) (visited_then p graph c.args.values.now c.args.words.now became so_far (visits_of graph became v) c.args.messages.now c.loop-v.messages c.visit_around.new.messages c.args.changes.now.items c.loop-v.changes.items c.visit_around.new.changes.items
          c.loop-v.invariant.visited c.in_ok-visit_around.ensures.visited);
      own = c.in_ok-visit_around.ensures.own;
    }

-- all that execute have visited their edges
all_visited : (g : _) (c : goal.After-loop-v g) → IsVisited (g.P.VertexProgram.meaning c.args.program.now) c.args.graph.now c.args.values.now c.args.words.now (outcomes_with (g.P.VertexProgram.meaning c.args.program.now) c.args.graph.now c.args.carries.now) (visits c.args.graph.now (outcomes_with (g.P.VertexProgram.meaning c.args.program.now) c.args.graph.now c.args.carries.now) (filter (executes_in (outcomes_with (g.P.VertexProgram.meaning c.args.program.now) c.args.graph.now c.args.carries.now)) (vertices c.args.graph.now))) c.args.messages.now c.loop-v.messages [] c.loop-v.changes.items
all_visited g c = let p = g.P.VertexProgram.meaning c.args.program.now in
    let graph = c.args.graph.now in
    let became = (outcomes_with (g.P.VertexProgram.meaning c.args.program.now) c.args.graph.now c.args.carries.now) in
    let all = ap (visits graph became) (take_all c.loop-v.v-index c.args.frontier.now c.loop-v-test.false ∙ c.requires.frontier) in
    let Q = λ (es : List ℕ). IsVisited p graph c.args.values.now c.args.words.now became es c.args.messages.now c.loop-v.messages c.args.changes.now.items c.loop-v.changes.items in
    let R = λ (changes : List Change). IsVisited p graph c.args.values.now c.args.words.now became (visits graph became (filter (executes_in became) (vertices graph))) c.args.messages.now c.loop-v.messages changes c.loop-v.changes.items in
    subst R c.requires.none (subst Q all c.loop-v.invariant.visited)

pub returns-clause-words : goal.returns-clause-words
returns-clause-words g c = words_all (g.P.VertexProgram.meaning c.args.program.now) c.args.graph.now c.args.values.now c.args.words.now (outcomes_with (g.P.VertexProgram.meaning c.args.program.now) c.args.graph.now c.args.carries.now) c.laws_of.ensures c.vertices.ensures.graph c.requires.values c.requires.words (with_own (g.P.VertexProgram.meaning c.args.program.now) c.args.graph.now c.args.carries.now c.laws_of.ensures c.vertices.ensures.graph c.requires.carries)
    c.args.messages.now c.loop-v.messages c.loop-v.changes.items c.requires.messages (all_visited g c)

pub returns-clause-messages : goal.returns-clause-messages
returns-clause-messages g c = messages_all (g.P.VertexProgram.meaning c.args.program.now) c.args.graph.now c.args.values.now c.args.words.now (outcomes_with (g.P.VertexProgram.meaning c.args.program.now) c.args.graph.now c.args.carries.now) c.laws_of.ensures c.vertices.ensures.graph c.requires.values c.requires.words (with_own (g.P.VertexProgram.meaning c.args.program.now) c.args.graph.now c.args.carries.now c.laws_of.ensures c.vertices.ensures.graph c.requires.carries)
    c.args.messages.now c.loop-v.messages c.loop-v.changes.items c.requires.messages (all_visited g c) c.loop-v.invariant.own.count

pub returns-clause-inside : goal.returns-clause-inside
returns-clause-inside g c = (all_visited g c).inside (All-nil (λ (change : Change). change.edge < length c.args.graph.now.edges))
