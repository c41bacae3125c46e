use Rattle.std.proofs.Common.{◌≡◌, ℕ, ◌<◌, List, [], ◌∷◌, length, ap, sym, subst, arith}
use Rattle.std.specs.List.{range_with_len}
use Rattle.std.proofs.lemmas.List.Elements.{All-nil}
use Rattle.pg_graph.specs.Multigraph.{edge_numbers}
use Rattle.pg_graph.proofs.Numbers.{numbers_more}
use Rattle.pg_law.specs.declared.edge_words.Change.{Change}
use Rattle.pg_rounds.specs.Carries.{outcomes_with}
use Rattle.pg_rounds.specs.Visits.{IsVisited}
use Rattle.pg_rounds.proofs.Steps.{visited_none, visited_then}
use Rattle.pg_rounds.proofs.Sweeping.{swept_words, swept_messages}
use Rattle.pg_rounds.proofs.sweep.sweep.Goals as goal

pub loop-e-init : goal.loop-e-init
loop-e-init g c = record {
  visited = visited_none (g.P.VertexProgram.meaning c.args.program.now) c.args.graph.now c.args.values.now c.args.words.now (outcomes_with (g.P.VertexProgram.meaning c.args.program.now) c.args.graph.now c.args.carries.now) c.args.messages.now c.args.changes.now.items;
  own = c.requires.messages;
}

pub loop-e-preserved : goal.loop-e-preserved
loop-e-preserved g c = let p = g.P.VertexProgram.meaning c.args.program.now in
    let e = c.loop-e.e in
    let Q = λ (es : List ℕ). IsVisited p c.args.graph.now c.args.values.now c.args.words.now (outcomes_with (g.P.VertexProgram.meaning c.args.program.now) c.args.graph.now c.args.carries.now) es c.args.messages.now c.visit_here.new.messages c.args.changes.now.items c.visit_here.new.changes.items in
    record {
      visited = subst Q (sym (numbers_more e)) (visited_then p c.args.graph.now c.args.values.now c.args.words.now (outcomes_with (g.P.VertexProgram.meaning c.args.program.now) c.args.graph.now c.args.carries.now) (range_with_len 0 e) (e ∷ []) c.args.messages.now c.loop-e.messages c.visit_here.new.messages c.args.changes.now.items c.loop-e.changes.items c.visit_here.new.changes.items
          c.loop-e.invariant.visited c.in_ok-visit_here.ensures.visited);
      own = c.in_ok-visit_here.ensures.own;
    }

-- all edges are visited
all_visited : (g : _) (c : goal.After-loop-e g) → IsVisited (g.P.VertexProgram.meaning c.args.program.now) c.args.graph.now c.args.values.now c.args.words.now (outcomes_with (g.P.VertexProgram.meaning c.args.program.now) c.args.graph.now c.args.carries.now) (edge_numbers c.args.graph.now) c.args.messages.now c.loop-e.messages [] c.loop-e.changes.items
all_visited g c = let p = g.P.VertexProgram.meaning c.args.program.now in
    let all : c.loop-e.e ≡ length c.args.graph.now.edges = omega (arith, ap length c.edges.ensures.value) in
    let Q = λ (n : ℕ). IsVisited p c.args.graph.now c.args.values.now c.args.words.now (outcomes_with (g.P.VertexProgram.meaning c.args.program.now) c.args.graph.now c.args.carries.now) (range_with_len 0 n) c.args.messages.now c.loop-e.messages c.args.changes.now.items c.loop-e.changes.items in
    let R = λ (changes : List Change). IsVisited p c.args.graph.now c.args.values.now c.args.words.now (outcomes_with (g.P.VertexProgram.meaning c.args.program.now) c.args.graph.now c.args.carries.now) (edge_numbers c.args.graph.now) c.args.messages.now c.loop-e.messages changes c.loop-e.changes.items in
    subst R c.requires.none (subst Q all c.loop-e.invariant.visited)

pub returns-clause-words : goal.returns-clause-words
returns-clause-words g c = swept_words (g.P.VertexProgram.meaning c.args.program.now) c.args.graph.now c.args.values.now c.args.words.now (outcomes_with (g.P.VertexProgram.meaning c.args.program.now) c.args.graph.now c.args.carries.now) c.args.messages.now c.loop-e.messages c.loop-e.changes.items (all_visited g c) c.requires.words.count

pub returns-clause-messages : goal.returns-clause-messages
returns-clause-messages g c = swept_messages (g.P.VertexProgram.meaning c.args.program.now) c.args.graph.now c.args.values.now c.args.words.now (outcomes_with (g.P.VertexProgram.meaning c.args.program.now) c.args.graph.now c.args.carries.now) c.args.messages.now c.loop-e.messages c.loop-e.changes.items (all_visited g c) c.loop-e.invariant.own.count

pub returns-clause-inside : goal.returns-clause-inside
returns-clause-inside g c = (all_visited g c).inside (All-nil (λ (change : Change). change.edge < length c.args.graph.now.edges))
