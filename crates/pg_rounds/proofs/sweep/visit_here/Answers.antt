use Rattle.std.proofs.Common.{◌≡◌, ◌<◌, length, ℕ, arith, cond, refl, ◌∙◌}
use Rattle.pg_graph.specs.Multigraph.{is_at, side_of, edge_at}
use Rattle.pg_law.specs.Configuration.{message_in}
use Rattle.pg_law.specs.Round.{join, received, signal_in, from_source, from_target}
use Rattle.pg_law.proofs.Fitting.{source_own, target_own, signal_own}
use Rattle.pg_rounds.specs.Carries.{outcomes_with}
use Rattle.pg_rounds.proofs.Carrying.{with_own}
use Rattle.pg_rounds.proofs.Steps.{visited_edge, received_own}
use Rattle.pg_rounds.proofs.sweep.visit_here.Goals as goal

pub deliver-requires-clause-source : goal.deliver-requires-clause-source
deliver-requires-clause-source g c κs within = let p = g.P.VertexProgram.meaning c.args.program.now in
    rw c.in_ok-visit.ensures.source (signal_own p c.args.graph.now c.laws_of.ensures c.edges.ensures.graph _
    (source_own p c.args.graph.now c.laws_of.ensures c.edges.ensures.graph c.args.values.now c.args.words.now (outcomes_with (g.P.VertexProgram.meaning c.args.program.now) c.args.graph.now c.args.carries.now) c.requires.values c.requires.words (with_own (g.P.VertexProgram.meaning c.args.program.now) c.args.graph.now c.args.carries.now c.laws_of.ensures c.edges.ensures.graph c.requires.carries) c.args.e c.requires.e))

pub deliver-requires-clause-target : goal.deliver-requires-clause-target
deliver-requires-clause-target g c κs within = let p = g.P.VertexProgram.meaning c.args.program.now in
    rw c.in_ok-visit.ensures.target (signal_own p c.args.graph.now c.laws_of.ensures c.edges.ensures.graph _
    (target_own p c.args.graph.now c.laws_of.ensures c.edges.ensures.graph c.args.values.now c.args.words.now (outcomes_with (g.P.VertexProgram.meaning c.args.program.now) c.args.graph.now c.args.carries.now) c.requires.values c.requires.words (with_own (g.P.VertexProgram.meaning c.args.program.now) c.args.graph.now c.args.carries.now c.laws_of.ensures c.edges.ensures.graph c.requires.carries) c.args.e c.requires.e))

-- the ends of the edge receive its signals
sent : (g : _) (c : goal.In_ok-note_change g) (u : ℕ) → u < length c.args.graph.now.ids → let p = g.P.VertexProgram.meaning c.args.program.now in
    message_in c.deliver.new.messages u ≡ cond (is_at u (edge_at c.args.graph.now c.args.e))
    (join p.combine (message_in c.args.messages.now u) (received (side_of u (edge_at c.args.graph.now c.args.e)) (signal_in (from_source p c.args.graph.now c.args.values.now c.args.words.now (outcomes_with (g.P.VertexProgram.meaning c.args.program.now) c.args.graph.now c.args.carries.now) c.args.e)) (signal_in (from_target p c.args.graph.now c.args.values.now c.args.words.now (outcomes_with (g.P.VertexProgram.meaning c.args.program.now) c.args.graph.now c.args.carries.now) c.args.e))))
    (message_in c.args.messages.now u)
sent g c u h = c.deliver.ensures u (omega (arith, c.requires.messages.count)) ∙ rw (c.edges.ensures.value, c.in_ok-visit.ensures.source, c.in_ok-visit.ensures.target) refl

pub returns-clause-visited : goal.returns-clause-visited
returns-clause-visited g c = let p = g.P.VertexProgram.meaning c.args.program.now in
    let noted = rw (c.in_ok-visit.ensures.word, c.word.ensures) at c.in_ok-note_change.ensures in
    visited_edge p c.args.graph.now c.args.values.now c.args.words.now (outcomes_with (g.P.VertexProgram.meaning c.args.program.now) c.args.graph.now c.args.carries.now) c.args.e c.args.messages.now c.deliver.new.messages c.args.changes.now.items c.note_change.new.changes.items (omega (arith, c.requires.words.count)) c.requires.e (sent g c) noted

pub returns-clause-own : goal.returns-clause-own
returns-clause-own g c = received_own (g.P.VertexProgram.meaning c.args.program.now) c.args.graph.now c.args.values.now c.args.words.now (outcomes_with (g.P.VertexProgram.meaning c.args.program.now) c.args.graph.now c.args.carries.now) c.laws_of.ensures c.edges.ensures.graph c.requires.values c.requires.words (with_own (g.P.VertexProgram.meaning c.args.program.now) c.args.graph.now c.args.carries.now c.laws_of.ensures c.edges.ensures.graph c.requires.carries)
    c.args.e c.args.messages.now c.deliver.new.messages c.requires.e c.requires.messages c.deliver.auto.messages (sent g c)
