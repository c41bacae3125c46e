use Rattle.std.proofs.Common.{◌∙◌, arith}
use Rattle.std.proofs.lemmas.Result.{IfOk-weaker}
use Rattle.pg_sync.specs.Held.{no_worker}
use Rattle.pg_sync.proofs.Holding.{are_readable, lists_gathered, partials_own, merged_is, still_present}
use Rattle.pg_sync.proofs.Raising.{on_ok, counters_rise}
use Rattle.pg_sync.proofs.half.gather_part.Goals as goal

pub gather_phase-requires-clause-readable : goal.gather_phase-requires-clause-readable
gather_phase-requires-clause-readable g c κs within = are_readable (g.P.VertexProgram.meaning c.args.program.now) c.laws_of.ensures c.args.graph.now c.vertices.ensures.graph c.args._cut.now c.requires.cut c.requires.shared.state c.args.workers.now c.args.mirrors.now c.requires.shared.state.values c.requires.shared.state.messages c.requires.shared.shared

pub merge_at_masters-requires-clause-parts : goal.merge_at_masters-requires-clause-parts
merge_at_masters-requires-clause-parts g c κs within = rw (lists_gathered (g.P.VertexProgram.meaning c.args.program.now) c.laws_of.ensures c.args.graph.now c.vertices.ensures.graph c.args._cut.now c.requires.cut c.requires.shared.state c.args.workers.now c.args.mirrors.now c.requires.shared.state.values c.requires.shared.state.messages c.requires.shared.shared c.args.wanted.now c.in_ok-parts.parts.items c.gather_phase.new.seats (omega (arith, c.gather_phase.auto.seats, c.requires.seats)) c.in_ok-parts.ensures.sums
    (λ w d h. (c.gather_phase.ensures w d no_worker (omega (arith, h, c.gather_phase.auto.seats))).sums)) (partials_own (g.P.VertexProgram.meaning c.args.program.now) c.laws_of.ensures c.args.graph.now c.vertices.ensures.graph c.args._cut.now c.requires.cut c.requires.shared.state c.args.workers.now c.args.mirrors.now c.requires.shared.state.values c.requires.shared.state.messages c.requires.shared.shared c.args.wanted.now)

pub returns-clause-sums : goal.returns-clause-sums
returns-clause-sums g c = IfOk-weaker c.merge_at_masters.result _ _ (λ sums is s held. is ∙ merged_is (g.P.VertexProgram.meaning c.args.program.now) c.laws_of.ensures c.args.graph.now c.vertices.ensures.graph c.args._cut.now c.requires.cut s c.args.workers.now c.args.mirrors.now s.values s.messages held c.args.wanted.now _ c.requires.apart
    (lists_gathered (g.P.VertexProgram.meaning c.args.program.now) c.laws_of.ensures c.args.graph.now c.vertices.ensures.graph c.args._cut.now c.requires.cut s c.args.workers.now c.args.mirrors.now s.values s.messages held c.args.wanted.now c.in_ok-parts.parts.items c.gather_phase.new.seats (omega (arith, c.gather_phase.auto.seats, c.requires.seats)) c.in_ok-parts.ensures.sums
    (λ w d h. (c.gather_phase.ensures w d no_worker (omega (arith, h, c.gather_phase.auto.seats))).sums))) c.merge_at_masters.ensures

pub returns-in_err-parts-clause-present : goal.returns-in_err-parts-clause-present
returns-in_err-parts-clause-present g c = still_present c.gather_phase.new.seats c.sums_of.new.seats c.sums_of.ensures.counters (λ w d h. (c.gather_phase.ensures w d no_worker (omega (arith, h, c.gather_phase.auto.seats))).present)

pub returns-clause-present : goal.returns-clause-present
returns-clause-present g c = still_present c.gather_phase.new.seats c.sums_of.new.seats c.sums_of.ensures.counters (λ w d h. (c.gather_phase.ensures w d no_worker (omega (arith, h, c.gather_phase.auto.seats))).present)

pub returns-clause-counted : goal.returns-clause-counted
returns-clause-counted g c = on_ok c.merge_at_masters.result (counters_rise (g.P.VertexProgram.meaning c.args.program.now) c.args.graph.now c.vertices.ensures.graph c.args._cut.now c.requires.cut c.requires.shared.state c.args.workers.now c.args.mirrors.now c.requires.shared.state.values c.requires.shared.state.messages c.requires.shared.shared
    c.args.wanted.now c.args.seats.now c.gather_phase.new.seats c.sums_of.new.seats c.in_ok-parts.parts.items c.requires.seats c.gather_phase.auto.seats c.sums_of.ensures.counters c.in_ok-parts.ensures.sums
    (λ w d h. c.gather_phase.ensures w d no_worker h))
