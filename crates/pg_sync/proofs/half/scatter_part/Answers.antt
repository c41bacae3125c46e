use Rattle.std.proofs.Common.{◌≡◌, ◌≢◌, ℕ, ◌<◌, Option, List, length, get_or, sym, subst, ◌∙◌, ap, arith}
use Rattle.std.specs.Prelude.{All, AllPairs}
use Rattle.std.proofs.lemmas.List.{with_items_is}
use Rattle.pg_apply_scatter.specs.Delivering.{AreCombined, ArePosted}
use Rattle.pg_law.specs.declared.values.Datum.{Datum}
use Rattle.pg_cut.specs.ByWorker.{lists_in}
use Rattle.pg_apply_scatter.specs.Pushing.{table_at, ArePushed}
use Rattle.pg_apply_scatter.specs.Sending.{IsSentIn}
use Rattle.pg_sync.specs.declared.worker.Scattering.{Scattering}
use Rattle.pg_sync.specs.Phases.{HasScattered}
use Rattle.pg_sync.proofs.Halving.{firsts_apart, firsts_below, data_apart, readable_pushed, carries_own, state_fit, messages_written, lists_own, holds_round, cells_told, on_ok_then}
use Rattle.pg_sync.proofs.half.scatter_part.Goals as goal

pub write-requires-clause-apart : goal.write-requires-clause-apart
write-requires-clause-apart g c = firsts_apart (g.P.VertexProgram.meaning c.args.program.now) c.laws_of.ensures c.args.graph.now c.vertices.ensures.graph c.args._cut.now c.requires.cut c.requires.held.state c.args.workers.now c.args.mirrors.now c.args.masters.now c.requires.held.held c.args.applied.now c.requires.held.applies

pub write-requires-clause-vertices : goal.write-requires-clause-vertices
write-requires-clause-vertices g c = λ i d h. let below = firsts_below (g.P.VertexProgram.meaning c.args.program.now) c.laws_of.ensures c.args.graph.now c.vertices.ensures.graph c.args._cut.now c.requires.cut c.requires.held.state c.args.workers.now c.args.mirrors.now c.args.masters.now c.requires.held.held c.args.applied.now c.requires.held.applies i d h in
    omega (arith, below, ap length c.requires.held.held.values, c.requires.held.held.fit.values.count)

pub push_phase-requires-clause-apart : goal.push_phase-requires-clause-apart
push_phase-requires-clause-apart g c κs within = let Apart : List (ℕ × Datum) → Type 0 = λ xs. AllPairs (λ a b. a.0 ≢ b.0) xs in
    subst Apart (sym (c.as_slice.ensures.value ∙ c.in_ok-pairs.ensures)) (data_apart (g.P.VertexProgram.meaning c.args.program.now) c.laws_of.ensures c.args.graph.now c.vertices.ensures.graph c.args._cut.now c.requires.cut c.requires.held.state c.args.workers.now c.args.mirrors.now c.args.masters.now c.requires.held.held c.args.applied.now c.requires.held.applies)

pub scatter_phase-requires-clause-readable : goal.scatter_phase-requires-clause-readable
scatter_phase-requires-clause-readable g c κs within =
    let Pushed : List (ℕ × Datum) → Type 0 = λ ms. ArePushed c.args.mirrors.now c.push_phase.new.mirrors ms in
    let pushed = subst Pushed (c.as_slice.ensures.value ∙ c.in_ok-pairs.ensures) c.push_phase.ensures in
    readable_pushed (g.P.VertexProgram.meaning c.args.program.now) c.laws_of.ensures c.args.graph.now c.vertices.ensures.graph c.args._cut.now c.requires.cut c.requires.held.state c.args.workers.now c.args.mirrors.now c.args.masters.now c.requires.held.held c.args.applied.now c.requires.held.applies c.push_phase.new.mirrors pushed

pub scatter_phase-requires-clause-carries : goal.scatter_phase-requires-clause-carries
scatter_phase-requires-clause-carries g c κs within = rw c.as_slice-2.ensures.value (carries_own (g.P.VertexProgram.meaning c.args.program.now) c.laws_of.ensures c.args.graph.now c.vertices.ensures.graph c.args._cut.now c.requires.cut c.requires.held.state c.args.workers.now c.args.mirrors.now c.args.masters.now c.requires.held.held c.args.applied.now c.requires.held.applies c.write.new.self c.write.ensures c.requires.carries)

pub deliver-requires-clause-sent : goal.deliver-requires-clause-sent
deliver-requires-clause-sent g c κs within =
    let Pushed : List (ℕ × Datum) → Type 0 = λ ms. ArePushed c.args.mirrors.now c.push_phase.new.mirrors ms in
    let pushed = subst Pushed (c.as_slice.ensures.value ∙ c.in_ok-pairs.ensures) c.push_phase.ensures in
    let scattered = λ (w : ℕ) (d : Scattering g.row.P-Acc.Denot) (h : w < length c.args.workers.now). (let By : List (Option g.row.P-Carry.Denot) → Type 0 = λ cs. HasScattered (g.P.VertexProgram.meaning c.args.program.now) c.args.graph.now (table_at c.push_phase.new.mirrors w) cs c.are_kept-with_deltas.result (get_or c.args.workers.now w d) (get_or c.scatter_phase.new.scatterings w d) in
    subst By c.as_slice-2.ensures.value (c.scatter_phase.ensures w d h)) in
    let Own : ℕ → Type 0 = λ n. All (All (IsSentIn (g.P.VertexProgram.meaning c.args.program.now) n)) (lists_in c.in_ok-lists.lists.items) in
    let count : length c.args.graph.now.ids ≡ length c.as_mut_slice-messages.result.now = omega (arith, ap length c.as_mut_slice-messages.ensures.value, c.write.ensures.message_count, ap length c.requires.held.held.messages, c.requires.held.held.fit.messages.count) in
    subst Own count (lists_own (g.P.VertexProgram.meaning c.args.program.now) c.laws_of.ensures c.args.graph.now c.vertices.ensures.graph c.args._cut.now c.requires.cut c.requires.held.state c.args.workers.now c.args.mirrors.now c.args.masters.now c.requires.held.held c.args.applied.now c.requires.held.applies c.write.new.self c.write.ensures c.requires.carries c.push_phase.new.mirrors pushed c.are_kept-with_deltas.result c.scatter_phase.new.scatterings c.in_ok-lists.lists.items c.scatter_phase.auto.scatterings c.in_ok-lists.ensures.sent scattered)

pub deliver-requires-clause-messages : goal.deliver-requires-clause-messages
deliver-requires-clause-messages g c κs within = let p = g.P.VertexProgram.meaning c.args.program.now in
    let written = c.as_mut_slice-messages.ensures.value ∙ messages_written (g.P.VertexProgram.meaning c.args.program.now) c.laws_of.ensures c.args.graph.now c.vertices.ensures.graph c.args._cut.now c.requires.cut c.requires.held.state c.args.workers.now c.args.mirrors.now c.args.masters.now c.requires.held.held c.args.applied.now c.requires.held.applies c.write.new.self c.write.ensures c.requires.carries in
    let fit = state_fit (g.P.VertexProgram.meaning c.args.program.now) c.laws_of.ensures c.args.graph.now c.vertices.ensures.graph c.args._cut.now c.requires.cut c.requires.held.state c.args.workers.now c.args.mirrors.now c.args.masters.now c.requires.held.held c.args.applied.now c.requires.held.applies in
    λ v h. rw written (fit.messages.each v (omega (arith, h, ap length written, fit.messages.count)))

pub returns-clause-held : goal.returns-clause-held
returns-clause-held g c = on_ok_then c.deliver.result (AreCombined (g.P.VertexProgram.meaning c.args.program.now) (lists_in c.in_ok-lists.lists.items) c.as_mut_slice-messages.result.now c.deliver.new.messages) _ (λ combined s held applies.
    let Pushed : List (ℕ × Datum) → Type 0 = λ ms. ArePushed c.args.mirrors.now c.push_phase.new.mirrors ms in
    let pushed = subst Pushed (c.as_slice.ensures.value ∙ c.in_ok-pairs.ensures) c.push_phase.ensures in
    let scattered = λ (w : ℕ) (d : Scattering g.row.P-Acc.Denot) (h : w < length c.args.workers.now). (let By : List (Option g.row.P-Carry.Denot) → Type 0 = λ cs. HasScattered (g.P.VertexProgram.meaning c.args.program.now) c.args.graph.now (table_at c.push_phase.new.mirrors w) cs c.are_kept-with_deltas.result (get_or c.args.workers.now w d) (get_or c.scatter_phase.new.scatterings w d) in
    subst By c.as_slice-2.ensures.value (c.scatter_phase.ensures w d h)) in
    let whole = with_items_is c.write.new.self.messages c.deliver.new.messages (omega (arith, c.deliver.auto.messages, c.as_mut_slice-messages.ensures.len)) in
    let count : length c.deliver.new.messages ≡ length c.write.new.self.messages.items = omega (arith, c.deliver.auto.messages, ap length c.as_mut_slice-messages.ensures.value) in
    let Combined : List (Option ℕ) → Type 0 = λ ms. AreCombined (g.P.VertexProgram.meaning c.args.program.now) (lists_in c.in_ok-lists.lists.items) ms c.deliver.new.messages in
    let after : AreCombined (g.P.VertexProgram.meaning c.args.program.now) (lists_in c.in_ok-lists.lists.items) c.write.new.self.messages.items c.deliver.new.messages = subst Combined c.as_mut_slice-messages.ensures.value combined in
    rw whole (holds_round (g.P.VertexProgram.meaning c.args.program.now) c.laws_of.ensures c.args.graph.now c.vertices.ensures.graph c.args._cut.now c.requires.cut s c.args.workers.now c.args.mirrors.now c.args.masters.now held c.args.applied.now applies c.write.new.self c.write.ensures c.requires.carries c.push_phase.new.mirrors pushed c.are_kept-with_deltas.result c.scatter_phase.new.scatterings c.in_ok-lists.lists.items c.scatter_phase.auto.scatterings c.in_ok-lists.ensures.sent scattered c.sent_of.new.workers c.deliver.new.messages c.in_ok-lists.ensures.stores after count)) c.deliver.ensures.messages

pub returns-clause-caches : goal.returns-clause-caches
returns-clause-caches g c = on_ok_then c.deliver.result (ArePosted (g.P.VertexProgram.meaning c.args.program.now) (lists_in c.in_ok-lists.lists.items) c.args.cells.now c.deliver.new.cells) _ (λ posts s held applies deltas.
    let Pushed : List (ℕ × Datum) → Type 0 = λ ms. ArePushed c.args.mirrors.now c.push_phase.new.mirrors ms in
    let pushed = subst Pushed (c.as_slice.ensures.value ∙ c.in_ok-pairs.ensures) c.push_phase.ensures in
    let scattered = λ (w : ℕ) (d : Scattering g.row.P-Acc.Denot) (h : w < length c.args.workers.now). (let By : List (Option g.row.P-Carry.Denot) → Type 0 = λ cs. HasScattered (g.P.VertexProgram.meaning c.args.program.now) c.args.graph.now (table_at c.push_phase.new.mirrors w) cs c.are_kept-with_deltas.result (get_or c.args.workers.now w d) (get_or c.scatter_phase.new.scatterings w d) in
    subst By c.as_slice-2.ensures.value (c.scatter_phase.ensures w d h)) in
    cells_told (g.P.VertexProgram.meaning c.args.program.now) c.laws_of.ensures c.args.graph.now c.vertices.ensures.graph c.args._cut.now c.requires.cut s c.args.workers.now c.args.mirrors.now c.args.masters.now held c.args.applied.now applies c.write.new.self c.write.ensures c.requires.carries c.push_phase.new.mirrors pushed c.are_kept-with_deltas.result c.scatter_phase.new.scatterings c.in_ok-lists.lists.items c.scatter_phase.auto.scatterings c.in_ok-lists.ensures.sent scattered
    (c.laws_of.ensures.deltas deltas) c.args.cells.now c.deliver.new.cells c.are_kept-with_deltas.ensures.1 c.requires.cells posts) c.deliver.ensures.cells

pub returns-clause-carries : goal.returns-clause-carries
returns-clause-carries g c = on_ok_then c.deliver.result _ _ (λ combined. omega (arith, c.write.ensures.carry_count, c.requires.carries)) c.deliver.ensures.messages
