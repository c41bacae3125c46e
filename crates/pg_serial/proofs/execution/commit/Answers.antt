use Rattle.std.proofs.Common.{◌≡◌, ℕ, ◌<◌, ◌==◌, List, Option, length, ap, arith, ◌∙◌}
use Rattle.std.specs.Prelude.{slice_index, slice_set}
use Rattle.std.specs.Vec.{with_item}
use Rattle.std.proofs.lemmas.List.{with_items_is, length-set}
use Rattle.pg_law.specs.declared.values.Datum.{Datum}
use Rattle.pg_law.specs.Configuration.{Configuration, message_in}
use Rattle.pg_law.proofs.Fitting.{outcomes_own, messages_after_own}
use Rattle.pg_serial.specs.declared.scatter.Sent.{Sent}
use Rattle.pg_serial.specs.Sending.{word_with, message_with}
use Rattle.pg_serial.proofs.Touching.{messages_set, execution_is}
use Rattle.pg_serial.proofs.Waiting.{on_err}
use Rattle.pg_serial.proofs.execution.commit.Goals as goal

pub write_words-requires : goal.write_words-requires
write_words-requires g c k d h = omega (arith, (c.requires.own k d h).edge, ap (λ (s : Configuration). length s.edges) c.state.view_is, c.requires.fit.words.count)

module _ (g : _) (c : goal.After-as_mut_slice g) where
  same_messages : c.as_mut_slice.result.now ≡ slice_set c.args.state.now.messages c.args.u c.args.applied.again
  same_messages = c.as_mut_slice.ensures.value ∙ ap (λ (s : Configuration). slice_set s.messages c.args.u c.args.applied.again) c.state.view_is

  as_many_messages : length c.as_mut_slice.result.now ≡ length c.args.graph.now.ids
  as_many_messages = ap length same_messages ∙ length-set c.args.state.now.messages c.args.u c.args.applied.again ∙ c.requires.fit.messages.count

pub deliver-requires-clause-to : goal.deliver-requires-clause-to
deliver-requires-clause-to g c κs within = λ k d h. rw (as_many_messages g c) (c.requires.own k d h).to

pub deliver-requires-clause-signals : goal.deliver-requires-clause-signals
deliver-requires-clause-signals g c κs within = λ k d h. (c.requires.own k d h).signal

pub deliver-requires-clause-messages : goal.deliver-requires-clause-messages
deliver-requires-clause-messages g c κs within = let p = g.P.VertexProgram.meaning c.args.program.now in
    let graph = c.vertices.ensures.graph in
    let fit = c.requires.fit in
    λ v h. let inside : v < length c.args.graph.now.ids = omega (arith, as_many_messages g c) in
    rw (same_messages g c, messages_set p c.args.graph.now graph c.args.state.now c.args.u c.requires.u c.args.applied c.requires.applied fit)
    ((messages_after_own p c.args.graph.now c.laws_of.ensures graph c.args.state.now.messages _ fit.messages (outcomes_own p c.args.graph.now c.laws_of.ensures graph c.args.state.now (λ v. v == c.args.u) fit)).each v inside)

pub returns-clause-ok : goal.returns-clause-ok
returns-clause-ok g c = let p = g.P.VertexProgram.meaning c.args.program.now in
    let old = c.args.state.now in
    let wrote = c.in_ok-write_words.ensures in
    let messages = with_items_is (with_item c.state.inside.messages c.args.u c.args.applied.again) c.deliver.new.messages (omega (arith, c.deliver.auto.messages, c.as_mut_slice.ensures.len)) in
    let same_words = ap (λ (s : Configuration). s.edges) c.state.view_is in
    let same_messages = c.as_mut_slice.ensures.value ∙ ap (λ (s : Configuration). slice_set s.messages c.args.u c.args.applied.again) c.state.view_is in
    let as_many_words = ap length same_words ∙ c.requires.fit.words.count in
    let as_many_messages = ap length same_messages ∙ length-set old.messages c.args.u c.args.applied.again ∙ c.requires.fit.messages.count in
    rw messages (execution_is p c.args.graph.now c.vertices.ensures.graph old c.args.u c.requires.u c.args.applied c.requires.applied c.requires.fit _ _ _
    (wrote.len ∙ as_many_words) (c.deliver.auto.messages ∙ as_many_messages)
    (ap (λ (s : Configuration). slice_set s.values c.args.u c.args.applied.datum) c.state.view_is)
    (λ e h. wrote.ok e (omega (arith, as_many_words)) ∙ ap (λ (xs : List ℕ). word_with e (slice_index xs e) c.args.sents.now) same_words ∙ ap (λ (sents : List Sent). word_with e (slice_index old.edges e) sents) c.requires.sents)
    (λ v h. c.deliver.ensures v (omega (arith, as_many_messages)) ∙ ap (λ (xs : List (Option ℕ)). message_with p v (message_in xs v) c.args.sents.now) same_messages ∙ ap (λ (sents : List Sent). message_with p v (message_in (slice_set old.messages c.args.u c.args.applied.again) v) sents) c.requires.sents))

pub returns-in_err-write_words-clause-err : goal.returns-in_err-write_words-clause-err
returns-in_err-write_words-clause-err g c = on_err _ _ (ap (configured c.state.inside.values.items c.state.inside.messages.items) c.in_err-write_words.ensures.err ∙ c.state.view_is)
  where
    configured : List Datum → List (Option ℕ) → List ℕ → Configuration
    configured values messages words = record { values = values; edges = words; messages = messages }
