use Rattle.std.proofs.Common.{◌<◌, None, length, ap, arith, ◌∙◌}
use Rattle.std.specs.Prelude.{is_some}
use Rattle.std.proofs.lemmas.List.{get_or_read}
use Rattle.pg_law.specs.Configuration.{Configuration, is_signalled, message_in}
use Rattle.pg_rounds.proofs.Steps.{passed_more}
use Rattle.pg_rounds.proofs.rounds.note_frontier.Goals as goal

pub loop-v-preserved : goal.loop-v-preserved
loop-v-preserved c =
    let same = ap (λ (s : Configuration). s.messages) c.state.view_is in
    let inside : c.loop-v.v < length c.state.inside.messages.items = omega (arith, ap length same, c.requires) in
    let message = get_or_read c.state.inside.messages.items c.loop-v.v c.index.result.now inside c.index.ensures None ∙ ap (λ xs. message_in xs c.loop-v.v) same in
    passed_more (is_signalled c.args.state.now) c.loop-v.v c.is_some.result _ _ c.loop-v.invariant (c.is_some.ensures ∙ ap is_some message) c.in_ok-note_if.ensures
