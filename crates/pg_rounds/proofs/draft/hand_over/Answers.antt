use Rattle.std.proofs.Common.{◌≡◌, ◌<◌, ◌+◌, ◌++◌, ◌∷◌, [], None, length, take, get_or, refl, arith}
use Rattle.std.proofs.lemmas.List.{take_more}
use Rattle.pg_law.specs.Values.{one}
use Rattle.pg_law.specs.Configuration.{datum_in, message_in}
use Rattle.pg_law.specs.Carries.{carry_at}
use Rattle.pg_rounds.proofs.Drafting.{set_more}
use Rattle.pg_rounds.proofs.draft.hand_over.Goals as goal

pub loop-at-preserved : goal.loop-at-preserved
loop-at-preserved g c =
    let done = take c.loop-at.at c.args.frontier.now in
    let u = get_or c.args.frontier.now c.loop-at.at 0 in
    let here : c.loop-at.at < length c.args.frontier.now = omega arith in
    let more : take (c.loop-at.at + 1) c.args.frontier.now ≡ done ++ u ∷ [] = take_more c.args.frontier.now c.loop-at.at 0 here in
    rw more (record {
      carries = set_more None (carry_at c.args.carries.now) (λ v. None) c.loop-at.carries (length c.args.carries.now) done u None c.loop-at.auto.carries (c.requires.carries c.loop-at.at 0 here) refl c.loop-at.invariant.carries;
      values = set_more (one 0) (datum_in c.args.values.now) (datum_in c.args.drafted.now) c.loop-at.values (length c.args.values.now) done u (datum_in c.args.drafted.now u) c.loop-at.auto.values (c.requires.values c.loop-at.at 0 here) refl c.loop-at.invariant.values;
      messages = set_more None (message_in c.args.messages.now) (λ v. None) c.loop-at.messages (length c.args.messages.now) done u None c.loop-at.auto.messages (c.requires.messages c.loop-at.at 0 here) refl c.loop-at.invariant.messages;
    })
