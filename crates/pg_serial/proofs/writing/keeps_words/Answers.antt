use Rattle.std.proofs.Common.{◌≡◌, subst, slice_index, All, sym, ◌∙◌}
use Rattle.std.proofs.lemmas.List.{take_all}
use Rattle.std.proofs.lemmas.List.Elements.{All-more}
use Rattle.pg_serial.specs.declared.scatter.Sent.{Sent}
use Rattle.pg_serial.proofs.writing.keeps_words.Goals as goal

pub loop-sent-preserved : goal.loop-sent-preserved
loop-sent-preserved c = λ k d h. All-more (λ (sent : Sent). slice_index c.args.words.now sent.edge ≡ sent.word)
    c.args.sents.now c.loop-sent.sent-index _ c.loop-sent-test.true c.loop-sent.invariant (sym c.word.ensures ∙ c.if-word-sent.false) k d h

pub returns : goal.returns
returns c = λ yes. subst (All (λ (sent : Sent). slice_index c.args.words.now sent.edge ≡ sent.word))
    (take_all c.loop-sent.sent-index c.args.sents.now c.loop-sent-test.false) c.loop-sent.invariant
