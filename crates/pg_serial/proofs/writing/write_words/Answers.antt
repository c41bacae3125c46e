use Rattle.std.proofs.Common.{◌<◌, List, length, refl, ap, subst, sym, ◌∙◌}
use Rattle.std.specs.Prelude.{All, get_or}
use Rattle.std.proofs.lemmas.List.Elements.{All-map}
use Rattle.pg_law.specs.declared.edge_words.Change.{Change}
use Rattle.pg_law.specs.EdgeWords.{written}
use Rattle.pg_serial.specs.Sending.{change_of}
use Rattle.pg_serial.proofs.WordsSent.{word_kept, word_written, length-written}
use Rattle.pg_serial.proofs.writing.write_words.Goals as goal

pub returns-then-keeps_words-clause-ok : goal.returns-then-keeps_words-clause-ok
returns-then-keeps_words-clause-ok c = λ e h. sym (word_kept c.args.words.now e _ c.args.sents.now refl
    (c.keeps_words.ensures c.if-keeps_words.true))

pub write-requires : goal.write-requires
write-requires c = subst (All (λ (change : Change). change.edge < length c.args.words.now)) (sym (c.as_slice.ensures.value ∙ c.in_ok-changes.ensures))
    (All-map (λ (change : Change). change.edge < length c.args.words.now) change_of c.args.sents.now c.requires)

pub returns-clause-ok : goal.returns-clause-ok
returns-clause-ok c = λ e h. ap (λ words. get_or words e 0) c.in_ok-write.ensures.ok
    ∙ ap (λ (changes : List Change). get_or (written c.args.words.now changes) e 0) (c.as_slice.ensures.value ∙ c.in_ok-changes.ensures)
    ∙ word_written c.args.words.now e _ c.args.sents.now h refl

pub returns-clause-len : goal.returns-clause-len
returns-clause-len c = ap length c.in_ok-write.ensures.ok ∙ length-written c.args.words.now c.as_slice.result.now
