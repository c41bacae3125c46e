use Rattle.std.proofs.Common.{◌≡◌, ℕ, subst, All, sym, ◌∙◌}
use Rattle.std.specs.Prelude.{slice_index}
use Rattle.std.proofs.lemmas.List.{take_all}
use Rattle.std.proofs.lemmas.List.Elements.{All-more}
use Rattle.pg_edge_store.proofs.Words.{all_same}
use Rattle.pg_edge_store.proofs.own_words.common_word.Goals as goal

pub loop-e-preserved : goal.loop-e-preserved
loop-e-preserved c = λ k d h. All-more (λ (e : ℕ). slice_index c.args.words.now e ≡ c.word-word.result)
    c.args.numbers.now c.loop-e.e-index _ c.loop-e-test.true c.loop-e.invariant (sym c.word.ensures ∙ c.if-word.false) k d h

pub returns : goal.returns
returns c = all_same c.args.words.now c.args.numbers.now c.word-word.result
    (subst (All (λ (e : ℕ). slice_index c.args.words.now e ≡ c.word-word.result))
    (take_all c.loop-e.e-index c.args.numbers.now c.loop-e-test.false) c.loop-e.invariant)
