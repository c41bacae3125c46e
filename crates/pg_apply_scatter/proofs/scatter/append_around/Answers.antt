use Rattle.std.proofs.Common.{◌∷◌, [], ◌++◌, sym, ◌∙◌, ap, append_assoc}
use Rattle.std.proofs.lemmas.List.{append-nil}
use Rattle.pg_apply_scatter.proofs.scatter.append_around.Goals as goal

pub loop-place-init : goal.loop-place-init
loop-place-init c = λ g over. ap (λ xs. c.args.places.now.items ++ xs) (c.into_iter-place-iterator.ensures.into_iter_gives ∙ c.around-place-items.ensures g over)

pub loop-place-preserved : goal.loop-place-preserved
loop-place-preserved c = λ g over. let before = c.loop-place.places.items in
    ap (λ xs. xs ++ c.next.new.self) c.in_ok-push.ensures.items ∙ append_assoc before (c.in-Some.place ∷ []) c.next.new.self
    ∙ ap (λ xs. before ++ xs) (sym c.in-Some.ensures.steps) ∙ c.loop-place.invariant g over

pub returns : goal.returns
returns c = λ g over. let all = c.loop-place.places.items in
    sym (append-nil all) ∙ ap (λ xs. all ++ xs) (sym c.in-None.ensures.steps.0) ∙ c.loop-place.invariant g over
