use Rattle.std.proofs.Common.{ℕ, ◌++◌, ◌∷◌, [], cond, is_some, sym, ◌∙◌, ap}
use Rattle.std.specs.Prelude.{filter}
use Rattle.std.specs.List.{range_with_len}
use Rattle.std.proofs.lemmas.List.{append-nil}
use Rattle.pg_graph.proofs.Numbers.{filter_numbers_more}
use Rattle.pg_law.specs.Configuration.{message_in}
use Rattle.pg_sync.proofs.masters.signalled_in.Goals as goal

pub loop-v-preserved-then-is_none : goal.loop-v-preserved-then-is_none
loop-v-preserved-then-is_none c = let has = λ (v : ℕ). is_some (message_in c.args.messages.now v) in
    c.loop-v.invariant ∙ sym (append-nil (filter has (range_with_len 0 c.loop-v.v))) ∙ ap (λ b. filter has (range_with_len 0 c.loop-v.v) ++ cond b (c.loop-v.v ∷ []) []) (sym c.if-is_none.ensures) ∙ sym (filter_numbers_more has c.loop-v.v)

pub loop-v-preserved : goal.loop-v-preserved
loop-v-preserved c = let has = λ (v : ℕ). is_some (message_in c.args.messages.now v) in
    c.in_ok-push.ensures.items ∙ ap (λ vs. vs ++ c.loop-v.v ∷ []) c.loop-v.invariant ∙ ap (λ b. filter has (range_with_len 0 c.loop-v.v) ++ cond b (c.loop-v.v ∷ []) []) (sym c.if-is_none.ensures) ∙ sym (filter_numbers_more has c.loop-v.v)
