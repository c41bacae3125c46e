use Rattle.std.proofs.Common.{◌+◌, ◌/◌, ◌<◌, length, get_or, refl, sym, arith, ◌∙◌, ap}
use Rattle.std.proofs.lemmas.Bool.{false≢true}
use Rattle.std.proofs.lemmas.List.{get_or_default}
use Rattle.pg_cut.proofs.Blocks.{has_start, none_beyond, unmarked, few_below, place_found}
use Rattle.pg_cut.proofs.keys.Keys.place.Goals as goal

pub returns-then-block-len-clause-found : goal.returns-then-block-len-clause-found
returns-then-block-len-clause-found c = rw (← c.self.view_is)
    (λ e. absurd (false≢true e), λ has_key. absurd (none_beyond c.self.inside.numbers.items c.self.inside.starts.items c.self.inside.masks.items c.self.invariant c.args.key (omega arith) has_key))

pub returns-else-is_marked-clause-found : goal.returns-else-is_marked-clause-found
returns-else-is_marked-clause-found c = rw (← c.self.view_is)
    (λ e. absurd (false≢true e), λ has_key. absurd (unmarked c.self.inside.numbers.items c.self.inside.starts.items c.self.inside.masks.items c.self.invariant c.args.key c.index-mask.result.now (omega arith) c.index-mask.ensures (sym c.is_marked.ensures ∙ c.if-is_marked.false) has_key))

pub index-start-requires : goal.index-start-requires
index-start-requires c = omega (arith, has_start c.self.inside.numbers.items c.self.inside.starts.items c.self.inside.masks.items c.self.invariant (c.args.key / 64) (omega arith))

pub overflow_add-result : goal.overflow_add-result
overflow_add-result c = let few = few_below c.self.inside.numbers.items c.self.inside.starts.items c.self.inside.masks.items c.self.invariant c.args.key c.index-mask.result.now (omega arith) c.index-mask.ensures c.index-start.result.now c.index-start.ensures in
    omega (arith, few, c.rank.ensures.value)

pub returns-then-is_marked-clause-within : goal.returns-then-is_marked-clause-within
returns-then-is_marked-clause-within c =
    let found = place_found c.self.inside.numbers.items c.self.inside.starts.items c.self.inside.masks.items c.self.invariant c.args.key c.index-mask.result.now (omega arith) c.index-mask.ensures c.index-start.result.now c.index-start.ensures (sym c.is_marked.ensures ∙ c.if-is_marked.true) in
    rw (← c.self.view_is) (omega (arith, found.0, c.rank.ensures.value))

pub returns-then-is_marked-clause-key : goal.returns-then-is_marked-clause-key
returns-then-is_marked-clause-key c =
    let found = place_found c.self.inside.numbers.items c.self.inside.starts.items c.self.inside.masks.items c.self.invariant c.args.key c.index-mask.result.now (omega arith) c.index-mask.ensures c.index-start.result.now c.index-start.ensures (sym c.is_marked.ensures ∙ c.if-is_marked.true) in
    rw (← c.self.view_is) (ap (λ n. get_or c.self.inside.numbers.items (c.index-start.result.now + n) 0) c.rank.ensures.value ∙ found.1)

pub returns-then-is_marked-clause-found : goal.returns-then-is_marked-clause-found
returns-then-is_marked-clause-found c =
    let found = place_found c.self.inside.numbers.items c.self.inside.starts.items c.self.inside.masks.items c.self.invariant c.args.key c.index-mask.result.now (omega arith) c.index-mask.ensures c.index-start.result.now c.index-start.ensures (sym c.is_marked.ensures ∙ c.if-is_marked.true) in
    let place = c.index-start.result.now + c.rank.result in
    let within : place < length c.self.inside.numbers.items = omega (arith, found.0, c.rank.ensures.value) in
    rw (← c.self.view_is) (λ _. (place, within, get_or_default c.self.inside.numbers.items place c.args.key 0 within ∙ ap (λ n. get_or c.self.inside.numbers.items (c.index-start.result.now + n) 0) c.rank.ensures.value ∙ found.1), λ _. refl)
